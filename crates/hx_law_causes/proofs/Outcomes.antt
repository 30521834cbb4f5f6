-- Each answer of the coordinator to Stop and Add is judged on a configuration: on its own, or on the one that it issues.
use Rattle.hx_law_lemmas.proofs.Lemmas.Vocabulary.{[], Add, and_from, Answer, any_joining, ap, Bool, cond, cond_both, Config, config_with, config_without}
use Rattle.hx_law_lemmas.proofs.Lemmas.Vocabulary.{eq-eqb, eqb-true, false, false≢true, inl, is_fulfilled, is_lost, is_stop_of, judged, List, list_any}
use Rattle.hx_law_lemmas.proofs.Lemmas.Vocabulary.{lists_ready, Member, members_of, ne_eqb, None, not, Op, refl, RegionId, same_server, server_in, ServerId}
use Rattle.hx_law_lemmas.proofs.Lemmas.Vocabulary.{Some, Stop, subst, sym, true, without_server, ◌&&◌, ◌++◌, ◌||◌, ◌∙◌, ◌∷◌, ◌≡◌}
use Rattle.hx_types.specs.declared.calls.Answer.TheVariants as an_answer
use Rattle.hx_law_lemmas.proofs.Lemmas.{in_right}
use Rattle.hx_law_epochs.proofs.Lemmas.{any-of, appended-here, joiner, judged-may}

-- a test of the server and the region that an administrative call names
abbrev pub administers_to : (ServerId → RegionId → Bool) → (ServerId → Bool) → Op → Bool
administers_to add stop (Stop s) = stop s
administers_to add stop (Add s g) = add s g
administers_to add stop other = false

-- the server that it names is none of the configuration
abbrev pub not_listed : Op → Config → Bool
not_listed op config = administers_to (λ s g. not (server_in s config.servers)) (λ s. not (server_in s config.servers)) op

-- the answer is judged on the configuration, of its epoch; Issued only here
abbrev pub Judged : Type 0 → Config → Op → Answer → Type 0
Judged Here c op (an_answer.Issued epoch) = Here × (epoch ≡ c.epoch) × (is_fulfilled op c ≡ true)
Judged Here c op (an_answer.Stopped epoch) = (epoch ≡ c.epoch) × (not_listed op c ≡ true)
Judged Here c op (an_answer.Member epoch) = (epoch ≡ c.epoch) × (administers_to (λ s g. lists_ready c g s) (λ s. false) op ≡ true)
Judged Here c op (an_answer.Joining epoch) = (epoch ≡ c.epoch) × (administers_to (λ s g. any_joining (members_of c g)) (λ s. false) op ≡ true)
Judged Here c op (an_answer.Lost epoch) = (epoch ≡ c.epoch) × (administers_to (λ s g. is_lost c g) (λ s. false) op ≡ true)
Judged Here c op other = ⊥

-- why a server can't be added is judged
pub judged-is : (Here : Type 0) (c : Config) (s : ServerId) (g : RegionId) (a : Answer) → judged c s g ≡ Some a → Judged Here c (Add s g) a
judged-is Here c s g a = by (server_in s c.servers) refl (is_lost c g) refl (lists_ready c g s) refl (any_joining (members_of c g)) refl
  where
    of : (b : Answer) → Judged Here c (Add s g) b → Some b ≡ Some a → Judged Here c (Add s g) a
    of b h e = let q : b ≡ a = cc in subst (Judged Here c (Add s g)) q h

    by : (x : Bool) → server_in s c.servers ≡ x → (y : Bool) → is_lost c g ≡ y → (z : Bool) → lists_ready c g s ≡ z
        → (w : Bool) → any_joining (members_of c g) ≡ w
        → cond (not x) (Some (an_answer.Stopped c.epoch))
        (cond y (Some (an_answer.Lost c.epoch)) (cond z (Some (an_answer.Member c.epoch))
        (cond w (Some (an_answer.Joining c.epoch)) None))) ≡ Some a → Judged Here c (Add s g) a
    by false p y q z r w t e = of (an_answer.Stopped c.epoch) (refl, ap not p) e
    by true p true q z r w t e = of (an_answer.Lost c.epoch) (refl, q) e
    by true p false q true r w t e = of (an_answer.Member c.epoch) (refl, r) e
    by true p false q false r true t e = of (an_answer.Joining c.epoch) (refl, t) e
    by true p false q false r false t e = absurd (cc)

-- ---- what an issue answers

-- a server isn't among those that are left when it is out
out-without : (s : ServerId) (xs : List ServerId) → server_in s (without_server s xs) ≡ false
out-without s [] = refl
out-without s (x ∷ xs) =
    cond_both (not (same_server x s)) (x ∷ without_server s xs) (without_server s xs) (λ (l : List ServerId). server_in s l ≡ false)
    (λ t. ap (λ b. b || server_in s (without_server s xs)) (differs s x t) ∙ out-without s xs)
    (λ t. out-without s xs)
  where
    differs : (a b : ServerId) → not (same_server b a) ≡ true → same_server a b ≡ false
    differs a b t = ne_eqb a.0 b.0 (λ e. false≢true (ap not (sym (eq-eqb b.0 a.0 (sym e))) ∙ t))

-- the Stops of a server are fulfilled by the configuration that it isn't in
pub stop-judged : (Here : Type 0) → Here → (c : Config) (s : ServerId) (op : Op) → is_stop_of s op ≡ true
    → Judged Here (config_without c s) op (an_answer.Issued (config_without c s).epoch)
stop-judged Here h c s (Stop x) t =
    let e = eqb-true x.0 s.0 t in
    let same : x ≡ s = λ j. record { 0 = e j } in
    (h, refl, ap not (ap (λ (y : ServerId). server_in y (without_server s c.servers)) same ∙ out-without s c.servers))
stop-judged Here h c s other t = absurd (false≢true t)

-- an Add is fulfilled by the configuration in which the server joins the region
pub add-judged : (Here : Type 0) → Here → (c : Config) (s : ServerId) (g : RegionId) → judged c s g ≡ None
    → Judged Here (config_with c s g) (Add s g) (an_answer.Issued (config_with c s g).epoch)
add-judged Here h c s g free = (
  h,
  refl,
  ap (list_any (λ (m : Member). same_server m.server s && not m.ready)) (appended-here c s g (judged-may c s g free).not_lost)
      ∙ any-of (λ (m : Member). same_server m.server s && not m.ready) (members_of c g ++ joiner s ∷ []) (joiner s)
      (in_right (members_of c g) (joiner s ∷ []) (joiner s) (inl refl))
      (and_from (same_server s s) true (eq-eqb s.0 s.0 refl) refl),
)
