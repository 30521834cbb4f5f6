-- The next configuration: the one before without the departed, with joiners made ready and at most one more for each region, follows on the one before.
use Rattle.hx_law_lemmas.proofs.Lemmas.Vocabulary.{[], and_from, any_joining, any_ready, ap, Bool, cases_Bool, cases_eq, cond, cond_both, Config, config_with}
use Rattle.hx_law_lemmas.proofs.Lemmas.Vocabulary.{eq-eqb, false, false≢true, filter, inl, inr, is_lost, IsBefore, IsIn, judged, List, list_any, lists_ready}
use Rattle.hx_law_lemmas.proofs.Lemmas.Vocabulary.{Member, members_of, next_config, None, not, Option, refl, RegionId, same_server, server_in, ServerId}
use Rattle.hx_law_lemmas.proofs.Lemmas.Vocabulary.{slice_get, slice_set, Some, subst, suc, sym, true, when_some, zero, ℕ, ◌&&◌, ◌++◌, ◌||◌, ◌∙◌, ◌∷◌, ◌≡◌, ◌⊎◌}
use Rattle.hx_types.specs.declared.calls.Answer.TheVariants as an_answer
use Rattle.hx_law_lemmas.proofs.Lemmas.{Differ, server-in}

-- a server that joins a region
abbrev pub joiner : ServerId → Member
joiner s = record { server = s; ready = false }

-- what holds of the lists of a configuration: members are servers of it, each once, and who isn't ready stands last
pub record IsOrderly (c : Config) : Type 0 where
  pub members : (g : RegionId) (m : Member) → IsIn m (members_of c g) → IsIn m.server c.servers
  pub differ : (g : RegionId) → Differ (members_of c g)
  pub joins_last : (g : RegionId) (m x : Member) → IsBefore m x (members_of c g) → m.ready ≡ true

-- the server may join the region: it is one of the servers and not a member, the region isn't lost, and nobody else joins it
pub record MayJoin (c : Config) (s : ServerId) (g : RegionId) : Type 0 where
  pub known : IsIn s c.servers
  pub not_lost : is_lost c g ≡ false
  pub all_ready : (m : Member) → IsIn m (members_of c g) → m.ready ≡ true
  pub no_member : (m : Member) → IsIn m (members_of c g) → m.server ≡ s → ⊥

-- in each region at most one more
pub record Grown (c d : Config) : Type 0 where
  pub epoch : d.epoch ≡ c.epoch
  pub servers : d.servers ≡ c.servers
  pub lists : (g : RegionId) → (members_of d g ≡ members_of c g) ⊎ ((s : ServerId) × (members_of d g ≡ members_of c g ++ joiner s ∷ []) × MayJoin c s g)

-- a test that holds of a member holds of some
pub any-of : {A : Type 0} (test : A → Bool) (xs : List A) (x : A) → IsIn x xs → test x ≡ true → list_any test xs ≡ true
any-of test [] x i t = absurd i
any-of test (y ∷ ys) x (inl e) t = here (test y) (ap test (sym e) ∙ t)
  where
    here : (b : Bool) → b ≡ true → (b || list_any test ys) ≡ true
    here b e = ap (λ c. c || list_any test ys) e
any-of test (y ∷ ys) x (inr i) t = there (test y) (any-of test ys x i t)
  where
    there : (b : Bool) → list_any test ys ≡ true → (b || list_any test ys) ≡ true
    there true e = refl
    there false e = e

-- who passes the test stays
pub filter-in : {A : Type 0} (test : A → Bool) (xs : List A) (p : A) → IsIn p xs → test p ≡ true → IsIn p (filter test xs)
filter-in test [] p i t = absurd i
filter-in test (x ∷ xs) p i t =
    cond_both (test x) (x ∷ filter test xs) (filter test xs) (λ l. IsIn p l)
    (λ u. elim i [ inl e ↦ inl e | inr j ↦ inr (filter-in test xs p j t) ])
    (λ u. elim i [ inl e ↦ absurd (false≢true (sym u ∙ ap test (sym e) ∙ t)) | inr j ↦ filter-in test xs p j t ])

-- ---- the lists with servers added

-- what stands at an index of a list that has one item set
pub set-here : {A : Type 0} (xs : List A) (k : ℕ) (x y : A) → slice_get xs k ≡ Some x → slice_get (slice_set xs k y) k ≡ Some y
set-here [] k x y e = absurd (cc)
set-here (a ∷ xs) zero x y e = refl
set-here (a ∷ xs) (suc k) x y e = set-here xs k x y e

pub set-other : {A : Type 0} (xs : List A) (k j : ℕ) (y : A) → (j ≡ k → ⊥) → slice_get (slice_set xs k y) j ≡ slice_get xs j
set-other [] k j y n = refl
set-other (a ∷ xs) zero zero y n = absurd (n refl)
set-other (a ∷ xs) zero (suc j) y n = refl
set-other (a ∷ xs) (suc k) zero y n = refl
set-other (a ∷ xs) (suc k) (suc j) y n = set-other xs k j y (λ e. n (ap (λ i. suc i) e))

-- the members of a region to which a server is appended, where there are some
pub appended-here : (c : Config) (s : ServerId) (g : RegionId) → is_lost c g ≡ false → members_of (config_with c s g) g ≡ members_of c g ++ joiner s ∷ []
appended-here c s g l = by (slice_get c.regions g.0) refl l
  where
    by : (o : Option (List Member)) → slice_get c.regions g.0 ≡ o
        → not (any_ready (when_some o [] (λ (ms : List Member). ms))) ≡ false
        → members_of (config_with c s g) g ≡ members_of c g ++ joiner s ∷ []
    by None e f = absurd (false≢true (sym f))
    by (Some ms) e f = ap (λ (o : Option (List Member)). when_some o [] (λ (xs : List Member). xs))
        (set-here c.regions g.0 ms (members_of c g ++ joiner s ∷ []) e)

-- and those of another region
appended-other : (c : Config) (s : ServerId) (g h : RegionId) → (h.0 ≡ g.0 → ⊥) → members_of (config_with c s g) h ≡ members_of c h
appended-other c s g h n = ap (λ (o : Option (List Member)). when_some o [] (λ (xs : List Member). xs))
    (set-other c.regions g.0 h.0 (members_of c g ++ joiner s ∷ []) n)

-- where nothing speaks against it, the server may join
pub judged-may : (c : Config) (s : ServerId) (g : RegionId) → judged c s g ≡ None → MayJoin c s g
judged-may c s g = by (server_in s c.servers) refl (is_lost c g) refl (lists_ready c g s) refl (any_joining (members_of c g)) refl
  where
    by : (a : Bool) → server_in s c.servers ≡ a → (b : Bool) → is_lost c g ≡ b → (x : Bool) → lists_ready c g s ≡ x
        → (d : Bool) → any_joining (members_of c g) ≡ d
        → cond (not a) (Some (an_answer.Stopped c.epoch))
        (cond b (Some (an_answer.Lost c.epoch)) (cond x (Some (an_answer.Member c.epoch))
        (cond d (Some (an_answer.Joining c.epoch)) None))) ≡ None → MayJoin c s g
    by false p b q x r d t e = absurd (cc)
    by true p true q x r d t e = absurd (cc)
    by true p false q true r d t e = absurd (cc)
    by true p false q false r true t e = absurd (cc)
    by true p false q false r false t e = record {
      known = server-in s c.servers p;
      not_lost = q;
      all_ready = ready;
      no_member = λ m i z. false≢true (sym r ∙ any-of (λ (x : Member). same_server x.server s && x.ready)
          (members_of c g) m i (and_from (same_server m.server s) m.ready
          (eq-eqb m.server.0 s.0 (ap (λ (y : ServerId). y.0) z)) (ready m i)));
    }
      where
        ready : (m : Member) → IsIn m (members_of c g) → m.ready ≡ true
        ready m i = elim (cases_Bool m.ready) [
          | inl u ↦ u
          | inr u ↦ absurd (false≢true (sym t ∙ any-of (λ (x : Member). not x.ready) (members_of c g) m i (ap not u)))
        ]

-- the configuration of the next epoch, with nothing else changed
abbrev pub renumbered : Config → Config
renumbered c = next_config c c.servers c.regions

-- to which a server is appended
pub config_with-grown : (c : Config) (s : ServerId) (g : RegionId) → MayJoin c s g → Grown (renumbered c) (config_with c s g)
config_with-grown c s g may = record {
  epoch = refl;
  servers = refl;
  lists = λ k. elim (cases_eq k.0 g.0) [
    | inl e ↦ (let z : k ≡ g = λ j. record { 0 = e j } in
        subst (λ (q : RegionId). (members_of (config_with c s g) q ≡ members_of c q)
        ⊎ ((x : ServerId) × (members_of (config_with c s g) q ≡ members_of c q ++ joiner x ∷ [])
        × MayJoin (renumbered c) x q)) (sym z)
        (inr (
          s,
          appended-here c s g may.not_lost,
          record {
            known = may.known;
            not_lost = may.not_lost;
            all_ready = may.all_ready;
            no_member = may.no_member;
          },
        )))
    | inr n ↦ inl (appended-other c s g k n)
  ];
}
