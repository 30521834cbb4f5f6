-- The three configurations that are issued follow on the one before: a server is out, joins a region, or is ready in it; and each is orderly.
use Rattle.hx_law_lemmas.proofs.Lemmas.Vocabulary.{[], and_parts, ap, Bool, cases_Bool, cases_eq, Config, config_ready, config_with, config_without, eq-eqb}
use Rattle.hx_law_lemmas.proofs.Lemmas.Vocabulary.{eqb-true, false, false≢true, filter, inl, inr, is_lost, IsIn, judged, List, list_any, lists_ready, map}
use Rattle.hx_law_lemmas.proofs.Lemmas.Vocabulary.{Member, members_of, members_without, None, not, Option, ready_if, refl, RegionId, same_region, same_server}
use Rattle.hx_law_lemmas.proofs.Lemmas.Vocabulary.{ServerId, slice_get, Some, subst, suc, sym, true, when_some, zero, ℕ, ◌&&◌, ◌||◌, ◌∙◌, ◌∷◌, ◌≡◌, ◌⊎◌}
use Rattle.hx_law_epochs.specs.Epochs.{FollowsOn}
use Rattle.hx_law_epochs.proofs.Follows.{ComesNext, grown-comes}
use Rattle.hx_law_epochs.proofs.Next.{Grown, IsOrderly, config_with-grown, filter-in, judged-may, renumbered, set-here, set-other}

-- nobody becomes ready
abbrev nobody : RegionId → ServerId → Bool
nobody g x = false

-- a member, ready if the test holds of it
abbrev turned : (ServerId → Bool) → Member → Member
turned turn m = record { server = m.server; ready = m.ready || turn m.server }

-- members for whom the test doesn't hold stay as they are
none-turned : (ms : List Member) → ms ≡ map (turned (λ x. false)) ms
none-turned [] = refl
none-turned (m ∷ ms) = ap (λ (b : Bool). record { server = m.server; ready = b } ∷ ms) (or-false m.ready)
    ∙ ap (λ (l : List Member). turned (λ x. false) m ∷ l) (none-turned ms)
  where
    or-false : (b : Bool) → b ≡ (b || false)
    or-false true = refl
    or-false false = refl

-- nobody of a list is out
none-out : {A : Type 0} (xs : List A) → xs ≡ filter (λ x. not false) xs
none-out [] = refl
none-out (x ∷ xs) = ap (λ l. x ∷ l) (none-out xs)

-- nobody is out, nobody becomes ready
all-stay : (ms : List Member) → ms ≡ map (turned (λ x. false)) (filter (λ (m : Member). not false) ms)
all-stay ms = none-out ms ∙ none-turned (filter (λ (m : Member). not false) ms)

-- what grew by nothing
same-grown : (c : Config) → Grown c c
same-grown c = record { epoch = refl; servers = refl; lists = λ g. inl refl }

-- ---- a server is out

-- the list at an index of lists that are each changed
map-at : (f : List Member → List Member) → f [] ≡ [] → (xs : List (List Member)) (k : ℕ)
    → when_some (slice_get (map f xs) k) [] (λ (ms : List Member). ms) ≡ f (when_some (slice_get xs k) [] (λ (ms : List Member). ms))
map-at f e [] k = sym e
map-at f e (x ∷ xs) zero = refl
map-at f e (x ∷ xs) (suc k) = map-at f e xs k

module _ (c : Config) (s : ServerId) where
  without-left : (g : RegionId) → members_of (config_without c s) g
      ≡ map (turned (nobody g)) (filter (λ (m : Member). not (same_server m.server s)) (members_of c g))
  without-left g = map-at (members_without s) refl c.regions g.0 ∙ none-turned (members_without s (members_of c g))

  pub without-comes : IsOrderly c → ComesNext c (config_without c s) nobody
  without-comes ok =
      let n = config_without c s in
      grown-comes c n ok (λ (y : ServerId). same_server y s) nobody (λ g x t. absurd (false≢true t)) refl refl without-left n (same-grown n)

  -- all others stay
  pub without-leaves : (x : ServerId) → IsIn x c.servers → IsIn x (config_without c s).servers ⊎ (x ≡ s)
  without-leaves x i = elim (cases_Bool (same_server x s)) [
    | inl t ↦ inr (let q = eqb-true x.0 s.0 t in λ j. record { 0 = q j })
    | inr t ↦ inl (filter-in (λ (y : ServerId). not (same_server y s)) c.servers x i (ap not t))
  ]

module _ (c : Config) (s : ServerId) (g : RegionId) where
  -- ---- a server joins a region

  pub with-comes : IsOrderly c → judged c s g ≡ None → ComesNext c (config_with c s g) nobody
  with-comes ok free =
      grown-comes c (renumbered c) ok (λ (y : ServerId). false) nobody (λ h x t. absurd (false≢true t)) refl
      (none-out c.servers) (λ h. all-stay (members_of c h))
      (config_with c s g) (config_with-grown c s g (judged-may c s g free))

  -- ---- a server is ready in a region

  -- the server, in the region
  abbrev becomes : RegionId → ServerId → Bool
  becomes h x = same_region h g && same_server x s

  -- who becomes ready is the server, in the region
  becomes-is : (h : RegionId) (x : ServerId) → becomes h x ≡ true → (h ≡ g) × (x ≡ s)
  becomes-is h x t =
      let a = and_parts (same_region h g) (same_server x s) t in
      let p = eqb-true h.0 g.0 a.0 in let q = eqb-true x.0 s.0 a.1 in ((λ j. record { 0 = p j }), (λ j. record { 0 = q j }))

  -- what is left of a region's members: all, and those ready who become so
  abbrev Left : RegionId → Type 0
  Left h = members_of (config_ready c s g) h ≡ map (turned (becomes h)) (filter (λ (m : Member). not false) (members_of c h))

  -- of the region
  left-here : is_lost c g ≡ false → Left g
  left-here alive =
      at (slice_get c.regions g.0) refl alive
      ∙ ap (λ (b : Bool). map (turned (λ (x : ServerId). b && same_server x s)) (members_of c g)) (sym (eq-eqb g.0 g.0 refl))
      ∙ ap (map (turned (becomes g))) (none-out (members_of c g))
    where
      ready-of : Option (List Member) → Bool
      ready-of o = not (list_any (λ (m : Member). m.ready) (when_some o [] (λ (ms : List Member). ms)))

      at : (o : Option (List Member)) → slice_get c.regions g.0 ≡ o → is_lost c g ≡ false
          → members_of (config_ready c s g) g ≡ map (ready_if s) (members_of c g)
      at None e l = absurd (false≢true (sym l ∙ ap ready-of e))
      at (Some ms) e l = ap (λ (o : Option (List Member)). when_some o [] (λ (xs : List Member). xs))
          (set-here c.regions g.0 ms (map (ready_if s) (members_of c g)) e)

  -- and of others
  left-other : (h : RegionId) → (h.0 ≡ g.0 → ⊥) → Left h
  left-other h n =
      ap (λ (o : Option (List Member)). when_some o [] (λ (xs : List Member). xs)) (set-other c.regions g.0 h.0 (map (ready_if s) (members_of c g)) n)
      ∙ all-stay (members_of c h)
      ∙ ap (λ (b : Bool). map (turned (λ (x : ServerId). b && same_server x s)) (filter (λ (m : Member). not false) (members_of c h))) (sym other)
    where
      other : same_region h g ≡ false
      other = elim (cases_Bool (same_region h g)) [ inl t ↦ absurd (n (eqb-true h.0 g.0 t)) | inr t ↦ t ]

  ready-left : is_lost c g ≡ false → (h : RegionId) → Left h
  ready-left alive h = elim (cases_eq h.0 g.0) [
    | inl e ↦ subst Left (sym (let z : h ≡ g = (λ j. record { 0 = e j }) in z)) (left-here alive)
    | inr n ↦ left-other h n
  ]

  pub ready-comes : IsOrderly c → is_lost c g ≡ false → ComesNext c (config_ready c s g) becomes
  ready-comes ok alive =
      let n = config_ready c s g in
      grown-comes c n ok (λ (y : ServerId). false) becomes (λ h x t. subst (λ (q : RegionId). is_lost c q ≡ false) (sym (becomes-is h x t).0) alive)
      refl (none-out c.servers) (ready-left alive) n (same-grown n)

-- ---- each of the three follows on the one before, is orderly, and has nobody ready but who was so or became so

pub without-follows : (c : Config) (s : ServerId) → IsOrderly c → FollowsOn c (config_without c s)
without-follows c s ok = (without-comes c s ok).follows

pub without-orderly : (c : Config) (s : ServerId) → IsOrderly c → IsOrderly (config_without c s)
without-orderly c s ok = (without-comes c s ok).orderly

pub without-ready : (c : Config) (s : ServerId) → IsOrderly c → (h : RegionId) (x : ServerId)
    → lists_ready (config_without c s) h x ≡ true → lists_ready c h x ≡ true
without-ready c s ok h x t = elim ((without-comes c s ok).ready h x t) [ inl u ↦ u | inr u ↦ absurd (false≢true u) ]

pub with-follows : (c : Config) (s : ServerId) (g : RegionId) → IsOrderly c → judged c s g ≡ None → FollowsOn c (config_with c s g)
with-follows c s g ok free = (with-comes c s g ok free).follows

pub with-orderly : (c : Config) (s : ServerId) (g : RegionId) → IsOrderly c → judged c s g ≡ None → IsOrderly (config_with c s g)
with-orderly c s g ok free = (with-comes c s g ok free).orderly

pub with-ready : (c : Config) (s : ServerId) (g : RegionId) → IsOrderly c → judged c s g ≡ None → (h : RegionId) (x : ServerId)
    → lists_ready (config_with c s g) h x ≡ true → lists_ready c h x ≡ true
with-ready c s g ok free h x t = elim ((with-comes c s g ok free).ready h x t) [ inl u ↦ u | inr u ↦ absurd (false≢true u) ]

pub ready-follows : (c : Config) (s : ServerId) (g : RegionId) → IsOrderly c → is_lost c g ≡ false → FollowsOn c (config_ready c s g)
ready-follows c s g ok alive = (ready-comes c s g ok alive).follows

pub ready-orderly : (c : Config) (s : ServerId) (g : RegionId) → IsOrderly c → is_lost c g ≡ false → IsOrderly (config_ready c s g)
ready-orderly c s g ok alive = (ready-comes c s g ok alive).orderly

pub ready-ready : (c : Config) (s : ServerId) (g : RegionId) → IsOrderly c → is_lost c g ≡ false → (h : RegionId) (x : ServerId)
    → lists_ready (config_ready c s g) h x ≡ true → (lists_ready c h x ≡ true) ⊎ ((h ≡ g) × (x ≡ s))
ready-ready c s g ok alive h x t = elim ((ready-comes c s g ok alive).ready h x t) [ inl u ↦ inl u | inr u ↦ inr (becomes-is c s g h x u) ]
