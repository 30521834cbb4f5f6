-- A snapshot with the pending updates of its sender stands for the sender's slots without their past.
use Rattle.hx_law_folds.proofs.Vocabulary.{[], AllByRecursion, ap, append-nil, arith, Bool, CanBeSent, cond, cond-false, cond-true, cond_both, eq_of_same_text}
use Rattle.hx_law_folds.proofs.Vocabulary.{false, filter, folded, Forget, is_key_region, kept_among, kept_of, KeysDiffer, KeyState, List, ltb, map, moved}
use Rattle.hx_law_folds.proofs.Vocabulary.{new_state, no_kept, None, over, pending_of, pending_of_all, refl, RegionId, reverse, same_text, snapshot_of, Space}
use Rattle.hx_law_folds.proofs.Vocabulary.{state_among, state_from, subst, sym, true, Update, ℕ, ◌++◌, ◌∙◌, ◌∷◌, ◌≡◌}
use Rattle.std.proofs.lemmas.Bool.{ltb-false}
use Rattle.hx_model.specs.Holders.{snap_state}
use Rattle.hx_law_folds.proofs.Joining.{base-over, pending-reversed}
use Rattle.hx_law_folds.proofs.Lists.{all-weaker}
use Rattle.hx_law_folds.proofs.Slots.{all-pending}
use Rattle.hx_law_folds.proofs.States.{provided-nothing}

-- a key that no slot has
absent : (at_key : Bool) (key : List ℕ) (states : List KeyState)
    → AllByRecursion (λ (t : KeyState). same_text t.base.key key ≡ false) states
    → state_among at_key key states ≡ new_state at_key key
absent at_key key [] h = refl
absent at_key key (s ∷ rest) h = cond-false (same_text s.base.key key) _ _ h.0 ∙ absent at_key key rest h.1

-- the committed state of a new slot
kept-new : (g : RegionId) (at_key : Bool) (key : List ℕ) → kept_of g (new_state at_key key) ≡ no_kept key
kept-new g at_key key = λ j. record {
  key = key;
  floor = record { 0 = 0 };
  object = None;
  marks = provided-nothing at_key j;
  touches = provided-nothing at_key j;
}

-- the committed state in a snapshot
pub kept-sent : (g : RegionId) (at_key : Bool) (key : List ℕ) (states : List KeyState) → AllByRecursion (CanBeSent g at_key) states → KeysDiffer states
    → kept_among key (snapshot_of g states) ≡ kept_of g (state_among at_key key states)
kept-sent g at_key key [] h d = sym (kept-new g at_key key)
kept-sent g at_key key (s ∷ rest) h d =
    cond_both (ltb 0 s.floor) (s ∷ filter (λ (x : KeyState). ltb 0 x.floor) rest) (filter (λ (x : KeyState). ltb 0 x.floor) rest)
    (λ (l : List KeyState). kept_among key (map (kept_of g) l) ≡ kept_of g (state_among at_key key (s ∷ rest)))
    (
    λ e. cond_both (same_text s.base.key key) s (state_among at_key key rest)
    (λ (x : KeyState). cond (same_text s.base.key key) (kept_of g s) (kept_among key (snapshot_of g rest)) ≡ kept_of g x)
    (λ t. cond-true (same_text s.base.key key) _ _ t)
    (λ t. cond-false (same_text s.base.key key) _ _ t ∙ kept-sent g at_key key rest h.1 d.1)
    )
    (
    λ e. let z = ltb-false 0 s.floor e in
    kept-sent g at_key key rest h.1 d.1
    ∙ cond_both (same_text s.base.key key) s (state_among at_key key rest) (λ (x : KeyState). kept_of g (state_among at_key key rest) ≡ kept_of g x)
    (
    λ t. let q = eq_of_same_text s.base.key key t in
    ap (kept_of g) (absent at_key key rest (subst (λ (k : List ℕ). AllByRecursion (λ (x : KeyState). same_text x.base.key k ≡ false) rest) q d.0))
    ∙ kept-new g at_key key
    ∙ ap no_kept (sym q)
    ∙ sym (h.0.empty (omega (arith, z)))
    )
    (λ t. refl)
    )

-- the pending updates of a key among those of all
filter-append : (test : Update → Bool) (us vs : List Update) → filter test (us ++ vs) ≡ filter test us ++ filter test vs
filter-append test [] vs = refl
filter-append test (u ∷ us) vs =
    cond_both (test u) (u ∷ filter test us) (filter test us) (λ (l : List Update). filter test (u ∷ (us ++ vs)) ≡ l ++ filter test vs)
    (λ e. cond-true (test u) _ _ e ∙ ap (λ (l : List Update). u ∷ l) (filter-append test us vs))
    (λ e. cond-false (test u) _ _ e ∙ filter-append test us vs)

filter-all : (test : Update → Bool) (us : List Update) → AllByRecursion (λ (u : Update). test u ≡ true) us → filter test us ≡ us
filter-all test [] h = refl
filter-all test (u ∷ us) h = cond-true (test u) _ _ h.0 ∙ ap (λ (l : List Update). u ∷ l) (filter-all test us h.1)

filter-none : (test : Update → Bool) (us : List Update) → AllByRecursion (λ (u : Update). test u ≡ false) us → filter test us ≡ []
filter-none test [] h = refl
filter-none test (u ∷ us) h = cond-false (test u) _ _ h.0 ∙ filter-none test us h.1

abbrev of_key : List ℕ → Update → Bool
of_key key u = same_text u.key key

-- the updates of a slot are of its key
of-slot : (g : RegionId) (at_key : Bool) (s : KeyState) → CanBeSent g at_key s → (key : List ℕ) (b : Bool)
    → same_text s.base.key key ≡ b → AllByRecursion (λ (u : Update). of_key key u ≡ b) (pending_of s)
of-slot g at_key s h key b e =
    all-weaker (λ (u : Update). same_text u.key s.base.key ≡ true) (λ (u : Update). of_key key u ≡ b)
    (λ u k. ap (λ (x : List ℕ). same_text x key) (eq_of_same_text u.key s.base.key k) ∙ e)
    (pending_of s)
    (all-pending (λ (u : Update). same_text u.key s.base.key ≡ true) s.floor s.accepted h.keys)

none-pending : (g : RegionId) (at_key : Bool) (key : List ℕ) (states : List KeyState)
    → AllByRecursion (CanBeSent g at_key) states → AllByRecursion
    (λ (t : KeyState). same_text t.base.key key ≡ false) states → filter (of_key key) (pending_of_all states) ≡ []
none-pending g at_key key [] h a = refl
none-pending g at_key key (s ∷ rest) h a =
    filter-append (of_key key) (pending_of s) (pending_of_all rest)
    ∙ (λ j. filter-none (of_key key) (pending_of s) (of-slot g at_key s h.0 key false a.0) j ++ none-pending g at_key key rest h.1 a.1 j)

pub pending-sent : (g : RegionId) (at_key : Bool) (key : List ℕ) (states : List KeyState) → AllByRecursion (CanBeSent g at_key) states → KeysDiffer states
    → filter (λ (u : Update). same_text u.key key) (pending_of_all states) ≡ pending_of (state_among at_key key states)
pending-sent g at_key key [] h d = refl
pending-sent g at_key key (s ∷ rest) h d =
    filter-append (of_key key) (pending_of s) (pending_of_all rest)
    ∙ cond_both (same_text s.base.key key) s (state_among at_key key rest)
    (λ (x : KeyState). filter (of_key key) (pending_of s) ++ filter (of_key key) (pending_of_all rest) ≡ pending_of x)
    (
    λ t. let q = eq_of_same_text s.base.key key t in
    (λ j. filter-all (of_key key) (pending_of s) (of-slot g at_key s h.0 key true t) j
    ++ none-pending g at_key key rest h.1 (subst (λ (k : List ℕ). AllByRecursion
    (λ (x : KeyState). same_text x.base.key k ≡ false) rest) q d.0) j)
    ∙ append-nil (pending_of s)
    )
    (λ t. λ j. filter-none (of_key key) (pending_of s) (of-slot g at_key s h.0 key false t) j ++ pending-sent g at_key key rest h.1 d.1 j)

pub among-marks : (g : RegionId) (at_key : Bool) (key : List ℕ) (states : List KeyState)
    → AllByRecursion (CanBeSent g at_key) states → (state_among at_key key states).marks ≡ at_key
among-marks g at_key key [] h = refl
among-marks g at_key key (s ∷ rest) h = cond_both (same_text s.base.key key) s (state_among at_key key rest)
    (λ (x : KeyState). x.marks ≡ at_key) (λ t. h.0.marks) (λ t. among-marks g at_key key rest h.1)

-- what a snapshot with its pending updates stands for
pub sent : (space : Space) (g : RegionId) (key : List ℕ) (states : List KeyState)
    → AllByRecursion (CanBeSent g (is_key_region space g)) states → KeysDiffer states
    → snap_state space g key (snapshot_of g states) (pending_of_all states) ≡ moved Forget (folded g (state_among (is_key_region space g) key states))
sent space g key states h d =
    let at_key = is_key_region space g in
    let s = state_among at_key key states in
    let marks = among-marks g at_key key states h in
    let from : state_from at_key (kept_among key (snapshot_of g states)) ≡ over g s = λ j. state_from (sym marks j) (kept-sent g at_key key states h d j) in
    (λ j. record (from j) { accepted = reverse (pending-sent g at_key key states h d j) })
    ∙ (λ j. record {
      marks = s.marks;
      base = base-over g s j;
      accepted = pending-reversed s.floor s.accepted j;
      floor = (base-over g s j).floor.0;
      acked = [];
      early = [];
    })
