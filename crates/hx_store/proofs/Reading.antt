-- What is read of a store's slots, one after another.
use Rattle.std.proofs.Common.{◌≡◌, ℕ, zero, suc, ◌+◌, ◌==◌, nat_lt, Bool, true, cond, List, [], ◌∷◌, ◌++◌, map, take}
use Rattle.std.proofs.Common.{None, Some, refl, ap, sym, ◌∙◌, arith, append_assoc, append-nil}
use Rattle.std.specs.List.{All, AllByRecursion, filter, slice_get}
use Rattle.std.proofs.lemmas.Bool.{cond-true, cond-false, lt-ltb, ne_eqb}
use Rattle.std.proofs.lemmas.List.Elements.{All-push, filter-append}
use Rattle.hx_model.specs.Types.{Kept, RegionId, Update}
use Rattle.hx_types.proofs.Lemmas.{text_below-back, text_below-differs}
use Rattle.hx_types.specs.Words.{list_of, same_text, text_below}
use Rattle.hx_law_folds.specs.Folding.{KeysAscend}
use Rattle.hx_model.specs.Slots.{KeyState, kept_of, pending_of, pending_of_all, snapshot_of, with_state}
use Rattle.hx_slot.specs.States.{SlotState}
use Rattle.hx_store.specs.Reading.{committed_of}
use Rattle.hx_store.proofs.Lists.{take_next}

one_kept : (n : ℕ) (k : Kept) (g : RegionId) (s : KeyState) → kept_of g s ≡ k
    → map (kept_of g) (cond (nat_lt 0 n) (s ∷ []) []) ≡ list_of (cond (n == 0) None (Some k))
one_kept zero k g s e = refl
one_kept (suc n) k g s e =
    ap (map (kept_of g)) (cond-true (nat_lt 0 (suc n)) (s ∷ []) [] (lt-ltb 0 (suc n) (omega arith)))
    ∙ ap (λ (x : Kept). x ∷ []) e
    ∙ sym (ap list_of (cond-false (suc n == 0) None (Some k) (ne_eqb (suc n) 0 (λ q. omega (arith, q)))))

map-more : {A B : Type 0} (f : A → B) (xs ys : List A) → map f (xs ++ ys) ≡ map f xs ++ map f ys
map-more f [] ys = refl
map-more f (x ∷ xs) ys = ap (λ l. f x ∷ l) (map-more f xs ys)

abbrev above_zero : KeyState → Bool
above_zero s = nat_lt 0 s.floor

pub kept-next : (g : RegionId) (states : List KeyState) (i : ℕ) (b : SlotState) (kept new : List Kept)
    → slice_get states i ≡ Some b.state → b.region ≡ g → kept ≡ snapshot_of g (take i states)
    → new ≡ kept ++ committed_of b → new ≡ snapshot_of g (take (i + 1) states)
kept-next g states i b kept new at region so is =
    is
    ∙ ap (λ (l : List Kept). l ++ committed_of b) so
    ∙ ap (λ (l : List Kept). snapshot_of g (take i states) ++ l)
    (sym (one_kept b.state.floor (kept_of b.region b.state) g b.state
    (ap (λ (r : RegionId). kept_of r b.state) (sym region))))
    ∙ sym (map-more (kept_of g) (filter above_zero (take i states)) (filter above_zero (b.state ∷ [])))
    ∙ ap (map (kept_of g)) (sym (filter-append above_zero (take i states) (b.state ∷ [])))
    ∙ ap (snapshot_of g) (sym (take_next states i b.state at))

pending-more : (xs : List KeyState) (s : KeyState) → pending_of_all (xs ++ s ∷ []) ≡ pending_of_all xs ++ pending_of s
pending-more [] s = append-nil (pending_of s)
pending-more (x ∷ xs) s = ap (λ (l : List Update). pending_of x ++ l) (pending-more xs s) ∙ sym (append_assoc (pending_of x) (pending_of_all xs) (pending_of s))

pub pending-next : (states : List KeyState) (i : ℕ) (s : KeyState) (us new : List Update)
    → slice_get states i ≡ Some s → us ≡ pending_of_all (take i states) → new ≡ us ++ pending_of s
    → new ≡ pending_of_all (take (i + 1) states)
pending-next states i s us new at so is = is ∙ ap (λ (l : List Update). l ++ pending_of s) so
    ∙ sym (pending-more (take i states) s) ∙ ap pending_of_all (sym (take_next states i s at))

all-take : {A : Type 0} (P : A → Type 0) (i : ℕ) (xs : List A) → AllByRecursion P xs → AllByRecursion P (take i xs)
all-take P zero xs h = tt
all-take P (suc i) [] h = tt
all-take P (suc i) (x ∷ xs) h = (h.0, all-take P i xs h.1)

-- the keys of the first slots ascend
pub ascend-take : (i : ℕ) (states : List KeyState) → KeysAscend states → KeysAscend (take i states)
ascend-take zero states h = tt
ascend-take (suc i) [] h = tt
ascend-take (suc i) (s ∷ rest) h = (all-take (λ (t : KeyState). text_below s.base.key t.base.key ≡ true) i rest h.0, ascend-take i rest h.1)

-- a slot above all others stands at their end
pub put-last : (s : KeyState) (states : List KeyState)
    → AllByRecursion (λ (t : KeyState). text_below t.base.key s.base.key ≡ true) states → with_state s states ≡ states ++ s ∷ []
put-last s [] h = refl
put-last s (x ∷ rest) h =
    cond-false (same_text x.base.key s.base.key) _ _ (text_below-differs x.base.key s.base.key h.0)
    ∙ cond-false (text_below s.base.key x.base.key) _ _ (text_below-back x.base.key s.base.key h.0)
    ∙ ap (λ (l : List KeyState). x ∷ l) (put-last s rest h.1)

-- what holds of all holds with one more
pub all_more : {A : Type 0} (P : A → Type 0) (xs : List A) (x : A) → All P xs → P x → All P (xs ++ x ∷ [])
all_more P xs x h p = All-push P xs x h p
