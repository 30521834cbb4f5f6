-- Rows in byte order of their own keys.
use Rattle.std.proofs.Common.{◌≡◌, ℕ, Bool, true, List, [], ◌∷◌, ◌++◌, Option, None, Some, Result, Ok, Err, IfOk, IfSome, ap, sym, ◌∙◌, subst}
use Rattle.std.specs.List.{AllByRecursion, filter}
use Rattle.std.proofs.lemmas.Bool.{cond_both}
use Rattle.hx_model.specs.Types.{RegionId, Row, Term}
use Rattle.hx_types.specs.Words.{list_of, text_below}
use Rattle.hx_law_folds.specs.Folding.{KeysAscend}
use Rattle.hx_model.specs.Matching.{matches}
use Rattle.hx_model.specs.Slots.{KeyState, found_in, object_of, rows_of}
use Rattle.hx_store.specs.Reading.{HasOwnRow, RowsAscend}

-- the rows of slots above a key are above it
rows-below : (g : RegionId) (k : List ℕ) (states : List KeyState)
    → AllByRecursion (λ (t : KeyState). text_below k t.base.key ≡ true) states → AllByRecursion (HasOwnRow g) states
    → AllByRecursion (λ (x : Row). text_below k x.key ≡ true) (rows_of g states)
rows-below g k [] h o = tt
rows-below g k (s ∷ rest) h o = by (object_of g s) o.0 (rows-below g k rest h.1 o.1)
  where
    by : (found : Option Row) → IfSome found (λ (r : Row). r.key ≡ s.base.key)
        → AllByRecursion (λ (x : Row). text_below k x.key ≡ true) (rows_of g rest)
        → AllByRecursion (λ (x : Row). text_below k x.key ≡ true) (list_of found ++ rows_of g rest)
    by None e more = more
    by (Some r) e more = (ap (text_below k) e ∙ h.0, more)

rows-ascend : (g : RegionId) (states : List KeyState) → KeysAscend states → AllByRecursion (HasOwnRow g) states → RowsAscend (rows_of g states)
rows-ascend g [] h o = tt
rows-ascend g (s ∷ rest) h o = by (object_of g s) o.0 (rows-ascend g rest h.1 o.1)
  where
    by : (found : Option Row) → IfSome found (λ (r : Row). r.key ≡ s.base.key) → RowsAscend (rows_of g rest) → RowsAscend (list_of found ++ rows_of g rest)
    by None e more = more
    by (Some r) e more = (
      subst (λ (k : List ℕ). AllByRecursion (λ (x : Row). text_below k x.key ≡ true)
          (rows_of g rest)) (sym e) (rows-below g s.base.key rest h.0 o.1),
      more,
    )

-- and so are those of them that pass
filter-all : (P : Row → Type 0) (p : Row → Bool) (rows : List Row) → AllByRecursion P rows → AllByRecursion P (filter p rows)
filter-all P p [] h = tt
filter-all P p (r ∷ rest) h = cond_both (p r) (r ∷ filter p rest) (filter p rest) (AllByRecursion P)
    (λ t. (h.0, filter-all P p rest h.1)) (λ f. filter-all P p rest h.1)

filter-ascends : (p : Row → Bool) (rows : List Row) → RowsAscend rows → RowsAscend (filter p rows)
filter-ascends p [] h = tt
filter-ascends p (r ∷ rest) h =
    cond_both (p r) (r ∷ filter p rest) (filter p rest) RowsAscend
    (λ t. (filter-all (λ (x : Row). text_below r.key x.key ≡ true) p rest h.0, filter-ascends p rest h.1))
    (λ f. filter-ascends p rest h.1)

pub found-ascend : (g : RegionId) (terms : List Term) (states : List KeyState) → KeysAscend states
    → AllByRecursion (HasOwnRow g) states → RowsAscend (found_in g terms states)
found-ascend g terms states h o = filter-ascends (λ (r : Row). matches terms r.key r.object) (rows_of g states) (rows-ascend g states h o)

-- what holds anyway holds of what is found
pub if-any : {T E : Type 0} (r : Result T E) (P : Type 0) → P → IfOk r (λ x. P)
if-any (Ok x) P p = p
if-any (Err e) P p = tt
