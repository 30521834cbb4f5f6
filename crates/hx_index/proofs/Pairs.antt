-- The rows at two numbers.
use Rattle.std.proofs.Common.{◌≡◌, ℕ, zero, suc, ◌<◌, List, [], ◌∷◌, length, slice_get, Option, None, refl, sym, subst, arith}
use Rattle.std.proofs.lemmas.Bool.{ne_eqb}
use Rattle.std.proofs.lemmas.List.{length-map}
use Rattle.hx_model.specs.Types.{Row}
use Rattle.hx_types.specs.Words.{when_some}
use Rattle.hx_index.specs.Orders.{IndexState, IsIndexOf, IsOrder, IsWithout, no_rows, rows_at, rows_with, rows_without, without}
use Rattle.hx_index.proofs.Standing.{with-other}

-- an index is its orders
pub same-orders : (rows : ℕ → Option Row) (old new : IndexState) → new.orders ≡ old.orders → IsIndexOf rows old → IsIndexOf rows new
same-orders rows old new e h = subst (λ (os : List (List ℕ)). (k : ℕ) → k < length os
    → IsOrder rows k (when_some (slice_get os k) [] (λ (order : List ℕ). order))) (sym e) h

pub without-length : (id : ℕ) (fewer more : IndexState) → IsWithout id fewer more → length fewer.orders ≡ length more.orders
without-length id fewer more e = subst (λ (os : List (List ℕ)). length os ≡ length more.orders) (sym e) (length-map more.orders (without id))

module _ (s : Option Row) where
  -- the first comes into the index of none
  pub first-comes : rows_without 0 (rows_at (s ∷ None ∷ [])) ≡ no_rows
  first-comes = λ k i. one i k
    where
      one : (i : ℕ) → rows_without 0 (rows_at (s ∷ None ∷ [])) i ≡ no_rows i
      one zero = refl
      one (suc zero) = refl
      one (suc (suc i)) = with-other (rows_at (s ∷ None ∷ [])) 0 None (suc (suc i)) (ne_eqb (suc (suc i)) 0 (λ q. omega (arith, q)))

  -- then the second
  pub second-comes : (u : Option Row) → rows_without 1 (rows_at (s ∷ u ∷ [])) ≡ rows_at (s ∷ None ∷ [])
  second-comes u = λ k i. one i k
    where
      one : (i : ℕ) → rows_without 1 (rows_at (s ∷ u ∷ [])) i ≡ rows_at (s ∷ None ∷ []) i
      one zero = refl
      one (suc zero) = refl
      one (suc (suc i)) = with-other (rows_at (s ∷ u ∷ [])) 1 None (suc (suc i)) (ne_eqb (suc (suc i)) 1 (λ q. omega (arith, q)))

  -- the first is another one
  pub first-changes : (t u : Option Row) → rows_with 0 s (rows_at (u ∷ t ∷ [])) ≡ rows_at (s ∷ t ∷ [])
  first-changes t u = λ k i. one i k
    where
      one : (i : ℕ) → rows_with 0 s (rows_at (u ∷ t ∷ [])) i ≡ rows_at (s ∷ t ∷ []) i
      one zero = refl
      one (suc i) = with-other (rows_at (u ∷ t ∷ [])) 0 s (suc i) (ne_eqb (suc i) 0 (λ q. omega (arith, q)))
