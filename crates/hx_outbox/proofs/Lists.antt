-- Lists at a place.
use Rattle.std.proofs.Common.{◌≡◌, ℕ, zero, suc, ◌+◌, ◌<◌, ◌≤◌, List, [], ◌∷◌, ◌++◌, map, length, slice_index_or}
use Rattle.std.proofs.Common.{slice_set, refl, ap, sym, ◌∙◌, arith, append_assoc}
use mathlib.Core.List.{IsPrefix}
use Rattle.hx_clock.specs.Views.{total}

module _ {A : Type 0} where
  pub set-total : (f : A → ℕ) (xs : List A) (i : ℕ) (x y : A) → i < length xs → x ≡ slice_index_or xs i x → total f (slice_set xs i y) + f x ≡ total f xs + f y
  set-total f [] i x y h e = absurd (omega (arith, h))
  set-total f (a ∷ xs) zero x y h e = omega (arith, ap f e)
  set-total f (a ∷ xs) (suc i) x y h e = omega (arith, set-total f xs i x y (omega (arith, h)) e)

  pub at-total : (f : A → ℕ) (xs : List A) (i : ℕ) (x : A) → i < length xs → x ≡ slice_index_or xs i x → f x ≤ total f xs
  at-total f [] i x h e = absurd (omega (arith, h))
  at-total f (a ∷ xs) zero x h e = omega (arith, ap f e)
  at-total f (a ∷ xs) (suc i) x h e = omega (arith, at-total f xs i x (omega (arith, h)) e)

  pub total-one : (xs : List A) → total (λ x. 1) xs ≡ length xs
  total-one [] = refl
  total-one (x ∷ xs) = omega (arith, total-one xs)

  pub begins-refl : (xs : List A) → IsPrefix xs xs
  begins-refl [] = ([], refl)
  begins-refl (x ∷ xs) = let h = begins-refl xs in (h.0, ap (λ w. x ∷ w) h.1)

  pub begins-trans : (xs ys zs : List A) → IsPrefix xs ys → IsPrefix ys zs → IsPrefix xs zs
  begins-trans xs ys zs h k = (h.0 ++ k.0, sym (append_assoc xs h.0 k.0) ∙ ap (λ w. w ++ k.0) h.1 ∙ k.1)

module _ {A B : Type 0} where
  pub set-map : (f : A → B) (xs : List A) (i : ℕ) (y : A) → map f (slice_set xs i y) ≡ slice_set (map f xs) i (f y)
  set-map f [] i y = refl
  set-map f (a ∷ xs) zero y = refl
  set-map f (a ∷ xs) (suc i) y = ap (λ w. f a ∷ w) (set-map f xs i y)

  pub at-map : (f : A → B) (xs : List A) (i : ℕ) (x : A) (d : B) → i < length xs → x ≡ slice_index_or xs i x → slice_index_or (map f xs) i d ≡ f x
  at-map f [] i x d h e = absurd (omega (arith, h))
  at-map f (a ∷ xs) zero x d h e = ap f (sym e)
  at-map f (a ∷ xs) (suc i) x d h e = at-map f xs i x d (omega (arith, h)) e

  pub map-length : (f : A → B) (xs : List A) → length (map f xs) ≡ length xs
  map-length f [] = refl
  map-length f (x ∷ xs) = ap suc (map-length f xs)
