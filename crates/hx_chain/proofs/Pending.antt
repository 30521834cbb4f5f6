-- A walk over a list by its places.
use Rattle.std.proofs.Common.{◌≡◌, ℕ, zero, suc, ◌+◌, List, [], ◌∷◌, drop, None, Some, refl, ap, sym, add-one, ◌∙◌}
use Rattle.std.specs.List.{slice_get}

-- what stands at a place is the first of the rest
pub drop_at : {A : Type 0} (xs : List A) (i : ℕ) (x : A) → Some x ≡ slice_get xs i → drop i xs ≡ x ∷ drop (i + 1) xs
drop_at xs i x e = by xs i e ∙ ap (λ n. x ∷ drop n xs) (sym (add-one i))
  where
    by : (xs : List _) (i : ℕ) → Some x ≡ slice_get xs i → drop i xs ≡ x ∷ drop (suc i) xs
    by [] i e = cc
    by (y ∷ ys) zero e = cc
    by (y ∷ ys) (suc i) e = by ys i e

-- nothing stands at a place past the end
pub none_at : {A : Type 0} (xs : List A) (i : ℕ) → None ≡ slice_get xs i → drop i xs ≡ []
none_at [] zero e = refl
none_at [] (suc i) e = refl
none_at (x ∷ xs) zero e = cc
none_at (x ∷ xs) (suc i) e = none_at xs i e
