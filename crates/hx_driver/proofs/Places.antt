-- Lists place by place.
use Rattle.std.proofs.Common.{◌≡◌, ℕ, zero, suc, ◌<◌, inl, inr, List, [], ◌∷◌, length, slice_index_or, slice_set, refl, ap, sym, subst, arith}
use Rattle.std.specs.List.{AllByRecursion}
use Rattle.hx_types.specs.Words.{IsIn}
use Rattle.hx_outbox.specs.Zipped.{Both}

module _ {A : Type 0} where
  pub each-set : (P : A → Type 0) (xs : List A) (i : ℕ) (y : A) → AllByRecursion P xs → P y → AllByRecursion P (slice_set xs i y)
  each-set P [] i y h k = tt
  each-set P (x ∷ xs) zero y h k = (k, h.1)
  each-set P (x ∷ xs) (suc i) y h k = (h.0, each-set P xs i y h.1 k)

  pub each-at : (P : A → Type 0) (xs : List A) (i : ℕ) (x : A) → AllByRecursion P xs → i < length xs → x ≡ slice_index_or xs i x → P x
  each-at P [] i x h lt e = absurd (omega (arith, lt))
  each-at P (y ∷ xs) zero x h lt e = subst P (sym e) h.0
  each-at P (y ∷ xs) (suc i) x h lt e = each-at P xs i x h.1 (omega (arith, lt)) e

  pub set-length : (xs : List A) (i : ℕ) (y : A) → length (slice_set xs i y) ≡ length xs
  set-length [] i y = refl
  set-length (x ∷ xs) zero y = refl
  set-length (x ∷ xs) (suc i) y = ap suc (set-length xs i y)

  pub in-set : (xs : List A) (i : ℕ) (y : A) → i < length xs → IsIn y (slice_set xs i y)
  in-set [] i y lt = absurd (omega (arith, lt))
  in-set (x ∷ xs) zero y lt = inl refl
  in-set (x ∷ xs) (suc i) y lt = inr (in-set xs i y (omega (arith, lt)))

  pub both-refl : (R : A → A → Type 0) → ((x : A) → R x x) → (xs : List A) → Both R xs xs
  both-refl R r [] = tt
  both-refl R r (x ∷ xs) = (r x, both-refl R r xs)

  pub both-set : (R : A → A → Type 0) → ((x : A) → R x x) → (xs : List A) (i : ℕ) (x y : A) → x ≡ slice_index_or xs i x → R x y → Both R xs (slice_set xs i y)
  both-set R r [] i x y e h = tt
  both-set R r (a ∷ xs) zero x y e h = (subst (λ z. R z y) e h, both-refl R r xs)
  both-set R r (a ∷ xs) (suc i) x y e h = (r a, both-set R r xs i x y e h)

  pub both-trans : (P Q R : A → A → Type 0) → ((x y z : A) → P x y → Q y z → R x z) → (xs ys zs : List A) → Both P xs ys → Both Q ys zs → Both R xs zs
  both-trans P Q R f [] [] [] h k = tt
  both-trans P Q R f [] [] (z ∷ zs) h k = absurd k
  both-trans P Q R f [] (y ∷ ys) zs h k = absurd h
  both-trans P Q R f (x ∷ xs) [] zs h k = absurd h
  both-trans P Q R f (x ∷ xs) (y ∷ ys) [] h k = absurd k
  both-trans P Q R f (x ∷ xs) (y ∷ ys) (z ∷ zs) h k = (f x y z h.0 k.0, both-trans P Q R f xs ys zs h.1 k.1)

  pub both-and : (P Q : A → A → Type 0) (xs ys : List A) → Both P xs ys → Both Q xs ys → Both (λ x y. P x y × Q x y) xs ys
  both-and P Q [] [] h k = tt
  both-and P Q [] (y ∷ ys) h k = absurd h
  both-and P Q (x ∷ xs) [] h k = absurd h
  both-and P Q (x ∷ xs) (y ∷ ys) h k = ((h.0, k.0), both-and P Q xs ys h.1 k.1)

  pub both-length : (R : A → A → Type 0) (xs ys : List A) → Both R xs ys → length ys ≡ length xs
  both-length R [] [] h = refl
  both-length R [] (y ∷ ys) h = absurd h
  both-length R (x ∷ xs) [] h = absurd h
  both-length R (x ∷ xs) (y ∷ ys) h = ap suc (both-length R xs ys h.1)
