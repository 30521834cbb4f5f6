-- Lists: membership, sums, prefixes.
use Rattle.std.proofs.Common.{◌≡◌, ◌≢◌, ℕ, zero, suc, ◌+◌, ◌<◌, ◌≤◌, ◌⊎◌, inl, inr, ⊎_elim, List, [], ◌∷◌, ◌++◌}
use Rattle.std.proofs.Common.{length, set, Some, slice_get, refl, ap, sym, subst, ◌∙◌, arith, append_assoc}
use Rattle.std.specs.List.{AllByRecursion}
use mathlib.Core.Option.{some, some-injective, some-ne-none}
use mathlib.Core.List.{IsPrefix}
use lib.ListN.{get_elem?}
use Rattle.atomic_table.proofs.Lists.{at_set, at_snoc}
use Rattle.hx_types.specs.Words.{IsIn}
use Rattle.hx_clock.specs.Views.{total}

module _ {A : Type 0} where
  pub in_left : (x : A) (xs ys : List A) → IsIn x xs → IsIn x (xs ++ ys)
  in_left x [] ys h = absurd h
  in_left x (y ∷ xs) ys h = ⊎_elim (λ e. inl e) (λ r. inr (in_left x xs ys r)) h

  pub in_right : (x : A) (xs ys : List A) → IsIn x ys → IsIn x (xs ++ ys)
  in_right x [] ys h = h
  in_right x (y ∷ xs) ys h = inr (in_right x xs ys h)

  pub each_in : (P : A → Type 0) (xs : List A) (x : A) → AllByRecursion P xs → IsIn x xs → P x
  each_in P [] x h i = absurd i
  each_in P (y ∷ xs) x h i = ⊎_elim (λ e. subst P (sym e) h.0) (λ r. each_in P xs x h.1 r) i

  pub each_all : (P : A → Type 0) (xs : List A) → ((x : A) → IsIn x xs → P x) → AllByRecursion P xs
  each_all P [] f = tt
  each_all P (x ∷ xs) f = (f x (inl refl), each_all P xs (λ y i. f y (inr i)))

  pub each_append : (P : A → Type 0) (xs ys : List A) → AllByRecursion P xs → AllByRecursion P ys → AllByRecursion P (xs ++ ys)
  each_append P [] ys h k = k
  each_append P (x ∷ xs) ys h k = (h.0, each_append P xs ys h.1 k)

  pub each_map : (P Q : A → Type 0) (xs : List A) → ((x : A) → IsIn x xs → P x → Q x) → AllByRecursion P xs → AllByRecursion Q xs
  each_map P Q [] f h = tt
  each_map P Q (x ∷ xs) f h = (f x (inl refl) h.0, each_map P Q xs (λ y i. f y (inr i)) h.1)

  pub total-append : (f : A → ℕ) (xs ys : List A) → total f (xs ++ ys) ≡ total f xs + total f ys
  total-append f [] ys = omega arith
  total-append f (x ∷ xs) ys = omega (arith, total-append f xs ys)

  pub total-set : (f : A → ℕ) (xs : List A) (i : ℕ) (v w : A) → get_elem? xs i ≡ some v → total f (set xs i w) + f v ≡ total f xs + f w
  total-set f [] i v w e = absurd (some-ne-none v (sym e))
  total-set f (x ∷ xs) zero v w e = omega (arith, ap f (some-injective x v e))
  total-set f (x ∷ xs) (suc i) v w e = omega (arith, total-set f xs i v w e)

  pub total-at : (f : A → ℕ) (xs : List A) (i : ℕ) (v : A) → get_elem? xs i ≡ some v → f v ≤ total f xs
  total-at f [] i v e = absurd (some-ne-none v (sym e))
  total-at f (x ∷ xs) zero v e = omega (arith, ap f (some-injective x v e))
  total-at f (x ∷ xs) (suc i) v e = omega (arith, total-at f xs i v e)

  -- two items of the list
  pub total-two : (f : A → ℕ) (xs : List A) (i j : ℕ) (v w : A) → get_elem? xs i ≡ some v → get_elem? xs j ≡ some w → j ≢ i → f v + f w ≤ total f xs
  total-two f [] i j v w e d n = absurd (some-ne-none v (sym e))
  total-two f (x ∷ xs) zero zero v w e d n = absurd (n refl)
  total-two f (x ∷ xs) zero (suc j) v w e d n = omega (arith, ap f (some-injective x v e), total-at f xs j w d)
  total-two f (x ∷ xs) (suc i) zero v w e d n = omega (arith, ap f (some-injective x w d), total-at f xs i v e)
  total-two f (x ∷ xs) (suc i) (suc j) v w e d n = omega (arith, total-two f xs i j v w e d (λ h. n (ap suc h)))

  -- what holds of each at its place, after a change at one place
  pub all_set : (Q : A → Type 0) (xs : List A) (i : ℕ) (w : A) → Q w → ((j : ℕ) (u : A) → j ≢ i → get_elem? xs j ≡ some u → Q u)
      → (j : ℕ) (u : A) → get_elem? (set xs i w) j ≡ some u → Q u
  all_set Q xs i w mine others j u e =
      ⊎_elim (λ (x : (j ≡ i) × (w ≡ u)). subst Q x.1 mine) (λ (x : (j ≢ i) × (get_elem? xs j ≡ some u)). others j u x.0 x.1) (at_set xs i j w u e)

  pub all_snoc : (Q : A → Type 0) (xs : List A) (w : A) → Q w → ((j : ℕ) (u : A) → get_elem? xs j ≡ some u → Q u)
      → (j : ℕ) (u : A) → get_elem? (xs ++ w ∷ []) j ≡ some u → Q u
  all_snoc Q xs w mine others j u e = ⊎_elim (λ (x : get_elem? xs j ≡ some u). others j u x) (λ (x : w ≡ u). subst Q x mine) (at_snoc xs w u j e)

  pub prefix_self : (xs : List A) → IsPrefix xs xs
  prefix_self [] = ([], refl)
  prefix_self (x ∷ xs) = ((prefix_self xs).0, ap (λ ys. x ∷ ys) (prefix_self xs).1)

  pub prefix_more : (xs ys zs : List A) → IsPrefix xs ys → IsPrefix xs (ys ++ zs)
  prefix_more xs ys zs h = (h.0 ++ zs, sym (append_assoc xs h.0 zs) ∙ ap (λ w. w ++ zs) h.1)

  pub prefix_in : (x : A) (xs ys : List A) → IsPrefix xs ys → IsIn x xs → IsIn x ys
  prefix_in x xs ys h i = subst (IsIn x) h.1 (in_left x xs h.0 i)

  pub get-front : (xs ys : List A) (n : ℕ) (x : A) → slice_get xs n ≡ Some x → slice_get (xs ++ ys) n ≡ Some x
  get-front [] ys n x e = absurd cc
  get-front (y ∷ xs) ys zero x e = e
  get-front (y ∷ xs) ys (suc n) x e = get-front xs ys n x e

  pub get-snoc : (xs : List A) (y : A) (n : ℕ) (x : A) → slice_get (xs ++ y ∷ []) n ≡ Some x → (slice_get xs n ≡ Some x) ⊎ ((n ≡ length xs) × (y ≡ x))
  get-snoc [] y zero x e = inr (refl, cc)
  get-snoc [] y (suc n) x e = absurd cc
  get-snoc (z ∷ xs) y zero x e = inl e
  get-snoc (z ∷ xs) y (suc n) x e = ⊎_elim (λ a. inl a) (λ b. inr (ap suc b.0, b.1)) (get-snoc xs y n x e)

  pub get-below : (xs : List A) (n : ℕ) (x : A) → slice_get xs n ≡ Some x → n < length xs
  get-below [] n x e = absurd cc
  get-below (y ∷ xs) zero x e = omega arith
  get-below (y ∷ xs) (suc n) x e = let r = get-below xs n x e in omega arith
