-- What holds of each item with its place.
use Rattle.std.proofs.Common.{◌≡◌, ◌≢◌, ℕ, zero, suc, ◌+◌, ◌<◌, ◌⊎◌, inl, inr, List, [], ◌∷◌, ◌++◌, length, slice_get}
use Rattle.std.proofs.Common.{slice_set, slice_index_or, Some, None, refl, ap, sym, subst, arith, ⊎_elim}
use Rattle.std.proofs.Common.{length-append}
use Rattle.std.proofs.lemmas.Option.{slice_get_read}
use Rattle.hx_clock.proofs.Lemmas.{get-below, get-snoc}
use Rattle.hx_cluster.specs.Dealt.{AtEach}

module _ {A : Type 0} where
  some-is : (x y : A) → Some x ≡ Some y → y ≡ x
  some-is x y e = cc

  none-is : {Z : Type 0} (x : A) → None ≡ Some x → Z
  none-is x e = absurd (cc)

  -- an item of a list of which one was set
  pub get-set : (xs : List A) (i j : ℕ) (x y : A) → slice_get (slice_set xs i y) j ≡ Some x → ((j ≡ i) × (x ≡ y)) ⊎ ((j ≢ i) × (slice_get xs j ≡ Some x))
  get-set [] i j x y e = none-is x e
  get-set (a ∷ xs) zero zero x y e = inl (refl, some-is y x e)
  get-set (a ∷ xs) zero (suc j) x y e = inr ((λ q. absurd (omega (arith, q))), e)
  get-set (a ∷ xs) (suc i) zero x y e = inr ((λ q. absurd (omega (arith, q))), e)
  get-set (a ∷ xs) (suc i) (suc j) x y e =
      ⊎_elim (λ (h : (j ≡ i) × (x ≡ y)). inl (ap suc h.0, h.1))
      (λ (h : (j ≢ i) × (slice_get xs j ≡ Some x)). inr ((λ q. h.0 (omega (arith, q))), h.1)) (get-set xs i j x y e)

  pub set-long : (xs : List A) (i : ℕ) (y : A) → length (slice_set xs i y) ≡ length xs
  set-long [] i y = refl
  set-long (a ∷ xs) zero y = refl
  set-long (a ∷ xs) (suc i) y = ap suc (set-long xs i y)

  pub snoc-long : (xs ys : List A) (x : A) → ys ≡ xs ++ x ∷ [] → length ys ≡ length xs + 1
  snoc-long xs ys x e = let a = length-append xs (x ∷ []) in let b = ap length e in omega (arith, a, b)

  pub at_each_snoc : (P : ℕ → A → Type 0) (xs : List A) (y : A) → AtEach P xs → P (length xs) y → AtEach P (xs ++ y ∷ [])
  at_each_snoc P xs y h p i x e =
      ⊎_elim (λ (g : slice_get xs i ≡ Some x). h i x g)
      (λ (g : (i ≡ length xs) × (y ≡ x)). subst (λ k. P k x) (sym g.0) (subst (P (length xs)) g.1 p)) (get-snoc xs y i x e)

  -- the item at a place that is read
  pub at_each_read : (P : ℕ → A → Type 0) (xs : List A) (i : ℕ) (x : A) → AtEach P xs → i < length xs → x ≡ slice_index_or xs i x → P i x
  at_each_read P xs i x h lt e = h i x (slice_get_read xs (length xs) i x refl lt e)

  pub at_each_set : (P Q : ℕ → A → Type 0) (xs : List A) (i : ℕ) (y : A) → AtEach P xs → Q i y
      → ((j : ℕ) (x : A) → j ≢ i → P j x → Q j x) → AtEach Q (slice_set xs i y)
  at_each_set P Q xs i y h q f j x e =
      ⊎_elim (λ (g : (j ≡ i) × (x ≡ y)). subst (λ k. Q k x) (sym g.0) (subst (Q i) (sym g.1) q))
      (λ (g : (j ≢ i) × (slice_get xs j ≡ Some x)). f j x g.0 (h j x g.1)) (get-set xs i j x y e)

  pub at_each_map : (P Q : ℕ → A → Type 0) (xs : List A) → AtEach P xs → ((j : ℕ) (x : A) → j < length xs → P j x → Q j x) → AtEach Q xs
  at_each_map P Q xs h f j x e = f j x (get-below xs j x e) (h j x e)
