-- Lists that have at each place what belongs there.
use Rattle.std.proofs.Common.{◌≡◌, ◌≢◌, ℕ, zero, suc, ◌+◌, ◌<◌, ◌⊎◌, inl, inr, List, [], ◌∷◌, ◌++◌, length, set, Some, refl, sym, ap, ◌∙◌, subst, arith, get_or}
use Rattle.std.specs.Prelude.{slice_get}
use Rattle.std.proofs.lemmas.Option.{slice_get_within, slice_get-get_or}
use Rattle.hx_world.specs.Invariant.{AreAt}
use Rattle.hx_law_growing.proofs.Lemmas.{length-set}

-- the item at a place of the list
pub item_at : {A : Type 0} (xs : List A) (i : ℕ) → i < length xs → (x : A) × (slice_get xs i ≡ Some x)
item_at [] i within = absurd (omega arith)
item_at (x ∷ rest) zero within = (x, refl)
item_at (x ∷ rest) (suc i) within = item_at rest i (omega arith)

-- the item at a place that was read there
pub item_read : {A : Type 0} (xs : List A) (i : ℕ) (x : A) → i < length xs → x ≡ get_or xs i x → slice_get xs i ≡ Some x
item_read xs i x within e = slice_get-get_or xs i x within ∙ ap Some (sym e)

length-push : {A : Type 0} (xs : List A) (x : A) → length (xs ++ x ∷ []) ≡ length xs + 1
length-push [] x = omega arith
length-push (y ∷ xs) x = let e = length-push xs x in omega (arith, e)

-- an item of a longer list is the last or stood before
get-push : {A : Type 0} (xs : List A) (x : A) (i : ℕ) (y : A) → slice_get (xs ++ x ∷ []) i ≡ Some y → (slice_get xs i ≡ Some y) ⊎ ((i ≡ length xs) × (y ≡ x))
get-push [] x zero y e = inr (refl, (let same : y ≡ x = cc in same))
get-push [] x (suc i) y e = cc
get-push (z ∷ xs) x zero y e = inl e
get-push (z ∷ xs) x (suc i) y e = elim (get-push xs x i y e) [ inl h ↦ inl h | inr h ↦ inr (ap suc h.0, h.1) ]

-- one more item at the next place
pub at_push : {A : Type 0} (n : ℕ) (P : ℕ → A → Type 0) (xs ys : List A) (x : A) → AreAt n P xs → ys ≡ xs ++ x ∷ [] → P n x → AreAt (n + 1) P ys
at_push n P xs ys x h e p =
    rw e
    (record {
      count = length-push xs x ∙ ap (λ k. k + 1) h.count;
      each = λ i y g. elim (get-push xs x i y g) [
        | inl f ↦ h.each i y f
        | inr f ↦ subst (P i) (sym f.1) (subst (λ k. P k x) (sym (f.0 ∙ h.count)) p)
      ];
    })

-- what each item has, another has
pub at_each : {A : Type 0} (n : ℕ) (P Q : ℕ → A → Type 0) (xs : List A) → AreAt n P xs → ((i : ℕ) (x : A) → i < n → P i x → Q i x) → AreAt n Q xs
at_each n P Q xs h f = record {
  count = h.count;
  each = λ i x e. f i x (let w = slice_get_within xs i x e in omega (arith, w, h.count)) (h.each i x e);
}

get-set : {A : Type 0} (xs : List A) (i : ℕ) (y : A) (j : ℕ) (x : A) → slice_get (set xs i y) j ≡ Some x
    → ((j ≡ i) × (x ≡ y)) ⊎ ((j ≢ i) × (slice_get xs j ≡ Some x))
get-set [] i y j x e = cc
get-set (z ∷ xs) zero y zero x e = inl (refl, (let same : x ≡ y = cc in same))
get-set (z ∷ xs) zero y (suc j) x e = inr ((λ h. omega arith), e)
get-set (z ∷ xs) (suc i) y zero x e = inr ((λ h. omega arith), e)
get-set (z ∷ xs) (suc i) y (suc j) x e =
    elim (get-set xs i y j x e) [
      | inl h ↦ inl (ap suc h.0, h.1)
      | inr h ↦ inr ((λ k. h.0 (omega (arith, k))), h.1)
    ]

-- the item at one place changes, and each other one keeps what it has
pub at_set : {A : Type 0} (n : ℕ) (P Q : ℕ → A → Type 0) (xs ys : List A) (i : ℕ) (y : A) → AreAt n P xs → ys ≡ set xs i y → Q i y
    → ((j : ℕ) (x : A) → j ≢ i → P j x → Q j x) → AreAt n Q ys
at_set n P Q xs ys i y h e q f =
    rw e
    (record {
      count = length-set xs i y ∙ h.count;
      each = λ j x g. elim (get-set xs i y j x g) [
        | inl k ↦ subst (Q j) (sym k.1) (subst (λ m. Q m y) (sym k.0) q)
        | inr k ↦ f j x k.0 (h.each j x k.1)
      ];
    })
