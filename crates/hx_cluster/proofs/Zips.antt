-- A loop over two lists at once: what was yielded, and what is left of each.
use Rattle.std.proofs.Common.{◌≡◌, ℕ, ◌⊎◌, inl, inr, List, [], ◌∷◌, ◌++◌, map, length, slice_get, Some, ap, sym, ◌∙◌, append_assoc}
use Rattle.std.proofs.lemmas.List.{map-append}
use Rattle.hx_outbox.proofs.Lemmas.{map-length}
use Rattle.hx_cluster.proofs.Boxing.{item-at, none-left}

module _ {A B : Type 0} where
  -- the first list: the item is the next one, and it was yielded
  pub first-more : (yielded : List (A × B)) (x : A) (y : B) (rest after all : List A) → rest ≡ x ∷ after → map (λ (z : A × B). z.0) yielded ++ rest ≡ all
      → (map (λ (z : A × B). z.0) yielded ++ x ∷ after ≡ all) × (map (λ (z : A × B). z.0) (yielded ++ (x, y) ∷ []) ++ after ≡ all)
  first-more yielded x y rest after all step e =
      let now : map (λ (z : A × B). z.0) yielded ++ x ∷ after ≡ all = ap (λ l. map (λ (z : A × B). z.0) yielded ++ l) (sym step) ∙ e in
      (now, ap (λ l. l ++ after) (map-append (λ (z : A × B). z.0) yielded ((x, y) ∷ [])) ∙ append_assoc (map (λ (z : A × B). z.0) yielded) (x ∷ []) after ∙ now)

  -- the second likewise
  pub second-more : (yielded : List (A × B)) (x : A) (y : B) (rest after all : List B) → rest ≡ y ∷ after → map (λ (z : A × B). z.1) yielded ++ rest ≡ all
      → (map (λ (z : A × B). z.1) yielded ++ y ∷ after ≡ all) × (map (λ (z : A × B). z.1) (yielded ++ (x, y) ∷ []) ++ after ≡ all)
  second-more yielded x y rest after all step e =
      let now : map (λ (z : A × B). z.1) yielded ++ y ∷ after ≡ all = ap (λ l. map (λ (z : A × B). z.1) yielded ++ l) (sym step) ∙ e in
      (now, ap (λ l. l ++ after) (map-append (λ (z : A × B). z.1) yielded ((x, y) ∷ [])) ∙ append_assoc (map (λ (z : A × B). z.1) yielded) (y ∷ []) after ∙ now)

  pub first-place : (yielded : List (A × B)) (x : A) (after all : List A) (n : ℕ) → n ≡ length yielded
      → map (λ (z : A × B). z.0) yielded ++ x ∷ after ≡ all → slice_get all n ≡ Some x
  first-place yielded x after all n e now = item-at (map (λ (z : A × B). z.0) yielded) x after all n now (e ∙ sym (map-length (λ (z : A × B). z.0) yielded))

  pub second-place : (yielded : List (A × B)) (y : B) (after all : List B) (n : ℕ) → n ≡ length yielded
      → map (λ (z : A × B). z.1) yielded ++ y ∷ after ≡ all → slice_get all n ≡ Some y
  second-place yielded y after all n e now = item-at (map (λ (z : A × B). z.1) yielded) y after all n now (e ∙ sym (map-length (λ (z : A × B). z.1) yielded))

  -- one of the lists has no item left: both were yielded whole
  pub both-ended : (yielded : List (A × B)) (xs all : List A) (ys others : List B) (m n : ℕ)
      → map (λ (z : A × B). z.0) yielded ++ xs ≡ all → map (λ (z : A × B). z.1) yielded ++ ys ≡ others
      → length xs ≡ m → length ys ≡ n → length all ≡ length others → (m ≡ 0) ⊎ (n ≡ 0) → length all ≡ length yielded
  both-ended yielded xs all ys others m n e f p q same (inl z) =
      none-left (map (λ (z : A × B). z.0) yielded) xs all m e p z ∙ map-length (λ (z : A × B). z.0) yielded
  both-ended yielded xs all ys others m n e f p q same (inr z) =
      same ∙ none-left (map (λ (z : A × B). z.1) yielded) ys others n f q z ∙ map-length (λ (z : A × B). z.1) yielded

pub ended_of : {S T : Type 0} {P : S → Type 0} {Q : T → Type 0} {m n : ℕ} → ((u : S) × ((m ≡ 0) × P u)) ⊎ ((u : T) × ((n ≡ 0) × Q u)) → (m ≡ 0) ⊎ (n ≡ 0)
ended_of (inl h) = inl h.1.0
ended_of (inr h) = inr h.1.0
