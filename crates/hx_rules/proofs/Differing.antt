-- Numbers of a list's items differ where the first differs from the rest, and the rest among themselves.
use Rattle.std.proofs.Common.{◌≡◌, ◌≢◌, ℕ, Bool, true, false, List, [], ◌∷◌, map, IsTrue, subst, sym}
use Rattle.std.specs.List.{All}
use Rattle.std.proofs.lemmas.List.Elements.{All-nil, All-cons, All-head, All-tail, All-map}
use Rattle.hx_types.specs.Spaces.{AllDiffer}

-- what holds of each item of a list's image holds of the images of its items
images : {A B : Type 0} (P : B → Type 0) (f : A → B) (xs : List A) → All P (map f xs) → All (λ x. P (f x)) xs
images P f [] h = All-nil (λ x. P (f x))
images P f (x ∷ xs) h = All-cons (λ y. P (f y)) x xs (All-head P (f x) (map f xs) h) (images P f xs (All-tail P (f x) (map f xs) h))

module _ {A : Type 0} (f : A → ℕ) (xs : List A) (x : A) (rest : List A) (parts : xs ≡ x ∷ rest) (n : ℕ) (number : n ≡ f x) where
  of_first : All (λ y. f y ≢ n) rest → All (λ y. f y ≢ f x) rest
  of_first h = subst (λ m. All (λ y. f y ≢ m) rest) number h

  -- where the first differs from the rest, a test of the rest tells
  pub told_by_rest : (b : Bool) → All (λ y. f y ≢ n) rest → (IsTrue b → AllDiffer (map f rest))
      × (AllDiffer (map f rest) → IsTrue b) → (IsTrue b → AllDiffer (map f xs)) × (AllDiffer (map f xs) → IsTrue b)
  told_by_rest b first told = (
    λ t. subst (λ ys. AllDiffer (map f ys)) (sym parts) (All-map (λ m. m ≢ f x) f rest (of_first first), told.0 t),
    λ once. told.1 (subst (λ ys. AllDiffer (map f ys)) parts once).1,
  )

  -- where it doesn't, they don't all differ
  pub told_by_first : (b : Bool) → b ≡ false → (All (λ y. f y ≢ n) rest → IsTrue b) → (IsTrue b → AllDiffer (map f xs)) × (AllDiffer (map f xs) → IsTrue b)
  told_by_first true e back = absurd cc
  told_by_first false e back = (
    λ t. absurd cc,
    λ once. back (subst (λ m. All (λ y. f y ≢ m) rest) (sym number) (images (λ m. m ≢ f x) f rest (subst (λ ys. AllDiffer (map f ys)) parts once).0)),
  )
