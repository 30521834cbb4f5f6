-- Two lists of the same length, place by place.
use Rattle.std.specs.Prelude.{List, [], ◌∷◌, ⊤}

abbrev pub Both : {A B : Type 0} → (A → B → Type 0) → List A → List B → Type 0
Both R [] [] = ⊤
Both R [] (y ∷ ys) = ⊥
Both R (x ∷ xs) [] = ⊥
Both R (x ∷ xs) (y ∷ ys) = R x y × Both R xs ys
