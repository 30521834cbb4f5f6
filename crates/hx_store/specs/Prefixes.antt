-- The prefixes of keys.
use Rattle.std.specs.Prelude.{◌∷◌, ℕ, ⊤, Bool, List, []}
use Rattle.hx_types.specs.Prefixes.{IsPrefixOf}

-- the numbers are those of the keys, in their order
abbrev pub ArePrefixes : List (List ℕ × Bool) → List ℕ → Type 0
ArePrefixes [] [] = ⊤
ArePrefixes [] (p ∷ prefixes) = ⊥
ArePrefixes (k ∷ keys) [] = ⊥
ArePrefixes (k ∷ keys) (p ∷ prefixes) = IsPrefixOf k.0 p × ArePrefixes keys prefixes
