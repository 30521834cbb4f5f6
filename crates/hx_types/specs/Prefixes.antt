-- The first eight bytes of a text as a number.
use Rattle.std.specs.Prelude.{◌≡◌, ℕ, zero, suc, ◌+◌, ◌*◌, ◌<◌, List, [], ◌∷◌}
use Rattle.std.specs.List.{AllByRecursion}

-- a number, and so many bytes of a text behind it, the first of them highest: behind the text come zeros
abbrev pub prefix_from : ℕ → ℕ → List ℕ → ℕ
prefix_from zero n bytes = n
prefix_from (suc k) n [] = prefix_from k (n * 256) []
prefix_from (suc k) n (byte ∷ bytes) = prefix_from k (n * 256 + byte) bytes

abbrev pub prefix_of : List ℕ → ℕ
prefix_of bytes = prefix_from 8 0 bytes

-- the number is that of the first eight bytes of a text
pub record IsPrefixOf (text : List ℕ) (prefix : ℕ) : Type 0 where
  pub prefix_is : prefix ≡ prefix_of text
  pub bytes : AllByRecursion (λ byte. byte < 256) text
