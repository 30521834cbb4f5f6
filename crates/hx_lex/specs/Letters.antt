-- Letters, digits and words, as bytes.
use Rattle.std.specs.Prelude.{◌≡◌, ℕ, Bool, true, false, ◌&&◌, ◌||◌, List, [], ◌∷◌, nat_le, ◌==◌}
use Rattle.std.specs.List.{list_all}

-- a letter from a to z
abbrev pub is_lower : ℕ → Bool
is_lower b = nat_le 97 b && nat_le b 122

-- a digit from 0 to 9
abbrev pub is_digit : ℕ → Bool
is_digit b = nat_le 48 b && nat_le b 57

-- a letter from a to z, a digit or _
abbrev pub is_word_part : ℕ → Bool
is_word_part b = is_lower b || is_digit b || b == 95

-- the first byte passes the test
abbrev pub begins_with : (ℕ → Bool) → List ℕ → Bool
begins_with p [] = false
begins_with p (b ∷ bs) = p b

-- a word: a letter, and then letters, digits and _
pub record IsWord (bytes : List ℕ) : Type 0 where
  pub letter : begins_with is_lower bytes ≡ true
  pub parts : list_all is_word_part bytes ≡ true
