-- How a number in decimal begins.
use Rattle.std.specs.Prelude.{ℕ, ◌≡◌, ◌≢◌, ◌≤◌, List, length, get_or}

-- no plus sign stands first, and a zero only where it is all of the text
pub record BeginsAsDecimal (text : List ℕ) : Type 0 where
  pub no_sign : get_or text 0 0 ≢ 43
  pub lone_zero : get_or text 0 0 ≡ 48 → length text ≤ 1
