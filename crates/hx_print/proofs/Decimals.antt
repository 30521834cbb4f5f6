-- Decimal numbers by their last digits.
use Rattle.std.proofs.Common.{◌≡◌, ℕ, ◌+◌, ◌/◌, ◌%◌, ◌^◌, ◌<◌, ◌≤◌, List, [], ◌∷◌, ◌++◌, ℤ, pos, negsuc, true, false}
use Rattle.std.proofs.Common.{int_lt, unsigned_abs, refl, sym, ◌∙◌, arith, append_assoc}
use Rattle.std.proofs.lemmas.Fmt.{decimal_digit, decimal_step}
use Rattle.std.proofs.lemmas.Bool.{false≢true, le-ltb}
use Rattle.std.specs.Fmt.{decimal, signed_decimal}

abbrev pair : ℕ → List ℕ
pair n = (48 + n / 10) ∷ (48 + n % 10) ∷ []

pub one_digit : (n : ℕ) → n < 10 → decimal n ≡ (48 + n) ∷ []
one_digit n small = decimal_digit n small

pub two_digits : (n : ℕ) → 10 ≤ n → n < 100 → decimal n ≡ pair n
two_digits n low high = rw (decimal_step n low (omega arith), decimal_digit (n / 10) (omega arith)) refl

pub last_pair : (n : ℕ) → 100 ≤ n → n < 2 ^ 64 → decimal n ≡ decimal (n / 100) ++ pair (n % 100)
last_pair n low high =
    let tens : n / 10 / 10 ≡ n / 100 = omega arith in
    let ten : n / 10 % 10 ≡ n % 100 / 10 = omega arith in
    let one : n % 10 ≡ n % 100 % 10 = omega arith in
    rw (decimal_step n (omega arith) high, decimal_step (n / 10) (omega arith) (omega arith), append_assoc, tens, ten, ← one) refl

pub last_four : (n : ℕ) → 10000 ≤ n → n < 2 ^ 64 → decimal n ≡ decimal (n / 10000) ++ (pair (n % 10000 / 100) ++ pair (n % 10000 % 100))
last_four n low high =
    let front : n / 100 / 100 ≡ n / 10000 = omega arith in
    let first : n / 100 % 100 ≡ n % 10000 / 100 = omega arith in
    let second : n % 10000 % 100 ≡ n % 100 = omega arith in
    rw (last_pair n (omega arith) high, last_pair (n / 100) (omega arith) (omega arith), append_assoc, front, first, second) refl

-- a number below 0 has a minus sign
pub below_zero : (z : ℤ) → int_lt z (pos 0) ≡ true → signed_decimal z ≡ 45 ∷ decimal (unsigned_abs z)
below_zero (pos n) below = absurd (false≢true (sym (le-ltb n 0 (omega arith)) ∙ below))
below_zero (negsuc n) below = refl

pub from_zero : (z : ℤ) → int_lt z (pos 0) ≡ false → signed_decimal z ≡ decimal (unsigned_abs z)
from_zero (pos n) from = refl
from_zero (negsuc n) from = absurd (false≢true (sym from))
