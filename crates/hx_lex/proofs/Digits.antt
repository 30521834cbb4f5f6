-- Digits, read from the left.
use Rattle.std.proofs.Common.{◌≡◌, ℕ, ◌+◌, ◌-◌, ◌*◌, ◌<◌, ◌≤◌, ◌^◌, Bool, true, false, None, List, ◌∷◌, [], length}
use Rattle.std.proofs.Common.{inl, inr, get_or, drop, refl, arith, add-one, drop-cons}
use Rattle.std.specs.List.{prefix_len}
use Rattle.std.proofs.lemmas.Bool.{cases_lt, lt-leb, le-ltb}
use Rattle.std.proofs.lemmas.List.{at_drop_all}
use Rattle.std.proofs.lemmas.List.Sums.{prefix_len-le-length}
use Rattle.hx_lex.specs.Letters.{is_digit}
use Rattle.hx_lex.specs.Numbers.{value_from, digits_len, signed}

pub value_grows : (n : ℕ) (ds : List ℕ) → n ≤ value_from n ds
value_grows n [] = omega arith
value_grows n (c ∷ cs) = omega (arith, value_grows (n * 10 + (c - 48)) cs)

-- one more digit
pub value_from_drop : (n : ℕ) (ds : List ℕ) (i : ℕ) → i < length ds → value_from n (drop i ds) ≡ value_from (n * 10 + (get_or ds i 0 - 48)) (drop (i + 1) ds)
value_from_drop n ds i h = rw (add-one, drop-cons ds i 0) refl

-- no digit is left
pub value_from_end : (n : ℕ) (ds : List ℕ) (i : ℕ) → length ds ≤ i → value_from n (drop i ds) ≡ n
value_from_end n ds i h = at_drop_all (value_from n) ds i h

pub digits_len_le : (bytes : List ℕ) → digits_len bytes ≤ length bytes
digits_len_le bytes = prefix_len-le-length is_digit bytes

-- a magnitude of more than 64 bits is outside the range
pub signed_large : (negative : Bool) (v : ℕ) → (v < 2 ^ 64 → ⊥) → signed negative v ≡ None
signed_large negative v large = by_sign negative (elim (cases_lt v (2 ^ 64)) [ inl small ↦ absurd (large small) | inr le ↦ le ])
  where
    by_sign : (negative : Bool) → 2 ^ 64 ≤ v → signed negative v ≡ None
    by_sign true le = rw (lt-leb v (2 ^ 63) (omega (arith, le))) refl
    by_sign false le = rw (le-ltb v (2 ^ 63) (omega (arith, le))) refl

pub prefix_len_moves : (p : ℕ → Bool) (b : ℕ) (bs : List ℕ) → p b ≡ true → 0 < prefix_len p (b ∷ bs)
prefix_len_moves p b bs e = rw e (omega arith)
