-- A number is of 64 bits, and moves on.
use Rattle.std.proofs.Common.{◌≡◌, ℕ, ℤ, pos, zero, suc, ◌+◌, ◌^◌, ◌<◌, ◌≤◌, Bool, true, false, cond, ltb, leb, List}
use Rattle.std.proofs.Common.{[], ◌∷◌, length, take, Option, Some, None, Err, refl, subst, arith, lit<}
use Rattle.std.specs.Prelude.{FitsSigned}
use Rattle.std.specs.Int.{w64}
use Rattle.std.specs.Option.{option_map_or}
use Rattle.std.proofs.lemmas.Bool.{leb-true, ltb-true}
use Rattle.std.proofs.lemmas.Option.{same_Some}
use Rattle.std.proofs.lemmas.List.Sums.{prefix_len-le-length}
use Rattle.hx_lex.specs.declared.token.TokenKind.TheVariants as kinds
use Rattle.hx_lex.specs.declared.errors.LexError.TheVariants.{BadNumber}
use Rattle.hx_lex.specs.Letters.{is_digit, begins_with}
use Rattle.hx_lex.specs.Numbers.{digits_len, value, minus, signed, token_piece, number_at}
use Rattle.hx_lex.proofs.Digits.{prefix_len_moves}
use Rattle.hx_lex.proofs.Sound.{Sound, choice, a_token}

positive_fits : (v : ℕ) → v < 2 ^ 63 → FitsSigned w64 (pos v)
positive_fits v lt = record { sfits = lt }

negative_fits : (v : ℕ) → v ≤ 2 ^ 63 → FitsSigned w64 (minus v)
negative_fits zero le = record { sfits = lit< tt }
negative_fits (suc n) le = record { sfits = omega (arith, le) }

-- the number is of 64 bits, where there is one
signed_fits : (negative : Bool) (v : ℕ) (z : ℤ) → signed negative v ≡ Some z → FitsSigned w64 z
signed_fits true v z e = choice (λ (o : Option ℤ). o ≡ Some z → FitsSigned w64 z) (leb v (2 ^ 63)) (Some (minus v)) None
    (λ fits same. subst (FitsSigned w64) (same_Some (minus v) z same) (negative_fits v (leb-true v (2 ^ 63) fits)))
    (λ large none. absurd cc) e
signed_fits false v z e = choice (λ (o : Option ℤ). o ≡ Some z → FitsSigned w64 z) (ltb v (2 ^ 63)) (Some (pos v)) None
    (λ fits same. subst (FitsSigned w64) (same_Some (pos v) z same) (positive_fits v (ltb-true v (2 ^ 63) fits)))
    (λ large none. absurd cc) e

a_number : (rest : List ℕ) (at : ℕ) (negative : Bool) (bytes : List ℕ) → 0 < digits_len bytes
    → cond negative (digits_len bytes + 1) (digits_len bytes) ≤ length rest → Sound rest (number_at at negative bytes)
unfolding number_at
a_number rest at negative bytes moves within = by_number (signed negative (value (take (digits_len bytes) bytes))) refl
  where
    len_moves : (c : Bool) (n : ℕ) → 0 < n → 0 < cond c (n + 1) n
    len_moves true n lt = omega arith
    len_moves false n lt = lt

    by_number : (o : Option ℤ) → signed negative (value (take (digits_len bytes) bytes)) ≡ o
        → Sound rest (option_map_or (λ z. token_piece (kinds.Number z)
        (cond negative (digits_len bytes + 1) (digits_len bytes))) o (Err (BadNumber at)))
    by_number None e = tt
    by_number (Some z) e = a_token rest (kinds.Number z) (cond negative (digits_len bytes + 1) (digits_len bytes))
        (len_moves negative (digits_len bytes) moves) within (signed_fits negative (value (take (digits_len bytes) bytes)) z e)

digits_move : (bs : List ℕ) → begins_with is_digit bs ≡ true → 0 < digits_len bs
digits_move [] e = absurd cc
digits_move (b ∷ bs) e = prefix_len_moves is_digit b bs e

pub a_positive : (at b : ℕ) (bs : List ℕ) → is_digit b ≡ true → Sound (b ∷ bs) (number_at at false (b ∷ bs))
a_positive at b bs e = a_number (b ∷ bs) at false (b ∷ bs) (digits_move (b ∷ bs) e) (prefix_len-le-length is_digit (b ∷ bs))

pub a_negative : (at b : ℕ) (bs : List ℕ) → begins_with is_digit bs ≡ true → Sound (b ∷ bs) (number_at at true bs)
a_negative at b bs e = a_number (b ∷ bs) at true bs (digits_move bs e) (omega (arith, prefix_len-le-length is_digit bs))
