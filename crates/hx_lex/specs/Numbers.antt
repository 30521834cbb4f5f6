-- Whole numbers of 64 bits, as digits behind a sign.
use Rattle.std.specs.Prelude.{ℕ, ℤ, pos, negsuc, zero, suc, ◌+◌, ◌-◌, ◌*◌, ◌^◌, Bool, true, false, List, [], ◌∷◌, take}
use Rattle.std.specs.Prelude.{Option, Some, None, Result, Ok, Err, nat_lt, nat_le, if◌then◌else◌}
use Rattle.std.specs.List.{prefix_len}
use Rattle.std.specs.Option.{option_map_or}
use Rattle.hx_lex.specs.declared.token.Piece.{Piece}
use Rattle.hx_lex.specs.declared.token.TokenKind.{TokenKind}
use Rattle.hx_lex.specs.declared.token.TokenKind.TheVariants as kinds
use Rattle.hx_lex.specs.declared.errors.LexError.{LexError}
use Rattle.hx_lex.specs.declared.errors.LexError.TheVariants.{BadNumber}
use Rattle.hx_lex.specs.Letters.{is_digit}

-- how many digits stand at the front
abbrev pub digits_len : List ℕ → ℕ
digits_len bytes = prefix_len is_digit bytes

-- what digits spell behind a number
abbrev pub value_from : ℕ → List ℕ → ℕ
value_from n [] = n
value_from n (c ∷ cs) = value_from (n * 10 + (c - 48)) cs

-- what digits spell
abbrev pub value : List ℕ → ℕ
value digits = value_from 0 digits

-- the opposite of a number
abbrev pub minus : ℕ → ℤ
minus zero = pos 0
minus (suc n) = negsuc n

-- the number of that sign and magnitude, where it is in the range of `i64`
abbrev pub signed : Bool → ℕ → Option ℤ
signed false v = if nat_lt v (2 ^ 63) then Some (pos v) else None
signed true v = if nat_le v (2 ^ 63) then Some (minus v) else None

-- a token of that many bytes
abbrev pub token_piece : TokenKind → ℕ → Result Piece LexError
token_piece kind len = Ok (record { kind = Some kind; len = len })

-- the number at that place whose digits stand at the front of the bytes, behind its sign
unfoldable pub number_at : ℕ → Bool → List ℕ → Result Piece LexError
number_at at negative bytes = let n = digits_len bytes in
    option_map_or (λ z. token_piece (kinds.Number z) (if negative then n + 1 else n)) (signed negative (value (take n bytes))) (Err (BadNumber at))
