-- Texts between quotes. A quote is 34, a backslash 92.
use Rattle.std.specs.Prelude.{ℕ, ◌+◌, Bool, true, false, List, [], ◌∷◌, length, take, Option, Some, None, Result, Ok, Err, nat_lt, ◌==◌, if◌then◌else◌}
use Rattle.std.specs.Option.{option_map_or}
use Rattle.std.specs.Str.Lossy.{utf8_valid_len}
use Rattle.hx_lex.specs.declared.token.Piece.{Piece}
use Rattle.hx_lex.specs.declared.token.TokenKind.TheVariants as kinds
use Rattle.hx_lex.specs.declared.errors.LexError.{LexError}
use Rattle.hx_lex.specs.declared.errors.LexError.TheVariants.{BadChar, OpenText}
use Rattle.hx_lex.specs.Answers.{◌>>=◌}
use Rattle.hx_lex.specs.Numbers.{token_piece}

-- how many bytes stand before the quote that closes a text, or all where none does; behind a backslash a quote closes nothing
abbrev pub inside_len : Bool → List ℕ → ℕ
inside_len behind [] = 0
inside_len true (b ∷ bs) = 1 + inside_len false bs
inside_len false (b ∷ bs) = if b == 34 then 0 else 1 + inside_len (b == 92) bs

-- what an escape stands for, by the byte behind its backslash: the quote, the backslash, n for newline or t for tab
abbrev pub escaped : ℕ → Option ℕ
escaped c = if c == 34 then Some 34 else (if c == 92 then Some 92 else (if c == 110 then Some 10 else (if c == 116 then Some 9 else None)))

-- a byte before the others that are read
abbrev pub followed_by : ℕ → Result (List ℕ) LexError → Result (List ℕ) LexError
followed_by c read = read >>= λ cs. Ok (c ∷ cs)

-- what the bytes from that place on stand for between quotes, where they are UTF-8; with true, a backslash stands at the place, before the bytes
unfoldable pub content : Bool → ℕ → List ℕ → Result (List ℕ) LexError
content false at [] = Ok []
content false at (b ∷ bs) = if nat_lt b 32 then Err (BadChar at) else (if b == 92 then content true at bs else followed_by b (content false (at + 1) bs))
content true at [] = Err (BadChar at)
content true at (c ∷ bs) = option_map_or (λ x. followed_by x (content false (at + 2) bs)) (escaped c) (Err (BadChar at))

-- the same of any bytes: the first that isn't UTF-8 is a fault too
unfoldable pub inside_at : ℕ → List ℕ → Result (List ℕ) LexError
inside_at at bytes = do
  text ← content false at (take (utf8_valid_len bytes) bytes)
  if utf8_valid_len bytes == length bytes then Ok text else Err (BadChar (at + utf8_valid_len bytes))

-- the text whose first quote stands at that place, before the bytes
unfoldable pub text_at : ℕ → List ℕ → Result Piece LexError
text_at at bytes = let n = inside_len false bytes in if n == length bytes then Err (OpenText at) else do
  text ← inside_at (at + 1) (take n bytes)
  token_piece (kinds.Text text) (n + 2)
