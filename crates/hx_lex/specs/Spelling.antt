-- What the slice of a token is, by its kind.
use Rattle.std.specs.Prelude.{◌≡◌, ℕ, ◌<◌, ◌≤◌, Bool, true, ◌||◌, List, length, slice_range, nat_le, ◌==◌, FitsSigned}
use Rattle.std.specs.List.{list_all}
use Rattle.std.specs.Str.{IsUtf8}
use Rattle.std.specs.Int.{w64}
use Rattle.hx_lex.specs.declared.token.Token.{Token}
use Rattle.hx_lex.specs.declared.token.TokenKind.{TokenKind}
use Rattle.hx_lex.specs.declared.token.TokenKind.TheVariants as kinds
use Rattle.hx_lex.specs.Letters.{IsWord}

-- a byte that a text may have: no control character below U+0020 but newline and tab
abbrev pub is_plain : ℕ → Bool
is_plain b = nat_le 32 b || b == 9 || b == 10

-- bytes that a text may have between its quotes
pub record IsText (bytes : List ℕ) : Type 0 where
  pub utf8 : IsUtf8 bytes
  pub plain : list_all is_plain bytes ≡ true

-- the slice of a word is a word, a number is one of 64 bits, and a text is UTF-8 and no longer than its slice
abbrev pub IsSpelled : TokenKind → List ℕ → Type 0
IsSpelled kinds.Word bytes = IsWord bytes
IsSpelled (kinds.Number n) bytes = FitsSigned w64 n
IsSpelled (kinds.Text text) bytes = IsText text × (length text ≤ length bytes)
IsSpelled kinds.Sign bytes = Unit {0}

-- the token has some bytes of the line, and is spelled by them
pub record IsTokenOf (line : List ℕ) (t : Token) : Type 0 where
  pub some : t.start < t.end
  pub within : t.end ≤ length line
  pub spelled : IsSpelled t.kind (slice_range line t.start t.end)
