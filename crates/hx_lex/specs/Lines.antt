-- The tokens of a line.
use Rattle.std.specs.Prelude.{ℕ, zero, suc, ◌+◌, ◌-◌, List, [], ◌∷◌, Option, Some, None, Result, Ok}
use Rattle.std.specs.Option.{option_map_or}
use Rattle.hx_lex.specs.declared.token.Token.{Token}
use Rattle.hx_lex.specs.declared.token.Piece.{Piece}
use Rattle.hx_lex.specs.declared.errors.LexError.{LexError}
use Rattle.hx_lex.specs.Answers.{◌>>=◌}
use Rattle.hx_lex.specs.Pieces.{piece_at}

-- a token, where there is one, before the others that are read
abbrev pub before : Option Token → Result (List Token) LexError → Result (List Token) LexError
before None read = read
before (Some t) read = read >>= λ ts. Ok (t ∷ ts)

-- the token of a piece that begins at that place, where it is one
abbrev pub token_of : ℕ → Piece → Option Token
token_of at p = option_map_or (λ k. Some (record { kind = k; start = at; end = at + p.len })) p.kind None

-- the tokens from that place on, behind the rest of a piece that began before: skip bytes
unfoldable pub tokens_from : ℕ → ℕ → List ℕ → Result (List Token) LexError
tokens_from at skip [] = Ok []
tokens_from at (suc skip) (b ∷ bs) = tokens_from (at + 1) skip bs
tokens_from at zero (b ∷ bs) = do
  p ← piece_at at (b ∷ bs)
  before (token_of at p) (tokens_from (at + 1) (p.len - 1) bs)

-- the tokens of a line in order, or its first fault
abbrev pub tokens_of : List ℕ → Result (List Token) LexError
tokens_of line = tokens_from 0 0 line
