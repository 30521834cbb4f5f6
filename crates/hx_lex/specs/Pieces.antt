-- What stands at the front of the rest of a line.
use Rattle.std.specs.Prelude.{ℕ, ◌+◌, true, false, ◌&&◌, ◌||◌, List, [], ◌∷◌, length, None, Result, Ok, Err, ◌==◌, if◌then◌else◌}
use Rattle.std.specs.List.{prefix_len}
use Rattle.std.specs.Str.Lossy.{utf8_valid_len}
use Rattle.hx_lex.specs.declared.token.Piece.{Piece}
use Rattle.hx_lex.specs.declared.token.TokenKind.TheVariants as kinds
use Rattle.hx_lex.specs.declared.errors.LexError.{LexError}
use Rattle.hx_lex.specs.declared.errors.LexError.TheVariants.{BadChar}
use Rattle.hx_lex.specs.Letters.{is_lower, is_digit, is_word_part, begins_with}
use Rattle.hx_lex.specs.Numbers.{token_piece, number_at}
use Rattle.hx_lex.specs.Quotes.{text_at}

-- the comment that takes up all the bytes, from that place on: only UTF-8 may stand in it
unfoldable pub comment_at : ℕ → List ℕ → Result Piece LexError
comment_at at bytes = if utf8_valid_len bytes == length bytes then Ok
    (record { kind = None; len = length bytes }) else Err (BadChar (at + utf8_valid_len bytes))

-- one byte between tokens
abbrev pub blank_piece : Result Piece LexError
blank_piece = Ok (record { kind = None; len = 1 })

-- what stands at the front of the rest of a line, which begins at that place: a space or a tab, a carriage return
-- at the end, a comment, a word, a number, a negative number, a text, `=` or `,`, `..` or `.`
unfoldable pub piece_at : ℕ → List ℕ → Result Piece LexError
piece_at at [] = Ok (record { kind = None; len = 0 })
piece_at at (b ∷ bs) =
    if b == 32 || b == 9 then blank_piece
    else (if b == 13 && length bs == 0 then blank_piece
    else (if b == 35 then comment_at at (b ∷ bs)
    else (if is_lower b then token_piece kinds.Word (prefix_len is_word_part (b ∷ bs))
    else (if is_digit b then number_at at false (b ∷ bs)
    else (if b == 45 && begins_with is_digit bs then number_at at true bs
    else (if b == 34 then text_at at bs
    else (if b == 61 || b == 44 then token_piece kinds.Sign 1
    else (if b == 46 then token_piece kinds.Sign (if begins_with (λ c. c == 46) bs then 2 else 1)
    else Err (BadChar at)))))))))
