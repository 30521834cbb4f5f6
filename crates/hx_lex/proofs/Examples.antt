-- Lines and their tokens, by computing. A backslash is 92, a quote 34.
use Rattle.std.proofs.Common.{◌≡◌, ℕ, pos, negsuc, List, [], ◌∷◌, ◌++◌, Ok, Err, refl}
use Rattle.std.specs.Prelude.{codes}
use lib.Utf8.{encode}
use Rattle.std.specs.Str.{is_utf8, chars}
use Rattle.std.specs.Str.Lossy.{utf8_valid_len}
use Rattle.hx_lex.specs.declared.token.Token.{Token}
use Rattle.hx_lex.specs.declared.token.TokenKind.{TokenKind}
use Rattle.hx_lex.specs.declared.token.TokenKind.TheVariants.{Word, Number, Text, Sign}
use Rattle.hx_lex.specs.declared.errors.LexError.TheVariants.{BadChar, OpenText, BadNumber}
use Rattle.hx_lex.specs.Numbers.{number_at}
use Rattle.hx_lex.specs.Quotes.{content, inside_at, text_at}
use Rattle.hx_lex.specs.Pieces.{comment_at, piece_at}
use Rattle.hx_lex.specs.Lines.{tokens_from, tokens_of}

abbrev quote : List ℕ
quote = 34 ∷ []

abbrev backslash : List ℕ
backslash = 92 ∷ []

abbrev token : TokenKind → ℕ → ℕ → Token
token kind start end = record { kind = kind; start = start; end = end }

-- put "a" n=-7 # note
call : tokens_of (codes "put " ++ quote ++ codes "a" ++ quote ++ codes " n=-7 # note")
    ≡ Ok (token Word 0 3 ∷ token (Text (codes "a")) 4 7 ∷ token Word 8 9 ∷ token Sign 9 10 ∷ token (Number (negsuc 6)) 10 12 ∷ [])
unfolding tokens_from piece_at number_at text_at inside_at content comment_at utf8_valid_len is_utf8 chars encode
call = refl

-- the longest sign, and then the next
signs : tokens_of (codes "1..2,...") ≡ Ok (token (Number (pos 1)) 0 1 ∷ token Sign 1 3 ∷ token
    (Number (pos 2)) 3 4 ∷ token Sign 4 5 ∷ token Sign 5 7 ∷ token Sign 7 8 ∷ [])
unfolding tokens_from piece_at number_at
signs = refl

-- a quote behind a backslash is one of the text, and closes nothing
escaped_quote : tokens_of (quote ++ codes "a" ++ backslash ++ quote ++ codes "b" ++ quote) ≡ Ok (token (Text (97 ∷ 34 ∷ 98 ∷ [])) 0 6 ∷ [])
unfolding tokens_from piece_at text_at inside_at content utf8_valid_len is_utf8 chars encode
escaped_quote = refl

-- newline, tab and backslash
escapes : tokens_of (quote ++ backslash ++ codes "n" ++ backslash ++ codes "t" ++ backslash ++ backslash ++ quote)
    ≡ Ok (token (Text (10 ∷ 9 ∷ 92 ∷ [])) 0 8 ∷ [])
unfolding tokens_from piece_at text_at inside_at content utf8_valid_len is_utf8 chars encode
escapes = refl

-- a letter of two bytes in a text, but not outside
letter : tokens_of (quote ++ 0xC3 ∷ 0xA9 ∷ quote) ≡ Ok (token (Text (0xC3 ∷ 0xA9 ∷ [])) 0 4 ∷ [])
unfolding tokens_from piece_at text_at inside_at content utf8_valid_len is_utf8 chars encode
letter = refl

no_word : tokens_of (codes "ab" ++ 0xC3 ∷ 0xA9 ∷ []) ≡ Err (BadChar 2)
unfolding tokens_from piece_at
no_word = refl

-- the ends of the range of `i64`
greatest : tokens_of (codes "x 9223372036854775807") ≡ Ok (token Word 0 1 ∷ token (Number (pos 9223372036854775807)) 2 21 ∷ [])
unfolding tokens_from piece_at number_at
greatest = refl

too_great : tokens_of (codes "x 9223372036854775808") ≡ Err (BadNumber 2)
unfolding tokens_from piece_at number_at
too_great = refl

least : tokens_of (codes "-9223372036854775808") ≡ Ok (token (Number (negsuc 9223372036854775807)) 0 20 ∷ [])
unfolding tokens_from piece_at number_at
least = refl

too_small : tokens_of (codes "-9223372036854775809") ≡ Err (BadNumber 0)
unfolding tokens_from piece_at number_at
too_small = refl

-- a sign alone is no number
minus_alone : tokens_of (codes "- 1") ≡ Err (BadChar 0)
unfolding tokens_from piece_at number_at
minus_alone = refl

-- a text that is never closed, whatever stands in it
unclosed : tokens_of (codes "get " ++ quote ++ codes "open" ++ 7 ∷ 0xFF ∷ backslash ++ quote) ≡ Err (OpenText 4)
unfolding tokens_from piece_at text_at
unclosed = refl

-- an unknown escape is a fault at its backslash, a control character where it stands
unknown_escape : tokens_of (quote ++ codes "a" ++ backslash ++ codes "x" ++ quote) ≡ Err (BadChar 2)
unfolding tokens_from piece_at text_at inside_at content utf8_valid_len is_utf8 chars encode
unknown_escape = refl

control : tokens_of (quote ++ codes "a" ++ 9 ∷ quote) ≡ Err (BadChar 2)
unfolding tokens_from piece_at text_at inside_at content utf8_valid_len is_utf8 chars encode
control = refl

-- tabs stand between tokens, and a carriage return only at the end
tab : tokens_of (codes "a" ++ 9 ∷ codes "b") ≡ Ok (token Word 0 1 ∷ token Word 2 3 ∷ [])
unfolding tokens_from piece_at
tab = refl

return_at_end : tokens_of (codes "a " ++ 13 ∷ []) ≡ Ok (token Word 0 1 ∷ [])
unfolding tokens_from piece_at
return_at_end = refl

return_in_the_middle : tokens_of (codes "a" ++ 13 ∷ codes " ") ≡ Err (BadChar 1)
unfolding tokens_from piece_at
return_in_the_middle = refl

-- a comment may have any characters, but only UTF-8
comment : tokens_of (codes "a# " ++ 13 ∷ 7 ∷ 0xC3 ∷ 0xA9 ∷ quote) ≡ Ok (token Word 0 1 ∷ [])
unfolding tokens_from piece_at comment_at utf8_valid_len is_utf8 chars encode
comment = refl

comment_of_bytes : tokens_of (codes "a# " ++ 0xFF ∷ []) ≡ Err (BadChar 3)
unfolding tokens_from piece_at comment_at utf8_valid_len is_utf8 chars encode
comment_of_bytes = refl
