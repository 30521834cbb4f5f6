-- Bytes that stand for themselves between quotes.
use Rattle.std.proofs.Common.{◌≡◌, ℕ, zero, suc, ◌+◌, ◌<◌, ◌≤◌, Bool, true, false, not, eqb, List, [], ◌∷◌, ◌++◌}
use Rattle.std.proofs.Common.{length, get_or, take, drop, Ok, refl, sym, ap, subst, ◌∙◌, arith, take_all, drop-cons}
use Rattle.std.proofs.Common.{length-append}
use Rattle.std.specs.Prelude.{◌&&◌, nat_le, nat_lt, ◌==◌}
use Rattle.std.specs.List.{list_all, prefix_len}
use Rattle.std.specs.Str.{IsAscii, IsUtf8}
use Rattle.std.proofs.lemmas.Bool.{le-ltb, ne_eqb}
use Rattle.std.proofs.lemmas.Bool.Decides.{nat_tests}
use Rattle.std.proofs.lemmas.List.{length-take-le, take-append-drop, take-append-le}
use Rattle.std.proofs.lemmas.Str.{IsUtf8-from_ascii, utf8_valid_len-IsUtf8}
use Rattle.hx_lex.specs.declared.token.TokenKind.TheVariants as kinds
use Rattle.hx_lex.specs.Numbers.{token_piece}
use Rattle.hx_lex.specs.Plain.{IsPlainFront, is_plain}
use Rattle.hx_lex.specs.Quotes.{inside_len, content, inside_at, text_at}
use Rattle.hx_lex.proofs.Content.{and_left, and_right}
use Rattle.hx_lex.proofs.Words.{front_passes}

no_control : (b : ℕ) → is_plain b ≡ true → 32 ≤ b
no_control b e = grind (arith, nat_tests)

ascii : (b : ℕ) → is_plain b ≡ true → b < 128
ascii b e = grind (arith, nat_tests)

not_true : (x : Bool) → not x ≡ true → x ≡ false
not_true false e = refl
not_true true e = absurd cc

no_quote : (b : ℕ) → is_plain b ≡ true → eqb b 34 ≡ false
no_quote b e = not_true (b == 34) (and_right (nat_le 32 b && nat_lt b 128) (not (b == 34))
    (and_left (nat_le 32 b && nat_lt b 128 && not (b == 34)) (not (b == 92)) e))

no_backslash : (b : ℕ) → is_plain b ≡ true → eqb b 92 ≡ false
no_backslash b e = not_true (b == 92) (and_right (nat_le 32 b && nat_lt b 128 && not (b == 34)) (not (b == 92)) e)

are_ascii : (plain : List ℕ) → list_all is_plain plain ≡ true → IsAscii plain
are_ascii [] e i = omega arith
are_ascii (b ∷ bs) e zero = ascii b (and_left (is_plain b) (list_all is_plain bs) e)
are_ascii (b ∷ bs) e (suc i) = are_ascii bs (and_right (is_plain b) (list_all is_plain bs) e) i

pub plain_utf8 : (plain : List ℕ) → list_all is_plain plain ≡ true → IsUtf8 plain
plain_utf8 plain e = IsUtf8-from_ascii plain (are_ascii plain e)

-- the quote behind them closes the text
inside_plain : (plain rest : List ℕ) → list_all is_plain plain ≡ true → inside_len false (plain ++ 34 ∷ rest) ≡ length plain
inside_plain [] rest e = refl
inside_plain (b ∷ bs) rest e =
    let here = and_left (is_plain b) (list_all is_plain bs) e in
    rw (no_quote b here, no_backslash b here, inside_plain bs rest (and_right (is_plain b) (list_all is_plain bs) e)) (omega arith)

content_plain : (at : ℕ) (plain : List ℕ) → list_all is_plain plain ≡ true → content false at plain ≡ Ok plain
unfolding content
content_plain at [] e = refl
content_plain at (b ∷ bs) e =
    let here = and_left (is_plain b) (list_all is_plain bs) e in
    rw (le-ltb b 32 (no_control b here), no_backslash b here, content_plain (at + 1) bs (and_right (is_plain b) (list_all is_plain bs) e)) refl

same_eqb : (n : ℕ) → eqb n n ≡ true
same_eqb n = grind (arith, nat_tests)

inside_at_plain : (at : ℕ) (plain : List ℕ) → list_all is_plain plain ≡ true → inside_at at plain ≡ Ok plain
unfolding inside_at
inside_at_plain at plain e =
    rw (utf8_valid_len-IsUtf8 plain (plain_utf8 plain e), take_all (length plain) plain (omega arith), content_plain at plain e, same_eqb (length plain)) refl

front : (plain rest : List ℕ) → take (length plain) (plain ++ rest) ≡ plain
front plain rest = take-append-le (length plain) plain rest (omega arith) ∙ take_all (length plain) plain (omega arith)

text_split : (at : ℕ) (plain rest : List ℕ) → list_all is_plain plain ≡ true
    → text_at at (plain ++ 34 ∷ rest) ≡ token_piece (kinds.Text plain) (length plain + 2)
unfolding text_at
text_split at plain rest e =
    let longer = ne_eqb (length plain) (length (plain ++ 34 ∷ rest)) (λ same. omega (arith, same, length-append plain (34 ∷ rest))) in
    rw (inside_plain plain rest e, longer, front plain (34 ∷ rest), inside_at_plain (at + 1) plain e) refl

-- a text of such bytes is what they are
pub text_is_plain : (at : ℕ) (bytes plain : List ℕ) → IsPlainFront bytes plain → text_at at bytes ≡ token_piece (kinds.Text plain) (length plain + 2)
text_is_plain at bytes plain is =
    subst (λ (x : List ℕ). text_at at x ≡ token_piece (kinds.Text plain) (length plain + 2)) (sym is.split)
    (text_split at plain (drop (length plain + 1) bytes) is.all)

pub split_at_quote : (bytes : List ℕ) (n : ℕ) → n < length bytes → get_or bytes n 0 ≡ 34 → bytes ≡ take n bytes ++ 34 ∷ drop (n + 1) bytes
split_at_quote bytes n within quote =
    let one : suc n ≡ n + 1 = omega arith in
    sym (take-append-drop n bytes)
    ∙ ap (λ (d : List ℕ). take n bytes ++ d)
    (drop-cons bytes n 0 within ∙ ap (λ (b : ℕ). b ∷ drop (suc n) bytes) quote ∙ ap (λ (k : ℕ). 34 ∷ drop k bytes) one)

pub front_is_plain : (bytes : List ℕ) (n : ℕ) → n ≡ prefix_len is_plain bytes → n < length bytes → get_or bytes n 0 ≡ 34 → IsPlainFront bytes (take n bytes)
front_is_plain bytes n is within quote =
    record {
      split = split_at_quote bytes n within quote
          ∙ ap (λ (k : ℕ). take n bytes ++ 34 ∷ drop (k + 1) bytes) (sym (length-take-le n bytes (omega (arith, within))));
      all = ap (λ (k : ℕ). list_all is_plain (take k bytes)) is ∙ front_passes is_plain bytes;
    }
