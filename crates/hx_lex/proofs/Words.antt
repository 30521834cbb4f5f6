-- A word is ASCII, and the slice of a word is one.
use Rattle.std.proofs.Common.{◌≡◌, ℕ, zero, suc, ◌+◌, ◌<◌, Bool, true, false, cond, List, [], ◌∷◌, take, refl, ◌∙◌, arith}
use Rattle.std.specs.Str.{IsAscii, IsUtf8}
use Rattle.std.specs.List.{prefix_len, list_all}
use Rattle.std.proofs.lemmas.Bool.Decides.{nat_tests}
use Rattle.std.proofs.lemmas.List.Sums.{prefix_len-le-length}
use Rattle.std.proofs.lemmas.Str.{IsUtf8-from_ascii}
use Rattle.hx_lex.specs.declared.token.TokenKind.TheVariants as kinds
use Rattle.hx_lex.specs.Letters.{is_lower, is_word_part, begins_with, IsWord}
use Rattle.hx_lex.specs.Numbers.{token_piece}
use Rattle.hx_lex.proofs.Content.{and_left, and_right}
use Rattle.hx_lex.proofs.Digits.{prefix_len_moves}
use Rattle.hx_lex.proofs.Sound.{Sound, a_token}

part_is_ascii : (b : ℕ) → is_word_part b ≡ true → b < 128
part_is_ascii b e = grind (arith, nat_tests)

parts_are_ascii : (bytes : List ℕ) → list_all is_word_part bytes ≡ true → IsAscii bytes
parts_are_ascii [] e i = omega arith
parts_are_ascii (b ∷ bs) e zero = part_is_ascii b (and_left (is_word_part b) (list_all is_word_part bs) e)
parts_are_ascii (b ∷ bs) e (suc i) = parts_are_ascii bs (and_right (is_word_part b) (list_all is_word_part bs) e) i

pub word_utf8 : (bytes : List ℕ) → IsWord bytes → IsUtf8 bytes
word_utf8 bytes is = IsUtf8-from_ascii bytes (parts_are_ascii bytes is.parts)

pub front_passes : (p : ℕ → Bool) (xs : List ℕ) → list_all p (take (prefix_len p xs) xs) ≡ true
front_passes p [] = refl
front_passes p (x ∷ xs) = by_test (p x) refl (front_passes p xs)
  where
    by_test : (b : Bool) → p x ≡ b → list_all p (take (prefix_len p xs) xs) ≡ true → list_all p (take (cond b (1 + prefix_len p xs) 0) (x ∷ xs)) ≡ true
    by_test true e below =
        let k : 1 + prefix_len p xs ≡ suc (prefix_len p xs) = omega arith in
        rw (k, e) below
    by_test false e below = refl

front_begins : (p : ℕ → Bool) (b : ℕ) (bs : List ℕ) (n : ℕ) → 0 < n → begins_with p (take n (b ∷ bs)) ≡ p b
front_begins p b bs zero lt = absurd (omega arith)
front_begins p b bs (suc n) lt = refl

letter_is_part : (b : ℕ) → is_lower b ≡ true → is_word_part b ≡ true
letter_is_part b e = rw e refl

pub a_word : (b : ℕ) (bs : List ℕ) → is_lower b ≡ true → Sound (b ∷ bs) (token_piece kinds.Word (prefix_len is_word_part (b ∷ bs)))
a_word b bs e =
    let n : ℕ = prefix_len is_word_part (b ∷ bs) in
    let moves : 0 < n = prefix_len_moves is_word_part b bs (letter_is_part b e) in
    a_token (b ∷ bs) kinds.Word n moves (prefix_len-le-length is_word_part (b ∷ bs))
    (record { letter = front_begins is_lower b bs n moves ∙ e; parts = front_passes is_word_part (b ∷ bs) })
