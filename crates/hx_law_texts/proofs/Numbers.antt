-- A printed number says that number.
use Rattle.hx_law_texts.proofs.Vocabulary.{[], and_left, and_right, arith, begins_with, decimal, decimal_nonempty, drop, drop_at, eqb, false, FitsSigned}
use Rattle.hx_law_texts.proofs.Vocabulary.{is_digit, le-leb, leb, leb-true, length, List, list_all, lit<, lt-ltb, ne_eqb, negsuc, Number, Ok, Piece, pos, refl}
use Rattle.hx_law_texts.proofs.Vocabulary.{signed_decimal, Some, subst, suc, take_at, Tok, token_piece, true, w64, ℕ, ℤ, ◌++◌, ◌+◌, ◌<◌, ◌^◌, ◌∙◌, ◌∷◌, ◌≡◌}
use Rattle.hx_law_texts.proofs.Vocabulary.{◌≤◌}
use Rattle.std.proofs.Common.{rules}
use Rattle.std.specs.Str.{all_ascii_digits}
use Rattle.std.proofs.lemmas.Bool.{lt-leb}
use Rattle.std.proofs.lemmas.Fmt.{digits_decimal, digits_value-decimal}
use Rattle.std.proofs.lemmas.Str.Parse.{IsNumeralModel, numerals_by_fold, tells_all_ascii_digits}
use Rattle.hx_lex.specs.declared.token.TokenKind.TheVariants as kinds
use Rattle.hx_lex.specs.Numbers.{value, value_from, minus, number_at}
use Rattle.hx_lex.specs.Pieces.{piece_at}
use Rattle.hx_law_texts.proofs.Says.{Says, IsClean, says, says_piece, both_clean, clean_by, whole_run}

digit_not : (b c : ℕ) → is_digit b ≡ true → c < 48 → eqb b c ≡ false
digit_not b c h lt = ne_eqb b c (λ e. omega (arith, leb-true 48 b (and_left (leb 48 b) (leb b 57) h), e))

digit_not_lower : (b : ℕ) → is_digit b ≡ true → leb 97 b ≡ false
digit_not_lower b h = lt-leb 97 b (omega (arith, leb-true b 57 (and_right (leb 48 b) (leb b 57) h)))

piece_number : (at b : ℕ) (bs : List ℕ) → is_digit b ≡ true → piece_at at (b ∷ bs) ≡ number_at at false (b ∷ bs)
unfolding piece_at
piece_number at b bs h = rw (
  digit_not b 32 h (lit< tt),
  digit_not b 9 h (lit< tt),
  digit_not b 13 h (lit< tt),
  digit_not b 35 h (lit< tt),
  digit_not_lower b h,
  h,
) refl

number_whole : (at : ℕ) (ds rest : List ℕ) → list_all is_digit ds ≡ true → begins_with is_digit rest ≡ false
    → value ds < 2 ^ 63 → number_at at false (ds ++ rest) ≡ token_piece (kinds.Number (pos (value ds))) (length ds)
unfolding number_at
number_whole at ds rest h stop fits = rw (whole_run is_digit ds rest h stop, take_at ds rest (length ds) refl, lt-ltb (value ds) (2 ^ 63) fits) refl

digits_said : (ds : List ℕ) (ts : List Tok) (rest : List ℕ) → list_all is_digit ds ≡ true → 0 < length ds
    → value ds < 2 ^ 63 → begins_with is_digit rest ≡ false → ((at : ℕ) → says at 0 rest ≡ Ok ts)
    → (at : ℕ) → says at 0 (ds ++ rest) ≡ Ok (Number (pos (value ds)) ∷ ts)
digits_said [] ts rest all some fits stop h at = absurd (omega arith)
digits_said (b ∷ bs) ts rest all some fits stop h at =
    let p : Piece = record { kind = Some (kinds.Number (pos (value (b ∷ bs)))); len = length (b ∷ bs) } in
    let d : drop (length (b ∷ bs)) (b ∷ (bs ++ rest)) ≡ rest = drop_at (b ∷ bs) rest (length (b ∷ bs)) refl in
    says_piece at b (bs ++ rest) p ts (piece_number at b (bs ++ rest)
    (and_left (is_digit b) (list_all is_digit bs) all) ∙ number_whole at (b ∷ bs) rest all stop fits)
    (omega arith) (rw d (h (at + length (b ∷ bs))))

minus_piece : (at b : ℕ) (bs : List ℕ) → is_digit b ≡ true → piece_at at (45 ∷ b ∷ bs) ≡ number_at at true (b ∷ bs)
unfolding piece_at
minus_piece at b bs h = rw h refl

number_whole_minus : (at : ℕ) (ds rest : List ℕ) → list_all is_digit ds ≡ true → begins_with is_digit rest ≡ false
    → value ds ≤ 2 ^ 63 → number_at at true (ds ++ rest) ≡ token_piece (kinds.Number (minus (value ds))) (length ds + 1)
unfolding number_at
number_whole_minus at ds rest h stop fits = rw (whole_run is_digit ds rest h stop, take_at ds rest (length ds) refl, le-leb (value ds) (2 ^ 63) fits) refl

minus_said : (ds : List ℕ) (ts : List Tok) (rest : List ℕ) → list_all is_digit ds ≡ true → 0 < length ds
    → value ds ≤ 2 ^ 63 → begins_with is_digit rest ≡ false → ((at : ℕ) → says at 0 rest ≡ Ok ts)
    → (at : ℕ) → says at 0 (45 ∷ (ds ++ rest)) ≡ Ok (Number (minus (value ds)) ∷ ts)
minus_said [] ts rest all some fits stop h at = absurd (omega arith)
minus_said (b ∷ bs) ts rest all some fits stop h at =
    let ds : List ℕ = b ∷ bs in
    let p : Piece = record { kind = Some (kinds.Number (minus (value ds))); len = length ds + 1 } in
    let k : length ds + 1 ≡ suc (length ds) = omega arith in
    let d : drop (length ds + 1) (45 ∷ (ds ++ rest)) ≡ rest = rw k (drop_at ds rest (length ds) refl) in
    says_piece at 45 (ds ++ rest) p ts (minus_piece at b (bs ++ rest)
    (and_left (is_digit b) (list_all is_digit bs) all) ∙ number_whole_minus at ds rest all stop fits)
    (omega arith) (rw d (h (at + (length ds + 1))))

own : IsNumeralModel (λ ds. all_ascii_digits ds ≡ true) value
own = numerals_by_fold (λ ds. all_ascii_digits ds ≡ true) tells_all_ascii_digits value_from (search rules)

all_are : (ds : List ℕ) → all_ascii_digits ds ≡ true → list_all is_digit ds ≡ true
all_are [] h = refl
all_are (c ∷ cs) h = rw (and_left (is_digit c) (all_ascii_digits cs) h) (all_are cs (and_right (is_digit c) (all_ascii_digits cs) h))

pub decimal_digits : (n : ℕ) → n < 2 ^ 64 → list_all is_digit (decimal n) ≡ true
decimal_digits n small = all_are (decimal n) (digits_decimal own n small)

pub decimal_value : (n : ℕ) → n < 2 ^ 64 → value (decimal n) ≡ n
decimal_value n small = digits_value-decimal own n small

decimal_clean : (n : ℕ) → n < 2 ^ 64 → IsClean (decimal n)
decimal_clean n small = clean_by is_digit refl (decimal n) (decimal_digits n small)

pub number_says : (n : ℕ) (ts : List Tok) (rest : List ℕ) → n < 2 ^ 63 → begins_with is_digit rest ≡ false
    → Says ts rest → Says (Number (pos n) ∷ ts) (decimal n ++ rest)
number_says n ts rest fits stop h =
    let small : n < 2 ^ 64 = omega arith in
    let v : value (decimal n) ≡ n = decimal_value n small in
    record {
      said = λ at. subst (λ (m : ℕ). says at 0 (decimal n ++ rest) ≡ Ok (Number (pos m) ∷ ts)) v
          (digits_said (decimal n) ts rest (decimal_digits n small) (decimal_nonempty n small) (rw v fits) stop h.said at);
      clean = both_clean (decimal n) rest (decimal_clean n small) h.clean;
    }

negative_says : (n : ℕ) (ts : List Tok) (rest : List ℕ) → n < 2 ^ 63 → begins_with is_digit rest ≡ false
    → Says ts rest → Says (Number (negsuc n) ∷ ts) (45 ∷ (decimal (suc n) ++ rest))
negative_says n ts rest fits stop h =
    let small : suc n < 2 ^ 64 = omega arith in
    let v : value (decimal (suc n)) ≡ suc n = decimal_value (suc n) small in
    record {
      said = λ at. subst (λ (m : ℕ). says at 0 (45 ∷ (decimal (suc n) ++ rest)) ≡ Ok (Number (minus m) ∷ ts)) v
          (minus_said (decimal (suc n)) ts rest (decimal_digits (suc n) small) (decimal_nonempty (suc n) small)
          (rw v (omega arith)) stop h.said at);
      clean = both_clean (decimal (suc n)) rest (decimal_clean (suc n) small) h.clean;
    }

pub signed_says : (z : ℤ) (ts : List Tok) (rest : List ℕ) → FitsSigned w64 z → begins_with is_digit rest ≡ false
    → Says ts rest → Says (Number z ∷ ts) (signed_decimal z ++ rest)
signed_says (pos n) ts rest fits stop h = number_says n ts rest fits.sfits stop h
signed_says (negsuc n) ts rest fits stop h = negative_says n ts rest fits.sfits stop h
