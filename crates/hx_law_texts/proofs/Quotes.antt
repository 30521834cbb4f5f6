-- A text in quotes says that text.
use Rattle.hx_law_texts.proofs.Vocabulary.{[], and_left, and_right, ap, append-nil, append_assoc, arith, Bool, codes, cond, drop, drop_at, eqb, eqb-true, false}
use Rattle.hx_law_texts.proofs.Vocabulary.{flat_map, flat_map-cons, get_or, inl, inr, IsText, leb, leb-true, length, length-append, List, list_all, lit<}
use Rattle.hx_law_texts.proofs.Vocabulary.{ne_eqb, Ok, Piece, refl, Some, subst, suc, sym, take, take_at, Text, Tok, token_piece, true, ℕ, ◌++◌, ◌+◌, ◌<◌, ◌||◌}
use Rattle.hx_law_texts.proofs.Vocabulary.{◌∙◌, ◌∷◌, ◌≡◌, ◌≤◌}
use Rattle.std.proofs.Common.{ltb, eq-eqb}
use Rattle.std.specs.Str.{IsUtf8}
use Rattle.std.specs.Str.Lossy.{utf8_valid_len}
use Rattle.std.specs.Char.{IsScalar, encode_utf8}
use Rattle.std.specs.Str as strings
use Rattle.std.proofs.lemmas.Bool.{le-ltb, cases_lt}
use Rattle.std.proofs.lemmas.List.{take_all, drop-drop}
use Rattle.std.proofs.lemmas.List.Concat.{flat_map-append}
use Rattle.std.proofs.lemmas.Str.{IsUtf8-append, IsUtf8-nil, IsUtf8-encode, encode_ascii, utf8_valid_len-IsUtf8}
use lib.Utf8.{scalar}
use Rattle.hx_lex.specs.declared.token.TokenKind.TheVariants as kinds
use Rattle.hx_lex.specs.Pieces.{piece_at}
use Rattle.hx_lex.specs.Quotes.{inside_len, content, followed_by, inside_at, text_at}
use Rattle.hx_lex.specs.Spelling.{is_plain}
use Rattle.hx_lex.proofs.Lemmas.{high_bytes, ascii}
use Rattle.hx_print.specs.Printing.{escape, quoted}
use Rattle.hx_law_texts.proofs.Says.{Says, IsClean, says, says_piece, both_clean, on_line}

-- the escape of a byte, by the tests for it
abbrev by_tests : (p q r s : Bool) → ℕ → List ℕ
by_tests p q r s b = cond p (codes "\\\"") (cond q (codes "\\\\") (cond r (codes "\\n") (cond s (codes "\\t") (b ∷ []))))

inside_by : (p q r s : Bool) (b : ℕ) (more : List ℕ) → eqb b 34 ≡ p → eqb b 92 ≡ q
    → inside_len false (by_tests p q r s b ++ more) ≡ length (by_tests p q r s b) + inside_len false more
inside_by true q r s b more e f = omega arith
inside_by false true r s b more e f = omega arith
inside_by false false true s b more e f = omega arith
inside_by false false false true b more e f = omega arith
inside_by false false false false b more e f = rw (e, f) refl

inside_escaped : (t more : List ℕ) → inside_len false (flat_map escape t ++ 34 ∷ more) ≡ length (flat_map escape t)
inside_escaped [] more = refl
inside_escaped (b ∷ bs) more =
    let e : flat_map escape (b ∷ bs) ≡ escape b ++ flat_map escape bs = flat_map-cons escape b bs in
    let g : (escape b ++ flat_map escape bs) ++ 34 ∷ more ≡ escape b ++ (flat_map escape bs ++ 34 ∷ more) =
    append_assoc (escape b) (flat_map escape bs) (34 ∷ more) in
    let h = inside_by (eqb b 34) (eqb b 92) (eqb b 10) (eqb b 9) b (flat_map escape bs ++ 34 ∷ more) refl refl in
    ap (λ x. inside_len false (x ++ 34 ∷ more)) e ∙ ap (inside_len false) g ∙ h
    ∙ ap (λ n. length (escape b) + n) (inside_escaped bs more)
    ∙ sym (length-append (escape b) (flat_map escape bs)) ∙ ap length (sym e)

content_by : (p q r s : Bool) (at b : ℕ) (more : List ℕ) → eqb b 34 ≡ p → eqb b 92 ≡ q → eqb b 10 ≡ r → eqb b 9 ≡ s
    → is_plain b ≡ true → content false at (by_tests p q r s b ++ more)
    ≡ followed_by b (content false (at + length (by_tests p q r s b)) more)
unfolding content
content_by true q r s at b more e f g h plain = rw (eqb-true b 34 e) refl
content_by false true r s at b more e f g h plain = rw (eqb-true b 92 f) refl
content_by false false true s at b more e f g h plain = rw (eqb-true b 10 g) refl
content_by false false false true at b more e f g h plain = rw (eqb-true b 9 h) refl
content_by false false false false at b more e f g h plain = rw (not_control b plain g h, f) refl
  where
    settled : (x : Bool) → x || false || false ≡ true → x ≡ true
    settled true e = refl
    settled false e = absurd cc

    not_control : (b : ℕ) → is_plain b ≡ true → eqb b 10 ≡ false → eqb b 9 ≡ false → ltb b 32 ≡ false
    not_control b plain g h = le-ltb b 32 (leb-true 32 b (settled (leb 32 b) (rw (h, g) at plain)))

content_escaped : (at : ℕ) (t : List ℕ) → list_all is_plain t ≡ true → content false at (flat_map escape t) ≡ Ok t
unfolding content
content_escaped at [] plain = refl
content_escaped at (b ∷ bs) plain =
    let e : flat_map escape (b ∷ bs) ≡ escape b ++ flat_map escape bs = flat_map-cons escape b bs in
    ap (content false at) e
    ∙ content_by (eqb b 34) (eqb b 92) (eqb b 10) (eqb b 9) at b (flat_map escape bs) refl refl refl refl (and_left (is_plain b) (list_all is_plain bs) plain)
    ∙ ap (followed_by b) (content_escaped (at + length (escape b)) bs (and_right (is_plain b) (list_all is_plain bs) plain))

-- escaping keeps UTF-8
escape_by_utf8 : (p q r s : Bool) (b : ℕ) → b < 128 → IsUtf8 (by_tests p q r s b)
escape_by_utf8 true q r s b lt = IsUtf8-append (92 ∷ []) (34 ∷ []) (ascii 92 (lit< tt)) (ascii 34 (lit< tt))
escape_by_utf8 false true r s b lt = IsUtf8-append (92 ∷ []) (92 ∷ []) (ascii 92 (lit< tt)) (ascii 92 (lit< tt))
escape_by_utf8 false false true s b lt = IsUtf8-append (92 ∷ []) (110 ∷ []) (ascii 92 (lit< tt)) (ascii 110 (lit< tt))
escape_by_utf8 false false false true b lt = IsUtf8-append (92 ∷ []) (116 ∷ []) (ascii 92 (lit< tt)) (ascii 116 (lit< tt))
escape_by_utf8 false false false false b lt = ascii b lt

high_not : (b c : ℕ) → 128 ≤ b → c < 128 → eqb b c ≡ false
high_not b c le lt = ne_eqb b c (λ e. omega (arith, e))

high_fixed : (bs : List ℕ) → ((k : ℕ) → k < length bs → 128 ≤ get_or bs k 0) → flat_map escape bs ≡ bs
high_fixed [] high = refl
high_fixed (b ∷ bs) high =
    let le : 128 ≤ b = high 0 (omega arith) in
    flat_map-cons escape b bs ∙ rw (
      high_not b 34 le (lit< tt),
      high_not b 92 le (lit< tt),
      high_not b 10 le (lit< tt),
      high_not b 9 le (lit< tt),
    )
    (ap (λ r. b ∷ r) (high_fixed bs (λ k lt. high (suc k) (omega arith))))

char_utf8 : (c : ℕ) → IsScalar c → IsUtf8 (flat_map escape (encode_utf8 c))
char_utf8 c is =
    elim (cases_lt c 128) [
      | inl lt ↦ rw (encode_ascii c lt) (subst IsUtf8 (sym (flat_map-cons escape c [] ∙ append-nil (escape c)))
          (escape_by_utf8 (eqb c 34) (eqb c 92) (eqb c 10) (eqb c 9) c lt))
      | inr le ↦ subst IsUtf8 (sym (high_fixed (encode_utf8 c) (λ k lt. high_bytes c k le lt))) (IsUtf8-encode c is)
    ]

chars_utf8 : (cs : List ℕ) → strings.all_scalars cs ≡ true → IsUtf8 (flat_map escape (strings.encode_utf8_all cs))
chars_utf8 [] all = IsUtf8-nil
chars_utf8 (c ∷ cs) all =
    rw (flat_map-append escape (encode_utf8 c) (strings.encode_utf8_all cs))
    (IsUtf8-append (flat_map escape (encode_utf8 c)) (flat_map escape (strings.encode_utf8_all cs))
    (char_utf8 c (and_left (scalar c) (strings.all_scalars cs) all))
    (chars_utf8 cs (and_right (scalar c) (strings.all_scalars cs) all)))

escaped_utf8 : (t : List ℕ) → IsUtf8 t → IsUtf8 (flat_map escape t)
escaped_utf8 t u = subst (λ (x : List ℕ). IsUtf8 (flat_map escape x)) u.1.1 (chars_utf8 u.0 u.1.0)

inside_escaped_at : (at : ℕ) (t : List ℕ) → IsText t → inside_at at (flat_map escape t) ≡ Ok t
unfolding inside_at
inside_escaped_at at t is =
    let whole : utf8_valid_len (flat_map escape t) ≡ length (flat_map escape t) = utf8_valid_len-IsUtf8 (flat_map escape t) (escaped_utf8 t is.utf8) in
    let all : take (length (flat_map escape t)) (flat_map escape t) ≡ flat_map escape t =
    take_all (length (flat_map escape t)) (flat_map escape t) (omega arith) in
    rw (whole, all, content_escaped at t is.plain, eq-eqb (length (flat_map escape t)) (length (flat_map escape t)) refl) refl

text_piece : (at : ℕ) (t rest : List ℕ) → IsText t
    → piece_at at (34 ∷ (flat_map escape t ++ 34 ∷ rest)) ≡ token_piece (kinds.Text t) (length (flat_map escape t) + 2)
unfolding piece_at text_at
text_piece at t rest is =
    let n : inside_len false (flat_map escape t ++ 34 ∷ rest) ≡ length (flat_map escape t) = inside_escaped t rest in
    let k : eqb (length (flat_map escape t)) (length (flat_map escape t ++ 34 ∷ rest)) ≡ false =
    ne_eqb (length (flat_map escape t)) (length (flat_map escape t ++ 34 ∷ rest))
    (λ e. omega (arith, e, length-append (flat_map escape t) (34 ∷ rest))) in
    rw (n, k, take_at (flat_map escape t) (34 ∷ rest) (length (flat_map escape t)) refl, inside_escaped_at (at + 1) t is) refl

text_said : (t : List ℕ) (ts : List Tok) (rest : List ℕ) → IsText t → ((at : ℕ) → says at 0 rest ≡ Ok ts) → (at : ℕ)
    → says at 0 (quoted t ++ rest) ≡ Ok (Text t ∷ ts)
unfolding quoted
text_said t ts rest is h at =
    let n : ℕ = length (flat_map escape t) in
    let p : Piece = record { kind = Some (kinds.Text t); len = n + 2 } in
    let bs : List ℕ = flat_map escape t ++ 34 ∷ rest in
    let text : ((34 ∷ []) ++ flat_map escape t ++ (34 ∷ [])) ++ rest ≡ 34 ∷ bs = simp append_assoc in
    let k : n + 2 ≡ suc (n + 1) = omega arith in
    let one : drop (n + 1) bs ≡ rest = sym (drop-drop 1 n bs) ∙ ap (drop 1) (drop_at (flat_map escape t) (34 ∷ rest) n refl) in
    let d : drop (n + 2) (34 ∷ bs) ≡ rest = rw k one in
    rw text (says_piece at 34 bs p ts (text_piece at t rest is) (omega arith) (rw d (h (at + (n + 2)))))

-- no newline stands in quotes
escape_clean : (p q r s : Bool) (b : ℕ) → eqb b 10 ≡ r → IsClean (by_tests p q r s b)
escape_clean true q r s b e = refl
escape_clean false true r s b e = refl
escape_clean false false true s b e = refl
escape_clean false false false true b e = refl
escape_clean false false false false b e = rw e refl

inside_clean : (t : List ℕ) → IsClean (flat_map escape t)
inside_clean [] = refl
inside_clean (b ∷ bs) = ap (list_all on_line) (flat_map-cons escape b bs)
    ∙ both_clean (escape b) (flat_map escape bs) (escape_clean (eqb b 34) (eqb b 92) (eqb b 10) (eqb b 9) b refl)
    (inside_clean bs)

quoted_clean : (t : List ℕ) → IsClean (quoted t)
unfolding quoted
quoted_clean t = both_clean (codes "\"" ++ flat_map escape t) (codes "\"") (inside_clean t) refl

pub text_says : (t : List ℕ) (ts : List Tok) (rest : List ℕ) → IsText t → Says ts rest → Says (Text t ∷ ts) (quoted t ++ rest)
text_says t ts rest is h = record { said = text_said t ts rest is h.said; clean = both_clean (quoted t) rest (quoted_clean t) h.clean }
