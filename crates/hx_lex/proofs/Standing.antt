-- A text stands for plain UTF-8, no longer than its slice.
use Rattle.std.proofs.Common.{◌≡◌, ℕ, suc, ◌+◌, ◌≤◌, Bool, true, false, cond, eqb, ltb, List, [], ◌∷◌, length, take}
use Rattle.std.proofs.Common.{Option, Some, None, Result, Ok, Err, refl, sym, ap, ◌∙◌, subst, arith}
use Rattle.std.specs.List.{list_all}
use Rattle.std.specs.Option.{option_map_or}
use Rattle.std.specs.Str.Lossy.{utf8_valid_len}
use Rattle.std.proofs.lemmas.Bool.{eqb-false, ltb-false, le-leb}
use Rattle.std.proofs.lemmas.Option.{same_Some}
use Rattle.std.proofs.lemmas.List.{length-take, length-take-le}
use Rattle.hx_lex.specs.declared.token.TokenKind.TheVariants as kinds
use Rattle.hx_lex.specs.declared.errors.LexError.{LexError}
use Rattle.hx_lex.specs.declared.errors.LexError.TheVariants.{BadChar, OpenText}
use Rattle.hx_lex.specs.Answers.{◌>>=◌}
use Rattle.hx_lex.specs.Numbers.{token_piece}
use Rattle.hx_lex.specs.Quotes.{inside_len, escaped, content, inside_at, text_at}
use Rattle.hx_lex.specs.Spelling.{is_plain, IsText}
use Rattle.hx_lex.proofs.Content.{after_ok, content_utf8_front}
use Rattle.hx_lex.proofs.Sound.{Sound, choice, a_token}

-- what bytes between quotes stand for is plain and no longer
record Stands (bytes text : List ℕ) : Type 0 where
  short : length text ≤ length bytes
  plain : list_all is_plain text ≡ true

escaped_plain : (c x : ℕ) → escaped c ≡ Some x → is_plain x ≡ true
escaped_plain c x e = by_tests (eqb c 34) (eqb c 92) (eqb c 110) (eqb c 116) x e
  where
    by_tests : (p q r s : Bool) (x : ℕ) → cond p (Some 34) (cond q (Some 92) (cond r (Some 10) (cond s (Some 9) None))) ≡ Some x → is_plain x ≡ true
    by_tests true q r s x e = rw (← same_Some 34 x e) refl
    by_tests false true r s x e = rw (← same_Some 92 x e) refl
    by_tests false false true s x e = rw (← same_Some 10 x e) refl
    by_tests false false false true x e = rw (← same_Some 9 x e) refl
    by_tests false false false false x e = absurd cc

one_more : (bytes rest text : List ℕ) (c : ℕ) → suc (length rest) ≤ length bytes → is_plain c ≡ true → Stands rest text → Stands bytes (c ∷ text)
one_more bytes rest text c le is below = record { short = omega (arith, below.short); plain = rw (is, below.plain) refl }

high_plain : (b : ℕ) → ltb b 32 ≡ false → is_plain b ≡ true
high_plain b e = rw (le-leb 32 b (ltb-false b 32 e)) refl

stands : (bs : List ℕ) (behind : Bool) (at : ℕ) (t : List ℕ) → content behind at bs ≡ Ok t → Stands bs t
unfolding content
stands [] true at t e = absurd cc
stands [] false at t e =
    let nil : [] ≡ t = cc in
    subst (Stands []) nil (record { short = omega arith; plain = refl })
stands (c ∷ bs) true at t e = by_escape (escaped c) refl e (stands bs)
  where
    by_escape : (o : Option ℕ) → escaped c ≡ o → option_map_or (λ x. content false (at + 2) bs >>= λ cs. Ok (x ∷ cs)) o (Err (BadChar at)) ≡ Ok t
        → ((behind : Bool) (at : ℕ) (t : List ℕ) → content behind at bs ≡ Ok t → Stands bs t) → Stands (c ∷ bs) t
    by_escape None f e below = absurd cc
    by_escape (Some x) f e below =
        let u = after_ok (x ∷ []) t (content false (at + 2) bs) e in
        subst (Stands (c ∷ bs)) (sym u.2) (one_more (c ∷ bs) bs u.0 x (omega arith) (escaped_plain c x f) (below false (at + 2) u.0 u.1))
stands (b ∷ bs) false at t e = by_tests (ltb b 32) (eqb b 92) refl e (stands bs)
  where
    by_tests : (p q : Bool) → ltb b 32 ≡ p → cond p (Err (BadChar at)) (cond q (content true at bs) (content false (at + 1) bs >>= λ cs. Ok (b ∷ cs))) ≡ Ok t
        → ((behind : Bool) (at : ℕ) (t : List ℕ) → content behind at bs ≡ Ok t → Stands bs t) → Stands (b ∷ bs) t
    by_tests true q f e below = absurd cc
    by_tests false true f e below =
        let rest : Stands bs t = below true at t e in
        record { short = omega (arith, rest.short); plain = rest.plain }
    by_tests false false f e below =
        let u = after_ok (b ∷ []) t (content false (at + 1) bs) e in
        subst (Stands (b ∷ bs)) (sym u.2) (one_more (b ∷ bs) bs u.0 b (omega arith) (high_plain b f) (below false (at + 1) u.0 u.1))

inside_text : (at : ℕ) (bytes t : List ℕ) → inside_at at bytes ≡ Ok t → IsText t × (length t ≤ length bytes)
unfolding inside_at
inside_text at bytes t e = by_content (content false at (take (utf8_valid_len bytes) bytes)) refl e
  where
    by_content : (r : Result (List ℕ) LexError) → content false at (take (utf8_valid_len bytes) bytes) ≡ r
        → (r >>= λ text. cond (eqb (utf8_valid_len bytes) (length bytes)) (Ok text)
        (Err (BadChar (at + utf8_valid_len bytes)))) ≡ Ok t → IsText t × (length t ≤ length bytes)
    by_content (Err d) f e = absurd cc
    by_content (Ok u) f e = by_test (eqb (utf8_valid_len bytes) (length bytes)) e
      where
        by_test : (b : Bool) → cond b (Ok u) (Err (BadChar (at + utf8_valid_len bytes))) ≡ Ok t → IsText t × (length t ≤ length bytes)
        by_test false e = absurd cc
        by_test true e =
            let same : u ≡ t = cc in
            let front : Stands (take (utf8_valid_len bytes) bytes) t = stands (take (utf8_valid_len bytes) bytes) false at t (f ∙ ap Ok same) in (
              record { utf8 = content_utf8_front at bytes t (f ∙ ap Ok same); plain = front.plain },
              omega (arith, front.short, length-take (utf8_valid_len bytes) bytes),
            )

inside_len_le : (behind : Bool) (bs : List ℕ) → inside_len behind bs ≤ length bs
inside_len_le behind [] = omega arith
inside_len_le true (b ∷ bs) = omega (arith, inside_len_le false bs)
inside_len_le false (b ∷ bs) = choice (λ (n : ℕ). n ≤ length (b ∷ bs)) (eqb b 34) 0 (1 + inside_len (eqb b 92) bs)
    (λ e. omega arith) (λ e. omega (arith, inside_len_le (eqb b 92) bs))

pub a_text : (at b : ℕ) (bs : List ℕ) → Sound (b ∷ bs) (text_at at bs)
unfolding text_at
a_text at b bs =
    let n : ℕ = inside_len false bs in
    let le : n ≤ length bs = inside_len_le false bs in
    choice (Sound (b ∷ bs)) (eqb n (length bs)) (Err (OpenText at)) (inside_at (at + 1) (take n bs) >>= λ text. token_piece (kinds.Text text) (n + 2))
    (λ unclosed. tt)
    (λ closed. by_inside n le (eqb-false n (length bs) closed) (inside_at (at + 1) (take n bs)) refl)
  where
    by_inside : (n : ℕ) → n ≤ length bs → (n ≡ length bs → ⊥) → (r : Result (List ℕ) LexError)
        → inside_at (at + 1) (take n bs) ≡ r → Sound (b ∷ bs) (r >>= λ text. token_piece (kinds.Text text) (n + 2))
    by_inside n le ne (Err d) e = tt
    by_inside n le ne (Ok t) e =
        let fits : n + 2 ≤ length (b ∷ bs) = grind (arith, ne) in
        let is = inside_text (at + 1) (take n bs) t e in
        a_token (b ∷ bs) (kinds.Text t) (n + 2) (omega arith) fits (is.0, omega (arith, is.1, length-take-le n bs le, length-take-le (n + 2) (b ∷ bs) fits))
