-- Each piece is spelled by the bytes at the front, and each token by its slice of the line.
use Rattle.std.proofs.Common.{◌≡◌, ℕ, zero, suc, ◌+◌, ◌-◌, ◌<◌, ◌≤◌, Bool, true, false, cond, eqb, List, [], ◌∷◌}
use Rattle.std.proofs.Common.{length, drop, Option, Some, None, Result, Ok, Err, refl, sym, ap, ◌∙◌, subst, arith}
use Rattle.std.specs.Prelude.{◌||◌, ◌&&◌, ◌==◌}
use Rattle.std.specs.List.{AllByRecursion}
use Rattle.std.specs.Str.Lossy.{utf8_valid_len}
use Rattle.std.proofs.lemmas.List.{length-drop, drop-drop}
use Rattle.hx_lex.specs.declared.token.Token.{Token}
use Rattle.hx_lex.specs.declared.token.Piece.{Piece}
use Rattle.hx_lex.specs.declared.token.TokenKind.{TokenKind}
use Rattle.hx_lex.specs.declared.token.TokenKind.TheVariants as kinds
use Rattle.hx_lex.specs.declared.errors.LexError.{LexError}
use Rattle.hx_lex.specs.declared.errors.LexError.TheVariants.{BadChar}
use Rattle.hx_lex.specs.Answers.{◌>>=◌}
use Rattle.hx_lex.specs.Letters.{is_lower, is_digit, begins_with}
use Rattle.hx_lex.specs.Numbers.{token_piece}
use Rattle.hx_lex.specs.Pieces.{comment_at, piece_at}
use Rattle.hx_lex.specs.Lines.{before, token_of, tokens_from, tokens_of}
use Rattle.hx_lex.specs.Spelling.{IsTokenOf}
use Rattle.hx_lex.proofs.Sound.{IsPiece, Sound, choice, no_token, a_token}
use Rattle.hx_lex.proofs.Content.{and_right}
use Rattle.hx_lex.proofs.Words.{a_word}
use Rattle.hx_lex.proofs.Numerals.{a_positive, a_negative}
use Rattle.hx_lex.proofs.Standing.{a_text}

a_comment : (at b : ℕ) (bs : List ℕ) → Sound (b ∷ bs) (comment_at at (b ∷ bs))
unfolding comment_at
a_comment at b bs = choice (Sound (b ∷ bs)) (eqb (utf8_valid_len (b ∷ bs)) (length (b ∷ bs)))
    (Ok (record { kind = None; len = length (b ∷ bs) })) (Err (BadChar (at + utf8_valid_len (b ∷ bs))))
    (λ e. no_token (b ∷ bs) (length (b ∷ bs)) (omega arith) (omega arith))
    (λ e. tt)

a_sign : (b : ℕ) (bs : List ℕ) (n : ℕ) → 0 < n → n ≤ length (b ∷ bs) → Sound (b ∷ bs) (token_piece kinds.Sign n)
a_sign b bs n moves within = a_token (b ∷ bs) kinds.Sign n moves within tt

dots_within : (b : ℕ) (bs : List ℕ) → cond (begins_with (λ c. c == 46) bs) 2 1 ≤ length (b ∷ bs)
dots_within b [] = omega arith
dots_within b (c ∷ cs) = choice (λ (n : ℕ). n ≤ length (b ∷ c ∷ cs)) (eqb c 46) 2 1 (λ e. omega arith) (λ e. omega arith)

dots_move : (c : Bool) → 0 < cond c 2 1
dots_move true = omega arith
dots_move false = omega arith

pub piece_sound : (at b : ℕ) (bs : List ℕ) → Sound (b ∷ bs) (piece_at at (b ∷ bs))
unfolding piece_at
piece_sound at b bs =
    let P : Result Piece LexError → Type 0 = Sound (b ∷ bs) in
    choice P (b == 32 || b == 9) _ _ (λ e. no_token (b ∷ bs) 1 (omega arith) (omega arith)) (λ e.
    choice P (b == 13 && length bs == 0) _ _ (λ e. no_token (b ∷ bs) 1 (omega arith) (omega arith)) (λ e.
    choice P (b == 35) _ _ (λ e. a_comment at b bs) (λ e.
    choice P (is_lower b) _ _ (λ e. a_word b bs e) (λ e.
    choice P (is_digit b) _ _ (λ e. a_positive at b bs e) (λ e.
    choice P (b == 45 && begins_with is_digit bs) _ _ (λ e. a_negative at b bs (and_right (b == 45) (begins_with is_digit bs) e)) (λ e.
    choice P (b == 34) _ _ (λ e. a_text at b bs) (λ e.
    choice P (b == 61 || b == 44) _ _ (λ e. a_sign b bs 1 (omega arith) (omega arith)) (λ e.
    choice P (b == 46) _ _ (λ e. a_sign b bs (cond (begins_with (λ c. c == 46) bs) 2 1)
    (dots_move (begins_with (λ c. c == 46) bs)) (dots_within b bs)) (λ e. tt)))))))))

is_piece : (rest : List ℕ) (at : ℕ) (p : Piece) → 0 < length rest → piece_at at rest ≡ Ok p → IsPiece rest p
is_piece [] at p some e = absurd (omega arith)
is_piece (b ∷ bs) at p some e = subst (Sound (b ∷ bs)) e (piece_sound at b bs)

pub piece_moves : (rest : List ℕ) (at : ℕ) (p : Piece) → 0 < length rest → piece_at at rest ≡ Ok p → 0 < p.len
piece_moves rest at p some e = (is_piece rest at p some e).moves

pub piece_within : (rest : List ℕ) (at : ℕ) (p : Piece) → 0 < length rest → piece_at at rest ≡ Ok p → p.len ≤ length rest
piece_within rest at p some e = (is_piece rest at p some e).within

-- each token that is read is one of the line
abbrev Each : List ℕ → Result (List Token) LexError → Type 0
Each line (Ok ts) = AllByRecursion (IsTokenOf line) ts
Each line (Err e) = Unit {0}

-- the token of a piece is one of the line, and so are those after it
each_more : (line rest : List ℕ) (at : ℕ) (k : Option TokenKind) (len : ℕ) (read : Result (List Token) LexError)
    → drop at line ≡ rest → at < length line → IsPiece rest (record { kind = k; len = len }) → Each line read
    → Each line (before (token_of at (record { kind = k; len = len })) read)
each_more line rest at None len read e lt is each = each
each_more line rest at (Some k) len (Err d) e lt is each = tt
each_more line rest at (Some k) len (Ok ts) e lt is each =
    let n : at + len - at ≡ len = omega arith in
    let size : length rest ≡ length line - at = sym (ap length e) ∙ length-drop at line in (
      record {
        some = omega (arith, is.moves);
        within = omega (arith, is.within, size);
        spelled = rw (n, e) (is.spelled k refl);
      },
      each,
    )

dropped : (line : List ℕ) (b : ℕ) (bs : List ℕ) (at : ℕ) → drop at line ≡ b ∷ bs → drop (at + 1) line ≡ bs
dropped line b bs at e = sym (drop-drop 1 at line) ∙ ap (drop 1) e

inside_line : (line : List ℕ) (b : ℕ) (bs : List ℕ) (at : ℕ) → drop at line ≡ b ∷ bs → at < length line
inside_line line b bs at e = omega (arith, ap length e, length-drop at line)

each_from : (line bs : List ℕ) (at skip : ℕ) → drop at line ≡ bs → Each line (tokens_from at skip bs)
unfolding tokens_from
each_from line [] at skip e = tt
each_from line (b ∷ bs) at (suc skip) e = each_from line bs (at + 1) skip (dropped line b bs at e)
each_from line (b ∷ bs) at zero e = by_piece (piece_at at (b ∷ bs)) (piece_sound at b bs) (λ skip. each_from line bs (at + 1) skip (dropped line b bs at e))
  where
    by_piece : (r : Result Piece LexError) → Sound (b ∷ bs) r
        → ((skip : ℕ) → Each line (tokens_from (at + 1) skip bs))
        → Each line (r >>= λ p. before (token_of at p) (tokens_from (at + 1) (p.len - 1) bs))
    by_piece (Err d) is later = tt
    by_piece (Ok p) is later = each_more line (b ∷ bs) at p.kind p.len (tokens_from (at + 1) (p.len - 1) bs) e
        (inside_line line b bs at e) is (later (p.len - 1))

pub tokens_spelled : (line : List ℕ) (ts : List Token) → tokens_of line ≡ Ok ts → AllByRecursion (IsTokenOf line) ts
tokens_spelled line ts e = subst (Each line) e (each_from line line 0 0 refl)
