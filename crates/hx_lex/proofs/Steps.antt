-- A line, read a piece at a time.
use Rattle.std.proofs.Common.{◌≡◌, ℕ, zero, suc, ◌+◌, ◌-◌, ◌<◌, List, [], ◌∷◌, ◌++◌, length, drop, Option, Some, None}
use Rattle.std.proofs.Common.{Result, Ok, Err, refl, sym, ap, ◌∙◌, arith, add-zero, append_assoc}
use Rattle.std.specs.Option.{option_to_list}
use Rattle.std.proofs.lemmas.List.{append-nil}
use Rattle.hx_lex.specs.declared.token.Token.{Token}
use Rattle.hx_lex.specs.declared.token.Piece.{Piece}
use Rattle.hx_lex.specs.declared.token.TokenKind.{TokenKind}
use Rattle.hx_lex.specs.declared.errors.LexError.{LexError}
use Rattle.hx_lex.specs.declared.errors.LexError.TheVariants.{Memory, BadChar, OpenText, BadNumber}
use Rattle.hx_lex.specs.Answers.{◌>>=◌, Fails}
use Rattle.hx_lex.specs.Pieces.{piece_at}
use Rattle.hx_lex.specs.Lines.{before, token_of, tokens_from, tokens_of}

-- what was read before, and what is still read
abbrev pub with_front : List Token → Result (List Token) LexError → Result (List Token) LexError
with_front front read = read >>= λ ts. Ok (front ++ ts)

regroup : (front : List Token) (t : Option Token) (read : Result (List Token) LexError)
    → with_front front (before t read) ≡ with_front (front ++ option_to_list t) read
regroup front None (Ok ts) = ap (λ (f : List Token). Ok (f ++ ts)) (sym (append-nil front))
regroup front (Some t) (Ok ts) = ap Ok (simp append_assoc)
regroup front None (Err e) = refl
regroup front (Some t) (Err e) = refl

skipped : (at skip : ℕ) (bs : List ℕ) → tokens_from at skip bs ≡ tokens_from (at + skip) 0 (drop skip bs)
unfolding tokens_from
skipped at zero bs = rw add-zero refl
skipped at (suc skip) [] = refl
skipped at (suc skip) (b ∷ bs) =
    let e : at + 1 + skip ≡ at + suc skip = omega arith in
    skipped (at + 1) skip bs ∙ rw e refl

one_piece : (front : List Token) (at : ℕ) (b : ℕ) (bs : List ℕ) (p : Piece) → piece_at at (b ∷ bs) ≡ Ok p → 0 < p.len
    → with_front front (tokens_from at 0 (b ∷ bs)) ≡ with_front (front ++ option_to_list (token_of at p)) (tokens_from (at + p.len) 0 (drop p.len (b ∷ bs)))
unfolding tokens_from
one_piece front at b bs p e moves =
    let k : p.len ≡ suc (p.len - 1) = omega arith in
    let n : at + 1 + (p.len - 1) ≡ at + p.len = omega arith in
    let d : drop (p.len - 1) bs ≡ drop p.len (b ∷ bs) = ap (λ (m : ℕ). drop m (b ∷ bs)) (sym k) in
    rw e (regroup front (token_of at p) (tokens_from (at + 1) (p.len - 1) bs)
    ∙ ap (with_front (front ++ option_to_list (token_of at p))) (skipped (at + 1) (p.len - 1) bs ∙ rw (n, d) refl))

step : (front : List Token) (rest : List ℕ) (at : ℕ) (p : Piece) → 0 < length rest → piece_at at rest ≡ Ok p → 0 < p.len
    → with_front front (tokens_from at 0 rest) ≡ with_front (front ++ option_to_list (token_of at p)) (tokens_from (at + p.len) 0 (drop p.len rest))
step front [] at p lt e moves = absurd (omega arith)
step front (b ∷ bs) at p lt e moves = one_piece front at b bs p e moves

pub goes_past : (front : List Token) (rest : List ℕ) (at : ℕ) (p : Piece) → 0 < length rest → piece_at at rest ≡ Ok p → 0 < p.len → p.kind ≡ None
    → with_front front (tokens_from at 0 rest) ≡ with_front front (tokens_from (at + p.len) 0 (drop p.len rest))
goes_past front rest at p lt e moves none = step front rest at p lt e moves
    ∙ rw none (ap (λ (f : List Token). with_front f (tokens_from (at + p.len) 0 (drop p.len rest))) (append-nil front))

pub goes_on : (front : List Token) (rest : List ℕ) (at : ℕ) (p : Piece) (k : TokenKind) → 0 < length rest
    → piece_at at rest ≡ Ok p → 0 < p.len → p.kind ≡ Some k
    → with_front front (tokens_from at 0 rest) ≡ with_front
    (front ++ record { kind = k; start = at; end = at + p.len } ∷ []) (tokens_from (at + p.len) 0 (drop p.len rest))
goes_on front rest at p k lt e moves some = step front rest at p lt e moves ∙ rw some refl

pub is_done : (front : List Token) (rest : List ℕ) (at : ℕ) → length rest ≡ 0 → with_front front (tokens_from at 0 rest) ≡ Ok front
unfolding tokens_from
is_done front [] at none = ap Ok (append-nil front)
is_done front (b ∷ bs) at none = absurd (omega arith)

failed : (front : List Token) (rest : List ℕ) (at : ℕ) (e : LexError) → piece_at at rest ≡ Err e → with_front front (tokens_from at 0 rest) ≡ Err e
unfolding tokens_from piece_at
failed front [] at e h = absurd cc
failed front (b ∷ bs) at e h = rw h refl

pub ends : (e : LexError) (front : List Token) (rest line : List ℕ) (at : ℕ) → Fails e (piece_at at rest)
    → with_front front (tokens_from at 0 rest) ≡ tokens_of line → Fails e (tokens_of line)
ends Memory front rest line at h so_far = tt
ends (BadChar q) front rest line at h so_far = sym so_far ∙ failed front rest at (BadChar q) h
ends (OpenText q) front rest line at h so_far = sym so_far ∙ failed front rest at (OpenText q) h
ends (BadNumber q) front rest line at h so_far = sym so_far ∙ failed front rest at (BadNumber q) h
