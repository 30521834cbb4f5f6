-- A text, read a line at a time.
use Rattle.hx_law_texts.proofs.Vocabulary.{[], and_left, and_right, Bool, cond, Draft, eqb, false, line_of, line_of_toks, lines_of, List, list_all, not, Ok}
use Rattle.hx_law_texts.proofs.Vocabulary.{refl, Script, subst, sym, Tok, true, ℕ, ◌++◌, ◌+◌, ◌∷◌, ◌≡◌}
use Rattle.hx_script.specs.Texts.{onto_first, read_lines}
use Rattle.hx_law_texts.proofs.Says.{Says, IsClean, on_line, line_says}

pub lines_cons : (line rest : List ℕ) → IsClean line → lines_of (line ++ 10 ∷ rest) ≡ line ∷ lines_of rest
lines_cons [] rest h = refl
lines_cons (b ∷ bs) rest h = stays b bs rest (eqb b 10) (and_left (on_line b) (list_all on_line bs) h)
    (lines_cons bs rest (and_right (on_line b) (list_all on_line bs) h))
  where
    stays : (b : ℕ) (bs rest : List ℕ) (t : Bool) → not t ≡ true → lines_of (bs ++ 10 ∷ rest) ≡ bs ∷ lines_of rest
        → cond t ([] ∷ lines_of (bs ++ 10 ∷ rest)) (onto_first b (lines_of (bs ++ 10 ∷ rest))) ≡ (b ∷ bs) ∷ lines_of rest
    stays b bs rest true h e = absurd cc
    stays b bs rest false h e = rw e refl

-- the text behind the first n lines, which gave the draft, is the rest of the script's
pub record ReadsTo (n : ℕ) (d : Draft) (text : List ℕ) (s : Script) : Type 0 where
  pub reads : read_lines n d (lines_of text) ≡ Ok s

one_line : (n : ℕ) (d e : Draft) (line rest : List ℕ) (s : Script) → IsClean line → line_of (n + 1) d line ≡ Ok e
    → ReadsTo (n + 1) e rest s → ReadsTo n d (line ++ 10 ∷ rest) s
unfolding read_lines
one_line n d e line rest s clean h next = record { reads = rw (lines_cons line rest clean, h) next.reads }

-- a line, and then the rest
pub line_reads : (n : ℕ) (d e : Draft) (text line rest : List ℕ) (ts : List Tok) (s : Script)
    → text ≡ line ++ 10 ∷ rest → Says ts line → line_of_toks (n + 1) d ts ≡ Ok e → ReadsTo (n + 1) e rest s → ReadsTo n d text s
line_reads n d e text line rest ts s split says toks next =
    subst (λ (x : List ℕ). ReadsTo n d x s) (sym split) (one_line n d e line rest s says.clean (rw (line_says (n + 1) d line ts says) toks) next)
