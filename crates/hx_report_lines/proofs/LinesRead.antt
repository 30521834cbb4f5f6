-- A text, a line at a time.
use Rattle.std.proofs.Common.{◌≡◌, ◌≢◌, ℕ, ◌+◌, Bool, true, false, cond, ◌&&◌, eqb, List, [], ◌∷◌, length, None, Some, Ok, Err, refl, subst, arith}
use Rattle.std.specs.List.{All}
use Rattle.std.proofs.lemmas.Bool.{eqb-false}
use Rattle.std.proofs.lemmas.List.Elements.{All-cons, All-head, All-nil, All-tail}
use Rattle.hx_lex.proofs.Lemmas.{and_left}
use Rattle.hx_script.specs.Texts.{lines_of, onto_first}
use Rattle.hx_report_lines.specs.declared.drafts.Draft.{Draft}
use Rattle.hx_report_lines.specs.Drafts.{after_line, finished, is_over, read_lines}
use Rattle.hx_report_lines.proofs.DraftsRead.{IsOneLine}

pub reads_on : (whole : Bool) (n : ℕ) (d : Draft) (rest line after : List ℕ) (e : Draft)
    → lines_of rest ≡ line ∷ lines_of after → after_line d line ≡ Some e
    → read_lines whole n d (lines_of rest) ≡ read_lines whole (n + 1) e (lines_of after)
unfolding read_lines
reads_on whole n d rest line after e s h = rw (s, h) refl

pub reads_stop : (whole : Bool) (n : ℕ) (d : Draft) (rest line after : List ℕ) → lines_of rest ≡ line ∷ lines_of after
    → after_line d line ≡ None → read_lines whole n d (lines_of rest) ≡ Err (n + 1)
unfolding read_lines
reads_stop whole n d rest line after s h = rw (s, h) refl

pub reads_end : (whole : Bool) (n : ℕ) (d : Draft) (rest : List ℕ) → length rest ≡ 0 → read_lines whole n d (lines_of rest) ≡ finished whole (n + 1) d
unfolding read_lines
reads_end whole n d [] none = refl
reads_end whole n d (b ∷ bs) none = absurd (omega arith)

-- a draft that is finished is whole
pub finished_over : (whole : Bool) (n : ℕ) (d e : Draft) → finished whole n d ≡ Ok e → (d ≡ e) × (is_over e.section ≡ true)
finished_over whole n d e h = by (is_over d.section && whole) refl h
  where
    by : (b : Bool) → (is_over d.section && whole) ≡ b → cond b (Ok d) (Err n) ≡ Ok e → (d ≡ e) × (is_over e.section ≡ true)
    by true q f = let same : d ≡ e = cc in (same, subst (λ (x : Draft). is_over x.section ≡ true) same (and_left (is_over d.section) whole q))
    by false q f = absurd cc

-- no line has a newline
onto_line : (b : ℕ) (ls : List (List ℕ)) → b ≢ 10 → All IsOneLine ls → All IsOneLine (onto_first b ls)
onto_line b [] n h = All-cons IsOneLine (b ∷ []) [] (All-cons (λ c. c ≢ 10) b [] n (All-nil (λ c. c ≢ 10))) (All-nil IsOneLine)
onto_line b (l ∷ ls) n h = All-cons IsOneLine (b ∷ l) ls (All-cons (λ c. c ≢ 10) b l n (All-head IsOneLine l ls h)) (All-tail IsOneLine l ls h)

pub one_lines : (bs : List ℕ) → All IsOneLine (lines_of bs)
one_lines [] = All-nil IsOneLine
one_lines (b ∷ bs) = by (eqb b 10) refl (one_lines bs)
  where
    by : (t : Bool) → eqb b 10 ≡ t → All IsOneLine (lines_of bs) → All IsOneLine (cond t ([] ∷ lines_of bs) (onto_first b (lines_of bs)))
    by true q k = All-cons IsOneLine [] (lines_of bs) (All-nil (λ c. c ≢ 10)) k
    by false q k = onto_line b (lines_of bs) (eqb-false b 10 q) k

pub one_line : (bs line after : List ℕ) → lines_of bs ≡ line ∷ lines_of after → IsOneLine line
one_line bs line after e = All-head IsOneLine line (lines_of after) (subst (All IsOneLine) e (one_lines bs))
