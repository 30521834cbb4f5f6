-- Lines to which another one was appended.
use Rattle.std.proofs.Common.{◌≡◌, ◌<◌, ◌≤◌, ◌-◌, ℕ, List, ◌++◌, length, get_or, take, drop, ap, sym, subst, ◌∙◌}
use Rattle.std.proofs.Common.{arith, length-append, length-drop, Result, Ok, Err}
use Rattle.std.specs.Prelude.{OnOk}
use Rattle.std.specs.List.{All, slice_range}
use Rattle.std.proofs.lemmas.List.{take-append-le, drop-append-le, take_all}
use Rattle.std.proofs.Math.Seq.{drop-append_seam}
use Rattle.hx_model.specs.Types.{Space}
use Rattle.hx_report.specs.declared.printed_rows.PrintedRow.{PrintedRow}
use Rattle.hx_report.specs.PrintedRows.{IsLine}
use Rattle.hx_report.specs.Reporting.{row_line}

-- a range stays where something is appended
pub range_stays : (xs ys : List ℕ) (a b : ℕ) → a ≤ b → b ≤ length xs → slice_range (xs ++ ys) a b ≡ slice_range xs a b
range_stays xs ys a b ab bx =
    ap (λ l. take (b - a) l) (drop-append-le a xs ys (omega arith))
    ∙ take-append-le (b - a) (drop a xs) ys (omega (arith, length-drop a xs))

-- what was appended is the range behind what stood there
pub range_behind : (xs ys : List ℕ) → slice_range (xs ++ ys) (length xs) (length (xs ++ ys)) ≡ ys
range_behind xs ys =
    ap (λ l. take (length (xs ++ ys) - length xs) l) (drop-append_seam xs ys)
    ∙ take_all (length (xs ++ ys) - length xs) ys (omega (arith, length-append xs ys))

-- a line stays
pub line_stays : (space : Space) (old new more : List ℕ) (p : PrintedRow) → new ≡ old ++ more → IsLine space old p → IsLine space new p
line_stays space old new more p e is = record {
  begins = is.begins;
  ends = subst (λ l. p.end ≤ length l) (sym e) (omega (arith, length-append old more, is.ends));
  line = ap (λ l. slice_range l p.start p.end) e ∙ range_stays old more p.start p.end is.begins is.ends ∙ is.line;
}

-- a line that was appended
pub line_behind : (space : Space) (old new : List ℕ) (p : PrintedRow) → new ≡ old ++ row_line space p.row.now
    → p.start ≡ length old → p.end ≡ length new → IsLine space new p
line_behind space old new p e start end = record {
  begins = omega (arith, start, end, ap length e, length-append old (row_line space p.row.now));
  ends = omega (arith, end);
  line =
      ap (λ a. slice_range new a p.end) start ∙ ap (λ b. slice_range new (length old) b) end
      ∙ ap (λ l. slice_range l (length old) (length l)) e ∙ range_behind old (row_line space p.row.now);
}

-- what holds of each holds of the one at a place of a slice of them
pub all_at : {X : Type 0} (P : X → Type 0) (xs slice : List X) (i : ℕ) (x : X) → slice ≡ xs → i < length slice → x ≡ get_or slice i x → All P xs → P x
all_at P xs slice i x same within is all =
    let each : All P slice = subst (All P) (sym same) all in
    subst P (sym is) (each i x within)

-- what follows from what holds after a success
pub on_ok : {T E P Q : Type 0} (r : Result T E) → (P → Q) → OnOk r P → OnOk r Q
on_ok (Ok x) f p = f p
on_ok (Err e) f p = tt
