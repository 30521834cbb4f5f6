use Rattle.std.proofs.Common.{◌-◌, ℕ, List, length}
use Rattle.std.specs.List.{All}
use Rattle.hx_model.specs.Types.{Space}
use Rattle.hx_report.specs.PrintedRows.{IsLine}
use Rattle.hx_report.proofs.printed_rows.take_lower.Given as goal

abbrev pub invariant-lower : goal.invariant-lower
invariant-lower l =
    (space : Space) (lines : List ℕ) → All (IsLine space lines) l.rows → All (IsLine space lines) l.fn.both.items → All (IsLine space lines) l.both.items

abbrev pub decreases-lower : goal.decreases-lower
decreases-lower l = length l.rows - l.place
