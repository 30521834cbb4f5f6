use Rattle.std.proofs.Common.{◌-◌, length}
use Rattle.std.specs.List.{All}
use Rattle.hx_model.specs.Types.{Space}
use Rattle.hx_report.specs.PrintedRows.{IsLine, IsPrinted}
use Rattle.hx_report.proofs.printed_rows.keep_made.Given as goal

abbrev pub invariant-made : goal.invariant-made
invariant-made l = record {
  printed : (space : Space) → IsPrinted space l.fn.printed → IsPrinted space l.printed;
  both : (space : Space) → IsPrinted space l.fn.printed → All (IsLine space l.printed.lines.items) l.printed.both.items;
}

abbrev pub decreases-made : goal.decreases-made
decreases-made l = length l.printed.made.items - l.next
