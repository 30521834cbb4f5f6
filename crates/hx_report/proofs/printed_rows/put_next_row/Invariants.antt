use Rattle.std.proofs.Common.{◌≡◌, ◌-◌, length}
use Rattle.hx_report.specs.PrintedRows.{IsPrinted}
use Rattle.hx_report.proofs.printed_rows.put_next_row.Given as goal

abbrev pub invariant-others : goal.invariant-others
invariant-others l = record {
  untouched : l.out.items ≡ l.fn.out.items;
  printed : IsPrinted l.space l.printed;
}

abbrev pub decreases-others : goal.decreases-others
decreases-others l = length l.printed.rows.items - l.place
