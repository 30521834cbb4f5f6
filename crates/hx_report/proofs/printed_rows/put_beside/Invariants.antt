use Rattle.std.proofs.Common.{◌≡◌, ◌++◌, take}
use Rattle.std.specs.List.{flat_map}
use Rattle.hx_report.specs.PrintedRows.{IsPrinted}
use Rattle.hx_report.specs.Reporting.{row_line}
use Rattle.hx_report.proofs.printed_rows.put_beside.Given as goal

abbrev pub invariant-loop-row : goal.invariant-loop-row
invariant-loop-row l = record {
  lines : l.out.items ≡ l.fn.out.items ++ flat_map (row_line l.space) (take l.row-index l.rows);
  printed : IsPrinted l.space l.printed;
}
