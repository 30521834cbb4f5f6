use Rattle.std.proofs.Common.{◌≡◌, ◌++◌, take}
use Rattle.std.specs.List.{flat_map}
use Rattle.hx_report.specs.PrintedRows.{IsPrinted}
use Rattle.hx_report.specs.Reporting.{record_lines}
use Rattle.hx_report.proofs.calls.put_records.Given as goal

abbrev pub invariant-loop-call : goal.invariant-loop-call
invariant-loop-call l = record {
  lines : l.out.items ≡ l.fn.out.items ++ flat_map (record_lines l.script) (take l.call-index l.records);
  printed : IsPrinted l.script.space l.printed;
}
