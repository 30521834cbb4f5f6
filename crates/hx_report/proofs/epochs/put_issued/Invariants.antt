use Rattle.std.proofs.Common.{◌≡◌, ◌++◌, take}
use Rattle.std.specs.List.{flat_map}
use Rattle.hx_report.specs.Reporting.{entry_lines}
use Rattle.hx_report.proofs.epochs.put_issued.Given as goal

abbrev pub invariant-loop-place : goal.invariant-loop-place
invariant-loop-place l = l.out.items ≡ l.fn.out.items ++ flat_map entry_lines (take l.place l.trace)
