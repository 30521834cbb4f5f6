use Rattle.std.proofs.Common.{◌≡◌, ◌++◌, take}
use Rattle.std.specs.List.{flat_map}
use Rattle.hx_report_lines.specs.Printed.{driver_text}
use Rattle.hx_report_lines.proofs.printing.put_drivers.Given as goal

abbrev pub invariant-loop-line : goal.invariant-loop-line
invariant-loop-line l = l.out.items ≡ l.fn.out.items ++ flat_map driver_text (take l.line-index l.drivers)
