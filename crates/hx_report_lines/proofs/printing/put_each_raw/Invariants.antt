use Rattle.std.proofs.Common.{◌≡◌, ◌++◌, take}
use Rattle.std.specs.List.{flat_map}
use Rattle.hx_report_lines.specs.Printed.{raw_text}
use Rattle.hx_report_lines.proofs.printing.put_each_raw.Given as goal

abbrev pub invariant-loop-line : goal.invariant-loop-line
invariant-loop-line l = l.out.items ≡ l.fn.out.items ++ flat_map raw_text (take l.line-index l.lines)
