use Rattle.std.proofs.Common.{◌≡◌, ◌++◌, take}
use Rattle.std.specs.List.{flat_map}
use Rattle.hx_report_lines.specs.Printed.{epoch_text}
use Rattle.hx_report_lines.proofs.printing.put_epochs.Given as goal

abbrev pub invariant-loop-line : goal.invariant-loop-line
invariant-loop-line l = l.out.items ≡ l.fn.out.items ++ flat_map epoch_text (take l.line-index l.epochs)
