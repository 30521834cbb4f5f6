use Rattle.std.proofs.Common.{◌≡◌, ◌++◌, take}
use Rattle.std.specs.List.{flat_map}
use Rattle.hx_report_lines.specs.Printed.{history_text}
use Rattle.hx_report_lines.proofs.printing.put_histories.Given as goal

abbrev pub invariant-loop-history : goal.invariant-loop-history
invariant-loop-history l = l.out.items ≡ l.fn.out.items ++ flat_map (history_text l.space) (take l.history-index l.histories)
