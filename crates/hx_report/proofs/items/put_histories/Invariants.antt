use Rattle.std.proofs.Common.{◌≡◌, ◌++◌, map, take}
use Rattle.std.specs.List.{flat_map}
use Rattle.hx_history.specs.Listed.{history_view}
use Rattle.hx_report.specs.Reporting.{history_lines}
use Rattle.hx_report.proofs.items.put_histories.Given as goal

abbrev pub invariant-loop-history : goal.invariant-loop-history
invariant-loop-history l = l.out.items ≡ l.fn.out.items ++ flat_map (history_lines l.space) (map history_view (take l.history-index l.histories))
