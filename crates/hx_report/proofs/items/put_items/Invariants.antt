use Rattle.std.proofs.Common.{◌≡◌, ◌++◌, map, take}
use Rattle.std.specs.List.{flat_map}
use Rattle.hx_history.specs.Events.{item_view}
use Rattle.hx_report.specs.Reporting.{item_line}
use Rattle.hx_report.proofs.items.put_items.Given as goal

abbrev pub invariant-loop-item : goal.invariant-loop-item
invariant-loop-item l = l.out.items ≡ l.fn.out.items ++ flat_map (item_line l.space) (map item_view (take l.item-index l.items))
