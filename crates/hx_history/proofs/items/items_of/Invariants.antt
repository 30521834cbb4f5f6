use Rattle.std.proofs.Common.{◌≡◌, map, take}
use Rattle.hx_history.specs.Events.{item_view}
use Rattle.hx_history.proofs.items.items_of.Given as goal

abbrev pub invariant-loop-item : goal.invariant-loop-item
invariant-loop-item l = l.made ≡ map item_view (take l.item-index l.items)
