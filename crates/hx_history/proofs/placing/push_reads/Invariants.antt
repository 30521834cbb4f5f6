use Rattle.std.proofs.Common.{◌≡◌, ◌++◌, map, take}
use Rattle.std.specs.Option.{option_copied}
use Rattle.hx_history.specs.Events.{item_on, item_view, read_view}
use Rattle.hx_history.proofs.placing.push_reads.Given as goal

abbrev pub invariant-loop-read : goal.invariant-loop-read
invariant-loop-read l =
    map item_view l.items.items
    ≡ map item_view l.fn.items.items ++ map (item_on (option_copied l.object)) (map read_view (take l.read-index l.reads))
