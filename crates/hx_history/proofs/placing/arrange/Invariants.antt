use Rattle.std.proofs.Common.{◌≡◌, map, reverse, take}
use Rattle.hx_history.specs.Events.{item_view, read_view, told, updates_at, version_in}
use Rattle.hx_history.proofs.placing.arrange.Given as goal

abbrev pub invariant-loop-place : goal.invariant-loop-place
invariant-loop-place l =
    map item_view l.items.items
    ≡ told l.script (map read_view l.reads) (version_in l.writes l.place) (reverse (updates_at (take l.place l.writes)))
