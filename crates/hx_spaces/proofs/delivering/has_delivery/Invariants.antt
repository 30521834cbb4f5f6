use Rattle.std.proofs.Common.{◌≡◌, map, drop}
use Rattle.hx_spaces.specs.Courses.{first_delivery_from, newest}
use Rattle.hx_spaces.proofs.delivering.has_delivery.Given as goal

abbrev pub invariant-loop-place : goal.invariant-loop-place
invariant-loop-place l =
    (l.worlds.items ≡ l.initial.worlds.items)
    × (first_delivery_from 0 (map newest l.initial.worlds.items) ≡ first_delivery_from l.place (drop l.place (map newest l.initial.worlds.items)))
