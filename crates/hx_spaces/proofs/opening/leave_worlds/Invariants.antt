use Rattle.std.proofs.Common.{◌≡◌, ◌++◌, map}
use Rattle.std.specs.List.{All}
use Rattle.hx_world.specs.Worlds.{WorldState}
use Rattle.hx_spaces.specs.Clusters.{IsRunOfSpace}
use Rattle.hx_spaces.specs.Courses.{newest}
use Rattle.hx_spaces.proofs.opening.leave_worlds.Given as goal

abbrev pub invariant-loop-world : goal.invariant-loop-world
invariant-loop-world l =
    (l.traces.items ≡ map (λ (w : WorldState). w.trace) l.yielded)
    × All (λ (w : WorldState). IsRunOfSpace (newest w)) l.yielded
    × (l.yielded ++ l.world-iterator.rest.items ≡ l.fn.worlds.items)
