use Rattle.std.proofs.Common.{◌≡◌, take}
use Rattle.hx_model.specs.CoordinatorSteps.{stops_left}
use Rattle.hx_coord.proofs.stops.stops_left.Given as goal

abbrev pub invariant-loop-stop : goal.invariant-loop-stop
invariant-loop-stop l = l.left ≡ stops_left l.server (take l.stop-index l.todo)
