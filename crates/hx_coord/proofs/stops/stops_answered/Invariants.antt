use Rattle.std.proofs.Common.{◌≡◌, take}
use Rattle.hx_model.specs.Types.{Config}
use Rattle.hx_model.specs.CoordinatorSteps.{stops_answered}
use Rattle.hx_coord.proofs.stops.stops_answered.Given as goal

abbrev pub invariant-loop-stop : goal.invariant-loop-stop
invariant-loop-stop l = (config : Config) → config.epoch ≡ l.epoch → l.answered ≡ stops_answered config l.server (take l.stop-index l.todo)
