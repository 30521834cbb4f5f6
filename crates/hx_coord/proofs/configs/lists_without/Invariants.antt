use Rattle.std.proofs.Common.{◌≡◌, map, take}
use Rattle.hx_model.specs.CoordinatorSteps.{members_without}
use Rattle.hx_coord.proofs.configs.lists_without.Given as goal

abbrev pub invariant-loop-members : goal.invariant-loop-members
invariant-loop-members l = l.lists ≡ map (members_without l.server) (take l.members-index l.regions)
