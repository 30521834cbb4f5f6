use Rattle.std.proofs.Common.{◌≡◌, map, take}
use Rattle.hx_model.specs.CoordinatorSteps.{ready_if}
use Rattle.hx_coord.proofs.configs.with_ready.Given as goal

abbrev pub invariant-loop-member : goal.invariant-loop-member
invariant-loop-member l = l.after ≡ map (ready_if l.server) (take l.member-index l.members)
