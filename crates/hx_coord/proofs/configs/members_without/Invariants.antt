use Rattle.std.proofs.Common.{◌≡◌, take}
use Rattle.hx_model.specs.CoordinatorSteps.{members_without}
use Rattle.hx_coord.proofs.configs.members_without.Given as goal

abbrev pub invariant-loop-member : goal.invariant-loop-member
invariant-loop-member l = l.left ≡ members_without l.server (take l.member-index l.members)
