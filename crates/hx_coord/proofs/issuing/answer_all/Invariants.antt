use Rattle.std.proofs.Common.{◌≡◌, take}
use Rattle.hx_model.specs.CoordinatorSteps.{newest_answered}
use Rattle.hx_coord.proofs.issuing.answer_all.Given as goal

abbrev pub invariant-loop-each : goal.invariant-loop-each
invariant-loop-each l = l.newest ≡ newest_answered (take l.each-index l.answered) l.initial.newest
