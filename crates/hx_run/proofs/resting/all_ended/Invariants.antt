use Rattle.std.proofs.Common.{take}
use Rattle.std.specs.List.{AllByRecursion}
use Rattle.hx_law_drivers.specs.Rests.{HasEnded}
use Rattle.hx_run.proofs.resting.all_ended.Given as goal

abbrev pub invariant-loop-at : goal.invariant-loop-at
invariant-loop-at g l = AllByRecursion (λ d. AllByRecursion (HasEnded l.script) d.crew.desks.items) (take l.at l.drivers)
