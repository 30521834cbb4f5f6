use Rattle.std.proofs.Common.{take}
use Rattle.std.specs.List.{AllByRecursion}
use Rattle.hx_law_drivers.specs.Rests.{HasHeard}
use Rattle.hx_run.proofs.resting.has_heard_all.Given as goal

abbrev pub invariant-loop-at : goal.invariant-loop-at
invariant-loop-at g l = AllByRecursion (λ d. HasHeard l.script l.desk d.crew) (take l.at l.drivers)
