use Rattle.std.proofs.Common.{take}
use Rattle.std.specs.List.{AllByRecursion}
use Rattle.hx_law_drivers.specs.Rests.{HasEnded}
use Rattle.hx_run.proofs.resting.has_crew_ended.Given as goal

abbrev pub invariant-loop-at : goal.invariant-loop-at
invariant-loop-at l = AllByRecursion (HasEnded l.script) (take l.at l.crew.desks.items)
