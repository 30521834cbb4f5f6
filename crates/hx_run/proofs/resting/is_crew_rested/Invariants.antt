use Rattle.std.proofs.Common.{map, take}
use Rattle.std.specs.List.{AllByRecursion}
use Rattle.hx_law_drivers.specs.Rests.{IsRested}
use Rattle.hx_run.proofs.resting.is_crew_rested.Given as goal

abbrev pub invariant-loop-at : goal.invariant-loop-at
invariant-loop-at g l = AllByRecursion (IsRested l.script (map (λ d. d.crew) l.drivers)) (take l.at l.crew.desks.items)
