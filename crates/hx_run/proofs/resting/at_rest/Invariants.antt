use Rattle.std.proofs.Common.{◌≡◌, map, take, None}
use Rattle.std.specs.List.{AllByRecursion}
use Rattle.hx_law_drivers.specs.Rests.{IsRested}
use Rattle.hx_run.proofs.resting.at_rest.Given as goal

abbrev pub invariant-loop-at : goal.invariant-loop-at
invariant-loop-at g l =
    AllByRecursion (λ d. d.crew.fault ≡ None) (take l.at l.drivers)
    × AllByRecursion (λ d. AllByRecursion (IsRested l.script (map (λ d. d.crew) l.drivers)) d.crew.desks.items) (take l.at l.drivers)
