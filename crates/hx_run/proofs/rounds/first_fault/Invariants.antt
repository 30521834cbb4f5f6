use Rattle.std.proofs.Common.{◌≡◌, map, drop}
use Rattle.hx_run.specs.Rounds.{first_fault}
use Rattle.hx_run.proofs.rounds.first_fault.Given as goal

abbrev pub invariant-loop-at : goal.invariant-loop-at
invariant-loop-at g l = first_fault (map (λ d. d.crew) (drop l.at l.drivers)) ≡ first_fault (map (λ d. d.crew) l.drivers)
