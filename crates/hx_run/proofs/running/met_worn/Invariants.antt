use Rattle.std.proofs.Common.{◌≡◌, map, take}
use Rattle.hx_run.specs.Closed.{worn_in}
use Rattle.hx_run.proofs.running.met_worn.Given as goal

abbrev pub invariant-loop-driver : goal.invariant-loop-driver
invariant-loop-driver g l = l.met.items ≡ map (λ d. worn_in d.crew.fault) (take l.driver-index l.drivers)
