use Rattle.hx_region.specs.Counts.{IsFewest}
use Rattle.hx_region.proofs.candidates.fewest.Given as goal

abbrev pub invariant-loop-s : goal.invariant-loop-s
invariant-loop-s l = IsFewest l.counts l.s l.best
