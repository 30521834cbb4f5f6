use Rattle.std.proofs.Common.{◌≡◌, Some, map}
use Rattle.hx_types.specs.Words.{below}
use Rattle.hx_region.specs.Plans.{query_size}
use Rattle.hx_region.proofs.candidates.query_counts.Given as goal

abbrev pub invariant-loop-s : goal.invariant-loop-s
invariant-loop-s l = l.counts.items ≡ map (λ s. Some (query_size l.map l.terms s)) (below l.s)
