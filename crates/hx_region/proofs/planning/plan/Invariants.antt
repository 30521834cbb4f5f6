use Rattle.std.proofs.Common.{◌<◌, ◌^◌, length}
use Rattle.hx_model.specs.Planning.{query_regions}
use Rattle.hx_region.specs.Spans.{subspace_count}
use Rattle.hx_region.specs.Counts.{AreCounts}
use Rattle.hx_region.proofs.Trying.{left_of}
use Rattle.hx_region.proofs.planning.plan.Given as goal

abbrev pub invariant-loop-best : goal.invariant-loop-best
invariant-loop-best l = AreCounts l.config (query_regions l.map l.terms) (subspace_count l.map) l.counts.items × (length l.counts.items < 2 ^ 32)

abbrev pub decreases-loop-best : goal.decreases-loop-best
decreases-loop-best l = left_of l.counts.items
