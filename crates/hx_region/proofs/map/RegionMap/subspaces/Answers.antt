-- The table has an entry for each subspace, of which there are few.
use Rattle.std.proofs.Common.{ap, arith}
use Rattle.hx_region.specs.Spans.{subspace_count}
use Rattle.hx_region.proofs.Subspaces.{length-table}
use Rattle.hx_region.proofs.map.RegionMap.subspaces.Goals as goal

pub overflow_cast-result : goal.overflow_cast-result
overflow_cast-result c =
    let e = length-table c.self.inside.space c.self.inside.spans.items c.self.invariant.each in
    omega (arith, e, c.self.invariant.valid.few_subspaces)

pub returns : goal.returns
returns c =
    let e = length-table c.self.inside.space c.self.inside.spans.items c.self.invariant.each in
    omega (arith, e, ap subspace_count c.self.view_is, c.len.ensures)
