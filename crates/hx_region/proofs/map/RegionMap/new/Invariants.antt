use Rattle.std.proofs.Common.{◌≡◌, ◌+◌, ◌++◌, drop}
use Rattle.hx_types.specs.Subspaces.{region_count, sizes_sum, subspaces_of}
use Rattle.hx_region.specs.Tables.{spans_from}
use Rattle.hx_region.proofs.map.RegionMap.new.Given as goal

abbrev pub invariant-loop-axes : goal.invariant-loop-axes
invariant-loop-axes l =
    (l.spans.items ++ spans_from l.regions (drop l.axes-index l.space.subspaces) ≡ spans_from 0 (subspaces_of l.space))
    × (l.regions + sizes_sum (drop l.axes-index l.space.subspaces) ≡ region_count l.space)
