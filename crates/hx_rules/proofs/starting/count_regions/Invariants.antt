use Rattle.std.proofs.Common.{◌≡◌, ◌+◌}
use Rattle.std.specs.Slice.Iter.{iter_rest}
use Rattle.hx_types.specs.Subspaces.{region_count, sizes_sum}
use Rattle.hx_rules.proofs.starting.count_regions.Given as goal

abbrev pub invariant-loop-axes : goal.invariant-loop-axes
invariant-loop-axes l = l.count + sizes_sum (iter_rest l.axes-iterator) ≡ region_count l.space
