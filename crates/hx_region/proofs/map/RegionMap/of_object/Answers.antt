-- The row stays within the subspace, and the subspace within the space.
use Rattle.std.proofs.Common.{ap, ◌∙◌, subst, arith}
use Rattle.hx_types.specs.Spaces.{IsSpace}
use Rattle.hx_types.specs.Subspaces.{size_of}
use Rattle.hx_region.proofs.Subspaces.{size-few}
use Rattle.hx_region.proofs.map.RegionMap.of_object.Goals as goal

pub row-row-requires-clause-few : goal.row-row-requires-clause-few
row-row-requires-clause-few c =
    let few = size-few c.args.self.now (subst IsSpace c.self.view_is c.self.invariant.valid) c.args.s c.requires in
    let size = ap size_of (c.as_slice.ensures ∙ c.subspace-subspace.ensures.axes) in
    omega (arith, few, size)

pub overflow_add-result : goal.overflow_add-result
overflow_add-result c =
    let few = size-few c.args.self.now (subst IsSpace c.self.view_is c.self.invariant.valid) c.args.s c.requires in
    let size = ap size_of (c.as_slice.ensures ∙ c.subspace-subspace.ensures.axes) in
    omega (arith, few, size, c.subspace-subspace.ensures.first, c.row-row.ensures.within)
