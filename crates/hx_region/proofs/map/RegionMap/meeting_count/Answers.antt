-- The rows are those of the subspace's axes.
use Rattle.std.proofs.Common.{ap, ◌∙◌, subst, arith}
use Rattle.hx_types.specs.Spaces.{IsSpace}
use Rattle.hx_types.specs.Subspaces.{size_of}
use Rattle.hx_region.proofs.Meetings.{count_found}
use Rattle.hx_region.proofs.Subspaces.{size-few}
use Rattle.hx_region.proofs.map.RegionMap.meeting_count.Goals as goal

pub count_meeting-requires-clause-few : goal.count_meeting-requires-clause-few
count_meeting-requires-clause-few c =
    let few = size-few c.args.self.now (subst IsSpace c.self.view_is c.self.invariant.valid) c.args.s c.requires in
    let size = ap size_of (c.as_slice.ensures ∙ c.subspace-subspace.ensures.axes) in
    omega (arith, few, size)

pub returns : goal.returns
returns c =
    count_found c.args.self.now c.self.inside.space c.args.terms.now c.as_slice-2.result.now c.as_slice.result.now c.args.s c.count_meeting.result c.requires
    c.self.view_is c.as_slice-2.ensures (c.as_slice.ensures ∙ c.subspace-subspace.ensures.axes) c.count_meeting.ensures
