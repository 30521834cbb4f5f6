-- The rows are those of the subspace's axes, numbered on from its first region.
use Rattle.std.proofs.Common.{◌<◌, sym, ap, ◌∙◌, subst, arith}
use Rattle.hx_model.specs.Types.{Space}
use Rattle.hx_types.specs.Spaces.{IsSpace}
use Rattle.hx_types.specs.Subspaces.{axes_of, first_region, size_of}
use Rattle.hx_region.specs.Spans.{subspace_count}
use Rattle.hx_region.proofs.Meetings.{regions_found, rows_fit}
use Rattle.hx_region.proofs.Subspaces.{size-few}
use Rattle.hx_region.proofs.map.RegionMap.meeting.Goals as goal

pub rows_meeting-requires-clause-few : goal.rows_meeting-requires-clause-few
rows_meeting-requires-clause-few c =
    let few = size-few c.args.self.now (subst IsSpace c.self.view_is c.self.invariant.valid) c.args.s c.requires in
    let size = ap size_of (c.as_slice.ensures ∙ c.subspace-subspace.ensures.axes) in
    omega (arith, few, size)

pub regions_from-requires : goal.regions_from-requires
regions_from-requires c =
    let valid = c.self.invariant.valid in
    let inside = c.self.inside.space in
    rows_fit inside valid c.as_slice-2.result.now c.as_slice.result.now c.args.s c.subspace-subspace.result.now.first c.in_ok-rows.rows.items
    (subst (λ (space : Space). c.args.s < subspace_count space) (sym c.self.view_is) c.requires)
    (c.as_slice.ensures ∙ c.subspace-subspace.ensures.axes ∙ ap (λ (space : Space). axes_of space c.args.s) (sym c.self.view_is))
    (c.subspace-subspace.ensures.first ∙ ap (λ (space : Space). first_region space c.args.s) (sym c.self.view_is))
    c.in_ok-rows.ensures

pub returns : goal.returns
returns c =
    regions_found c.args.self.now c.self.inside.space c.args.terms.now c.as_slice-2.result.now c.as_slice.result.now
    c.args.s c.subspace-subspace.result.now.first c.in_ok-rows.rows.items c.in_ok-regions.regions c.requires
    c.self.view_is c.as_slice-2.ensures (c.as_slice.ensures ∙ c.subspace-subspace.ensures.axes)
    c.subspace-subspace.ensures.first c.in_ok-rows.ensures c.in_ok-regions.ensures
