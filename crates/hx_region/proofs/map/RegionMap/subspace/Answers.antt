-- The table has an entry for each subspace.
use Rattle.std.proofs.Common.{◌≡◌, ◌<◌, sym, ap, ◌∙◌, subst, arith}
use Rattle.hx_model.specs.Types.{Space}
use Rattle.hx_types.specs.Subspaces.{axes_of, first_region}
use Rattle.hx_region.specs.declared.map.SubspaceSpan.{SubspaceSpan}
use Rattle.hx_region.specs.Spans.{subspace_count}
use Rattle.hx_region.proofs.Subspaces.{subspace_span, span_of_space, length-table}
use Rattle.hx_region.proofs.map.RegionMap.subspace.Goals as goal

pub index-requires : goal.index-requires
index-requires c =
    let l : c.args.s < subspace_count c.self.inside.space = subst (λ (space : Space). c.args.s < subspace_count space) (sym c.self.view_is) c.requires in
    let e = length-table c.self.inside.space c.self.inside.spans.items c.self.invariant.each in
    omega (arith, l, e)

pub returns : goal.returns
returns c =
    let l : c.args.s < subspace_count c.self.inside.space = subst (λ (space : Space). c.args.s < subspace_count space) (sym c.self.view_is) c.requires in
    let e = c.index.ensures ∙ span_of_space c.self.inside.space c.self.inside.spans.items c.args.s c.index.result.now c.self.invariant.each l in
    let k = subst (λ (space : Space). c.index.result.now ≡ subspace_span (first_region space c.args.s) (axes_of space c.args.s)) c.self.view_is e in
    record { first = ap (λ (x : SubspaceSpan). x.first) k; size = ap (λ (x : SubspaceSpan). x.size) k; axes = ap (λ (x : SubspaceSpan). x.axes) k }
