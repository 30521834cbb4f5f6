-- The region's own subspace is the first whose span ends behind it.
use Rattle.std.proofs.Common.{◌≡◌, ◌+◌, ◌-◌, ◌<◌, ◌≤◌, false, List, sym, ap, ◌∙◌, subst, arith}
use Rattle.std.proofs.lemmas.List.{drop_all}
use Rattle.hx_model.specs.Types.{Axis, Space, Term}
use Rattle.hx_types.specs.Subspaces.{axes_of, first_region, size_of, subspaces_of}
use Rattle.hx_model.specs.Regions.{meets, meets_among, row_meets}
use Rattle.hx_region.specs.declared.map.SubspaceSpan.{SubspaceSpan}
use Rattle.hx_region.proofs.Sizes.{HaveParts}
use Rattle.hx_region.proofs.Subspaces.{among_after, among_here, axes-parts, entry_at, length-table, next_first, size-few}
use Rattle.hx_region.proofs.map.RegionMap.meets.Goals as goal

pub overflow_add-subspace : goal.overflow_add-subspace
overflow_add-subspace c =
    let space = c.self.inside.space in
    let at = entry_at space c.self.inside.spans.items c.deref-subspace-items.result.now c.loop-subspace.subspace-index
    c.subspace-item.result c.deref-subspace-items.ensures.value c.self.invariant.each c.loop-subspace-test.true
    c.subspace-item.is in
    let few = size-few space c.self.invariant.valid c.loop-subspace.subspace-index at.0 in
    omega (arith, few, ap (λ (x : SubspaceSpan). x.first) at.1, ap (λ (x : SubspaceSpan). x.size) at.1)

pub overflow_sub-row : goal.overflow_sub-row
overflow_sub-row c =
    let space = c.self.inside.space in
    let at = entry_at space c.self.inside.spans.items c.deref-subspace-items.result.now c.loop-subspace.subspace-index
    c.subspace-item.result c.deref-subspace-items.ensures.value c.self.invariant.each c.loop-subspace-test.true
    c.subspace-item.is in
    omega (arith, c.loop-subspace.invariant.0, ap (λ (x : SubspaceSpan). x.first) at.1)

pub row_meets-requires : goal.row_meets-requires
row_meets-requires c =
    let space = c.self.inside.space in
    let at = entry_at space c.self.inside.spans.items c.deref-subspace-items.result.now c.loop-subspace.subspace-index
    c.subspace-item.result c.deref-subspace-items.ensures.value c.self.invariant.each c.loop-subspace-test.true
    c.subspace-item.is in
    let axes = c.as_slice-axes.ensures ∙ ap (λ (x : SubspaceSpan). x.axes) at.1 in
    record {
      space = c.self.invariant.valid;
      parts = subst HaveParts (sym axes) (axes-parts space c.self.invariant.valid c.loop-subspace.subspace-index);
      regions = ap (λ (x : SubspaceSpan). x.size) at.1 ∙ sym (ap size_of axes);
    }

pub returns-then-region-subspace : goal.returns-then-region-subspace
returns-then-region-subspace c =
    let space = c.self.inside.space in
    let at = entry_at space c.self.inside.spans.items c.deref-subspace-items.result.now c.loop-subspace.subspace-index
    c.subspace-item.result c.deref-subspace-items.ensures.value c.self.invariant.each c.loop-subspace-test.true
    c.subspace-item.is in
    let axes = c.as_slice-axes.ensures ∙ ap (λ (x : SubspaceSpan). x.axes) at.1 in
    let first = ap (λ (x : SubspaceSpan). x.first) at.1 in
    let row : c.args.region.0 - first_region space c.loop-subspace.subspace-index
    < size_of (axes_of space c.loop-subspace.subspace-index) =
    omega (arith, first, ap (λ (x : SubspaceSpan). x.size) at.1, c.if-region-subspace.true, c.loop-subspace.invariant.0) in
    let is =
    c.row_meets.ensures
    ∙ ap (λ (ts : List Term). row_meets space ts c.as_slice-axes.result.now (c.args.region.0 - c.subspace-item.result.first)) c.as_slice.ensures
    ∙ ap (λ (a : List Axis). row_meets space c.args.terms.now a (c.args.region.0 - c.subspace-item.result.first)) axes
    ∙ ap (λ f. row_meets space c.args.terms.now (axes_of space c.loop-subspace.subspace-index) (c.args.region.0 - f)) first
    ∙ sym (among_here space c.args.terms.now (subspaces_of space) c.loop-subspace.subspace-index
    (c.args.region.0 - first_region space c.loop-subspace.subspace-index) at.0 row)
    ∙ c.loop-subspace.invariant.1
    in
    subst (λ (space : Space). c.row_meets.result ≡ meets space c.args.region c.args.terms.now) c.self.view_is is

pub loop-subspace-preserved : goal.loop-subspace-preserved
loop-subspace-preserved c =
    let space = c.self.inside.space in
    let at = entry_at space c.self.inside.spans.items c.deref-subspace-items.result.now c.loop-subspace.subspace-index
    c.subspace-item.result c.deref-subspace-items.ensures.value c.self.invariant.each c.loop-subspace-test.true
    c.subspace-item.is in
    let past : first_region space c.loop-subspace.subspace-index + size_of
    (axes_of space c.loop-subspace.subspace-index) ≤ c.args.region.0 =
    omega (
      arith,
      ap (λ (x : SubspaceSpan). x.first) at.1,
      ap (λ (x : SubspaceSpan). x.size) at.1,
      c.if-region-subspace.false,
    ) in
    let next = next_first (subspaces_of space) c.loop-subspace.subspace-index at.0 in
    (omega (arith, past, next), among_after space c.args.terms.now c.args.region.0 c.loop-subspace.subspace-index at.0 past ∙ c.loop-subspace.invariant.1)

pub returns : goal.returns
returns c =
    let space = c.self.inside.space in
    let length = length-table space c.deref-subspace-items.result.now (c.deref-subspace-items.ensures.value ∙ c.self.invariant.each) in
    let none = drop_all c.loop-subspace.subspace-index (subspaces_of space) (omega (arith, length, c.loop-subspace-test.false)) in
    let is = sym (ap (λ (rest : List (List Axis)). meets_among space c.args.terms.now rest
    (c.args.region.0 - first_region space c.loop-subspace.subspace-index)) none) ∙ c.loop-subspace.invariant.1 in
    subst (λ (space : Space). false ≡ meets space c.args.region c.args.terms.now) c.self.view_is is
