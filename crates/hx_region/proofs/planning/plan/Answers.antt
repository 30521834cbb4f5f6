-- The first subspace without a lost region is the plan's; where each has one there is none.
use Rattle.std.proofs.Common.{ap, ◌∙◌}
use Rattle.hx_model.specs.Types.{RegionId}
use Rattle.hx_types.specs.declared.outcomes.Planned.TheVariants as a_plan
use Rattle.hx_model.specs.Planning.{lowest_lost}
use Rattle.hx_region.proofs.Trying.{counts_made, plan_found, plan_lost}
use Rattle.hx_region.proofs.planning.plan.Goals as goal

pub loop-best-init : goal.loop-best-init
loop-best-init c = (
  counts_made c.args.config.now c.args.map.now c.args.terms.now c.in_ok-counts.counts.items
      c.in_ok-counts.ensures.exact,
  c.in_ok-counts.ensures.few,
)

pub returns-then-not-any_lost : goal.returns-then-not-any_lost
returns-then-not-any_lost c = record {
  exact = plan_found c.args.map.now c.args.config.now c.args.terms.now c.loop-best.counts.items c.as_slice.result.now
      c.in-Some.best c.in_ok-regions.regions c.loop-best.invariant.0 c.as_slice.ensures.value
      c.in-Some.ensures c.in_ok-regions.ensures c.if-not-any_lost.ensures;
}

pub returns : goal.returns
returns c = record {
  exact = ap (λ (g : RegionId). a_plan.Lost g) (c.lowest_lost.ensures ∙ ap (lowest_lost c.args.config.now) c.in_ok-keys.ensures)
      ∙ plan_lost c.args.map.now c.args.config.now c.args.terms.now c.loop-best.counts.items c.as_slice.result.now
      c.loop-best.invariant.0 c.as_slice.ensures.value c.in_default.ensures;
}
