use Rattle.std.proofs.Common.{sym, subst, ◌∙◌}
use Rattle.hx_gather.specs.Stretches.{ArePlaces}
use Rattle.hx_gather.proofs.Sources.{is_less, merges}
use Rattle.hx_gather.proofs.merging.places_of.Goals as goal

pub returns : goal.returns
returns c = record {
  places = subst (λ places. ArePlaces places c.args.parts.now) (sym c.loop-stretch.invariant)
      (merges _ c.args.parts.now c.into_iter.result c.in_ok-stretch-items.stretch-items
      c.into_iter-stretch-iterator.result c.loop-stretch.yielded _ c.requires.causal
      (c.into_iter.ensures.rest ∙ c.in_ok-sources.ensures) c.into_iter.ensures.runs
      (λ x y. is_less x.stamp y.stamp) c.in_ok-stretch-items.ensures.items c.in_ok-stretch-items.ensures.in_order
      c.into_iter-stretch-iterator.ensures.into_iter_gives
      (c.loop-stretch.stretch-iterator, c.loop-stretch.yielded_by, λ _. (c.next.new.self, c.in-None.ensures.steps)));
}
