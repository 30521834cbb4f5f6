use Rattle.std.proofs.Common.{◌≡◌, ◌+◌, List, Some, ap, drop, slice_get, subst, sym, ◌∙◌}
use Rattle.hx_model.specs.Types.{Update}
use Rattle.hx_model.specs.ServerSteps.{offered_all}
use Rattle.hx_model.specs.Slots.{moved_all}
use Rattle.hx_replica.specs.Installing.{of_key}
use Rattle.hx_replica.proofs.Joined.{one_offer}
use Rattle.hx_replica.proofs.KeyOrder.{drop_at}
use Rattle.hx_replica.proofs.Turns.{at_item}
use Rattle.hx_replica.proofs.installing.offer_all.Goals as goal

pub loop-update-preserved : goal.loop-update-preserved
loop-update-preserved c =
    let g = c.args.context.now.region in
    let u = c.update-item.result in
    let i = c.loop-update.update-index in
    let us = c.args.updates.now in
    let before = c.loop-update.slot.state in
    let at : slice_get us i ≡ Some u = subst (λ (l : List Update). slice_get l i ≡ Some u)
    c.as_slice-update-items.ensures (at_item c.as_slice-update-items.result.now i u c.loop-update-test.true
    c.update-item.is) in
    record {
      region = c.in_ok-offer.ensures.region ∙ c.loop-update.invariant.region;
      state = one_offer g before c.offer.new.slot.state u (drop (i + 1) us) c.in_ok-offer.ensures.state
          ∙ ap (λ (l : List Update). moved_all (offered_all g before (of_key before.base.key l)) before) (sym (drop_at us i u at))
          ∙ c.loop-update.invariant.state;
    }
