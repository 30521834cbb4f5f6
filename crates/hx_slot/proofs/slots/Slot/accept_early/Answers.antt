use Rattle.std.proofs.Common.{◌≡◌, ◌+◌, ◌-◌, ◌∙◌, ap, arith, length, suc, sym}
use Rattle.hx_model.specs.Types.{RegionId}
use Rattle.hx_model.specs.Slots.{moved_all, taken, top_of, turns}
use Rattle.hx_slot.proofs.Turns.{turn-step}
use Rattle.hx_slot.proofs.slots.Slot.accept_early.Goals as goal

pub loop-count-preserved : goal.loop-count-preserved
loop-count-preserved c =
    let old = c.loop-count.self in
    let new = c.accept_next_early.new.self in
    let m = c.args.most - (c.loop-count.count + 1) in
    let n : c.args.most - c.loop-count.count ≡ suc m = omega arith in
    let step = turn-step old.region m old.state new.state
    (sym c.if-not-accept_next_early.false ∙ c.accept_next_early.ensures.found) c.accept_next_early.ensures.state
    c.accept_next_early.ensures.later in
    let region = c.accept_next_early.ensures.region in
    let counted = ap (λ (g : RegionId). length (taken (turns g m (top_of new.state) new.state.early))) region in
    let now = step.count ∙ ap (λ k. length (taken (turns old.region k (top_of old.state) old.state.early))) (sym n) in
    let before = c.loop-count.invariant.count in
    record {
      count = omega (arith, counted, now, before);
      state = ap (λ (g : RegionId). moved_all (turns g m (top_of new.state) new.state.early) new.state) region
          ∙ step.state
          ∙ ap (λ k. moved_all (turns old.region k (top_of old.state) old.state.early) old.state) (sym n)
          ∙ c.loop-count.invariant.state;
      region = region ∙ c.loop-count.invariant.region;
      spare = c.accept_next_early.ensures.spare ∙ c.loop-count.invariant.spare;
      held = c.accept_next_early.ensures.held ∙ c.loop-count.invariant.held;
    }
