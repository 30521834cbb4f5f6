use Rattle.std.proofs.Common.{◌++◌, ◌∷◌, [], ap, sym, ◌∙◌}
use Rattle.hx_model.specs.Types.{Update}
use Rattle.hx_model.specs.Slots.{pending_of}
use Rattle.hx_store.proofs.Lists.{more_of}
use Rattle.hx_store.proofs.copying.add_pending.Goals as goal

pub loop-i-preserved : goal.loop-i-preserved
loop-i-preserved c =
    let pending = pending_of c.args.slot.now.state in
    more_of c.args.updates.now c.push.new.self c.loop-i.updates pending c.loop-i.i c.in-Some.update.now c.loop-i.invariant
    (sym c.in-Some.ensures.pending)
    (c.in_ok-push-in-Some.ensures.ok ∙ ap (λ (u : Update). c.loop-i.updates ++ u ∷ []) c.in_ok-copy-in-Some.ensures)
