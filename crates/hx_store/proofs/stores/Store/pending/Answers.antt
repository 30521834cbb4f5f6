use Rattle.std.proofs.Common.{sym}
use Rattle.hx_store.proofs.Reading.{pending-next}
use Rattle.hx_store.proofs.stores.Store.pending.Goals as goal

pub loop-i-preserved : goal.loop-i-preserved
loop-i-preserved c =
    pending-next c.args.self.now.states c.loop-i.i c.in-Some.slot.now.state c.loop-i.updates c.add_pending.new.updates
    (sym c.in-Some.ensures.state) c.loop-i.invariant c.in_ok-add_pending-in-Some.ensures
