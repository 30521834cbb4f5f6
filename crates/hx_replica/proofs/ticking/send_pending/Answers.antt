use Rattle.std.proofs.Common.{sym}
use Rattle.std.specs.List.{flat_map}
use Rattle.hx_model.specs.ServerSteps.{passed_on}
use Rattle.hx_model.specs.Slots.{KeyState, pending_of}
use Rattle.hx_replica.specs.Outputs.{context_seen}
use Rattle.hx_replica.proofs.Walking.{flat_more}
use Rattle.hx_replica.proofs.ticking.send_pending.Goals as goal

pub loop-i-preserved : goal.loop-i-preserved
loop-i-preserved c =
    flat_more (λ (s : KeyState). flat_map (passed_on (context_seen c.args.context.now)) (pending_of s))
    c.args.store.now.states c.loop-i.i c.in-Some.slot.now.state c.loop-i.posts c.send_slot.new.posts c.args.posts.now
    (sym c.in-Some.ensures.state) c.loop-i.invariant c.in_ok-send_slot-in-Some.ensures
