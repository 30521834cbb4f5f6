use Rattle.std.proofs.Common.{sym}
use Rattle.hx_model.specs.ServerSteps.{resumed_posts}
use Rattle.hx_replica.specs.Outputs.{context_seen}
use Rattle.hx_replica.proofs.Walking.{flat_more}
use Rattle.hx_replica.proofs.adopting.post_slots.Goals as goal

pub loop-i-preserved : goal.loop-i-preserved
loop-i-preserved c =
    flat_more (resumed_posts (context_seen c.args.context.now)) c.args.store.now.states c.loop-i.i
    c.in-Some.slot.now.state c.loop-i.posts c.post_resumed.new.posts c.args.posts.now
    (sym c.in-Some.ensures.state) c.loop-i.invariant c.in_ok-post_resumed-in-Some.ensures
