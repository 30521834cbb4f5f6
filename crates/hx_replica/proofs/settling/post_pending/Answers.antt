use Rattle.std.proofs.Common.{sym}
use Rattle.hx_model.specs.ServerSteps.{passed_on}
use Rattle.hx_model.specs.Slots.{pending_of}
use Rattle.hx_replica.specs.Outputs.{tail_version, context_seen}
use Rattle.hx_replica.proofs.Walking.{flat_more}
use Rattle.hx_replica.proofs.settling.post_pending.Goals as goal

pub loop-i-preserved : goal.loop-i-preserved
loop-i-preserved c = record {
  posts = flat_more (passed_on (context_seen c.args.context.now))
      (pending_of c.args.slot.now.state) c.loop-i.i c.in-Some.update.now c.loop-i.posts c.post_update.new.posts
      c.args.posts.now (sym c.in-Some.ensures.pending) c.loop-i.invariant.posts c.in_ok-post_update-in-Some.ensures.posts;
  tail_versions = flat_more (tail_version (context_seen c.args.context.now))
      (pending_of c.args.slot.now.state) c.loop-i.i c.in-Some.update.now c.loop-i.tail_versions.items
      c.post_update.new.tail_versions.items c.args.tail_versions.now.items
      (sym c.in-Some.ensures.pending) c.loop-i.invariant.tail_versions c.in_ok-post_update-in-Some.ensures.tail_versions;
}
