use Rattle.std.specs.Borrow.{Bor}
use Rattle.hx_model.specs.Types.{Update}
use Rattle.hx_model.specs.ServerSteps.{passed_on}
use Rattle.hx_replica.specs.Outputs.{tail_version, context_seen}
use Rattle.hx_replica.proofs.Turns.{at_item}
use Rattle.hx_replica.proofs.Walking.{flat_more}
use Rattle.hx_replica.proofs.accepting.post_updates.Goals as goal

pub loop-update-preserved : goal.loop-update-preserved
loop-update-preserved c =
    let context = context_seen c.args.context.now in
    let at = at_item c.args.updates.now c.loop-update.update-index c.update-item.result c.loop-update-test.true c.update-item.is in (
      flat_more (λ (b : Bor Update). passed_on context b.now) c.args.updates.now c.loop-update.update-index
          c.update-item.result c.loop-update.posts c.post_update.new.posts c.args.posts.now at
          c.loop-update.invariant.0 c.in_ok-post_update.ensures.posts,
      flat_more (λ (b : Bor Update). tail_version context b.now) c.args.updates.now c.loop-update.update-index
          c.update-item.result c.loop-update.tail_versions.items c.post_update.new.tail_versions.items
          c.args.tail_versions.now.items at c.loop-update.invariant.1 c.in_ok-post_update.ensures.tail_versions,
    )
