use Rattle.std.proofs.Common.{◌++◌, ap, ◌∙◌}
use Rattle.hx_model.specs.Types.{RegionId}
use Rattle.hx_law_folds.specs.Folding.{folded}
use Rattle.hx_model.specs.Slots.{moved_all, settled}
use Rattle.hx_store.specs.Stores.{acknowledging}
use Rattle.hx_replica.specs.Outputs.{context_seen}
use Rattle.hx_replica.proofs.Joined.{joined_posts, joined_state}
use Rattle.hx_replica.proofs.installing.join.Goals as goal

pub carry_on-requires : goal.carry_on-requires
carry_on-requires c = c.offer_all.ensures.region ∙ c.requires.region

pub returns-clause-state : goal.returns-clause-state
returns-clause-state c =
    let x = c.offer_all.new.slot.state in
    let tail_versions = c.as_slice.result.now in
    joined_state (context_seen c.args.context.now) c.args.pending.now c.args.slot.now.state x c.requires.fresh
    c.requires.pending c.in_ok-offer_all.ensures.state tail_versions c.settle_all.new.slot.state
    (ap acknowledging c.as_slice.ensures.value ∙ c.in_ok-tail_versions.ensures.ends_are)
    (c.settle_all.ensures.state ∙ ap (λ (g : RegionId). folded g
    (moved_all (acknowledging tail_versions ++ settled (moved_all (acknowledging tail_versions) x)) x))
    (c.in_ok-offer_all.ensures.region ∙ c.requires.region))

pub returns-clause-posts : goal.returns-clause-posts
returns-clause-posts c =
    joined_posts (context_seen c.args.context.now) c.args.pending.now c.args.slot.now.state c.offer_all.new.slot.state
    c.requires.fresh c.requires.pending c.in_ok-offer_all.ensures.state c.in_ok-tail_versions.tail_versions.items
    c.args.posts.now c.carry_on.new.posts
    c.in_ok-tail_versions.ensures.ends_are c.in_ok-tail_versions.ensures.posts
