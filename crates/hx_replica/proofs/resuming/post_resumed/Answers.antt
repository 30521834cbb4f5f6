use Rattle.std.proofs.Common.{◌++◌, List, ap, sym, ◌∙◌, subst, drop}
use Rattle.std.proofs.lemmas.Result.{on_ok_weaker}
use Rattle.hx_model.specs.Types.{RegionId, Version}
use Rattle.hx_law_folds.specs.Folding.{IsSlotOf}
use Rattle.hx_model.specs.Slots.{pending_of}
use Rattle.hx_replica.specs.Adopting.{doubts_among}
use Rattle.hx_replica.specs.Outputs.{ended_count, context_seen}
use Rattle.hx_replica.proofs.Resumed.{resumed_nothing, resumed_whole}
use Rattle.hx_replica.proofs.resuming.post_resumed.Goals as goal

pub returns-then-not-has_pending : goal.returns-then-not-has_pending
returns-then-not-has_pending c =
    let s = c.args.slot.now.state in
    resumed_nothing (context_seen c.args.context.now) s c.args.posts.now
    (subst (λ (g : RegionId). IsSlotOf g s) c.requires c.has_pending.ensures.slot)
    (sym c.has_pending.ensures.pending ∙ c.if-not-has_pending.true)

pub returns : goal.returns
returns c =
    let s = c.args.slot.now.state in
    let context = context_seen c.args.context.now in
    on_ok_weaker c.post_doubts.result
    (λ e. resumed_whole context s c.in_ok-tail_versions.tail_versions.items c.args.posts.now c.carry_on.new.posts
    c.post_doubts.new.posts (subst (λ (g : RegionId). IsSlotOf g s) c.requires c.has_pending.ensures.slot)
    c.in_ok-tail_versions.ensures
    (e ∙ ap (λ n. c.carry_on.new.posts ++ doubts_among context (drop n (pending_of s)))
    (c.ended_count.ensures ∙ ap (λ (vs : List Version). ended_count vs (pending_of s)) c.as_slice.ensures.value)))
    c.post_doubts.ensures
