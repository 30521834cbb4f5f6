use Rattle.std.proofs.Common.{◌++◌, ◌≤◌, List, ap, sym, ◌∙◌, length, subst, take}
use Rattle.std.specs.List.{flat_map}
use Rattle.hx_model.specs.Types.{Version}
use Rattle.hx_model.specs.Slots.{pending_of}
use Rattle.hx_replica.specs.Outputs.{tail_version, ended_count, context_seen, told_of}
use Rattle.hx_replica.proofs.Committing.{ended_within}
use Rattle.hx_replica.proofs.Resumed.{carried_on}
use Rattle.hx_replica.proofs.resuming.carry_on.Goals as goal

pub post_lowest_commits-requires-clause-count : goal.post_lowest_commits-requires-clause-count
post_lowest_commits-requires-clause-count c =
    let us = pending_of c.args.slot.now.state in
    subst (λ n. n ≤ length us) (sym c.ended_count-committed.ensures) (ended_within c.as_slice.result.now us)

pub returns : goal.returns
returns c =
    let context = context_seen c.args.context.now in
    let us = pending_of c.args.slot.now.state in
    carried_on context c.args.slot.now.state c.post_pending.new.tail_versions.items c.args.posts.now c.post_pending.new.posts c.post_lowest_commits.new.posts
    (c.in_ok-post_pending.ensures.tail_versions ∙ ap (λ (vs : List Version). vs ++ flat_map (tail_version context) us) c.new-tail_versions.ensures.items)
    c.in_ok-post_pending.ensures.posts
    (c.in_ok-post_lowest_commits.ensures ∙ ap (λ n. c.post_pending.new.posts
    ++ flat_map (told_of context) (take n us)) (c.ended_count-committed.ensures
    ∙ ap (λ (vs : List Version). ended_count vs us) c.as_slice.ensures.value))
