use Rattle.std.proofs.Common.{◌≤◌, ◌++◌, List, ℕ, ap, length, subst, sym, take, ◌∙◌}
use Rattle.std.specs.List.{flat_map}
use Rattle.std.proofs.lemmas.Result.{on_ok_weaker}
use Rattle.hx_model.specs.Types.{Post}
use Rattle.hx_model.specs.Slots.{pending_of}
use Rattle.hx_replica.specs.Outputs.{context_seen, told_of}
use Rattle.hx_replica.proofs.Acked.{ack_alone, ack_told, ack_within}
use Rattle.hx_replica.proofs.slot_steps.acknowledge.Goals as goal

pub returns-then-pending_count-eq1 : goal.returns-then-pending_count-eq1
returns-then-pending_count-eq1 c =
    on_ok_weaker c.post_commit_at.result
    (
    λ e. e ∙ ap (λ (ps : List Post). c.args.posts.now ++ ps)
    (
    ack_alone (context_seen c.args.context.now) c.args.slot.now.state c.args.version.0 c.args.update.now
    (sym c.pending_count.ensures ∙ c.if-pending_count-eq1.true)
    c.requires.pending
    )
    )
    c.post_commit_at.ensures

pub post_lowest_commits-requires-clause-count : goal.post_lowest_commits-requires-clause-count
post_lowest_commits-requires-clause-count c =
    subst (λ (n : ℕ). n ≤ length (pending_of c.args.slot.now.state)) (sym c.would_commit.ensures) (ack_within c.args.slot.now.state c.args.version.0)

pub returns : goal.returns
returns c =
    let context = context_seen c.args.context.now in
    let us = pending_of c.args.slot.now.state in
    on_ok_weaker c.post_lowest_commits.result
    (
    λ e. e ∙ ap (λ (ps : List Post). c.args.posts.now ++ ps)
    (ap (λ n. flat_map (told_of context) (take n us)) c.would_commit.ensures ∙ ack_told context c.args.slot.now.state c.args.version.0)
    )
    c.post_lowest_commits.ensures
