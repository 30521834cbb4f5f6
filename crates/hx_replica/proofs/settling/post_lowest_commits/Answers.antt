use Rattle.std.proofs.Common.{◌≡◌, ◌++◌, take, ap, sym, ◌∙◌, arith}
use Rattle.std.specs.List.{flat_map}
use Rattle.hx_model.specs.Types.{Update}
use Rattle.hx_model.specs.Slots.{pending_of}
use Rattle.hx_replica.specs.Outputs.{context_seen, told_of}
use Rattle.hx_replica.proofs.Walking.{flat_more, none_within}
use Rattle.hx_replica.proofs.settling.post_lowest_commits.Goals as goal

pub loop-i-preserved : goal.loop-i-preserved
loop-i-preserved c =
    flat_more (told_of (context_seen c.args.context.now))
    (pending_of c.args.slot.now.state) c.loop-i.i c.in-Some.update.now c.loop-i.posts c.post_commit.new.posts
    c.args.posts.now (sym c.in-Some.ensures.pending) c.loop-i.invariant
    (c.in_ok-post_commit-in-Some.ensures ∙ ap (λ (u : Update). c.loop-i.posts ++ told_of (context_seen c.args.context.now) u) c.deref.ensures)

pub unreachable-requires : goal.unreachable-requires
unreachable-requires c = none_within (pending_of c.args.slot.now.state) c.loop-i.i c.in-None.ensures.pending
    (let l = c.requires.count in omega (arith, c.loop-i-test.true, l))

pub returns : goal.returns
returns c =
    let context = context_seen c.args.context.now in
    let us = pending_of c.args.slot.now.state in
    let all : c.loop-i.i ≡ c.args.count = omega (arith, c.loop-i-test.false, c.loop-i.auto.i-end) in
    c.loop-i.invariant ∙ ap (λ n. c.args.posts.now ++ flat_map (told_of context) (take n us)) all
