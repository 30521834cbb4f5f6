use Rattle.std.proofs.Common.{Option, rules, List, refl, sym, ap, ◌∙◌, subst}
use Rattle.std.specs.Prelude.{IsSome, reverse}
use Rattle.hx_model.specs.Types.{Entry, Post}
use Rattle.hx_model.specs.Runs.{MayTake}
use Rattle.hx_world.specs.Filing.{heard}
use Rattle.hx_world.proofs.Delivering.{failed_next, made_next}
use Rattle.hx_world.proofs.Heard.{heard_is}
use Rattle.hx_world.proofs.Queueing.{none_waiting}
use Rattle.hx_world.proofs.Taking.{actor_here}
use Rattle.hx_world.proofs.schedule.deliver_first.Goals as goal

pub running_hears-requires-clause-actor : goal.running_hears-requires-clause-actor
running_hears-requires-clause-actor c =
    actor_here c.loop-id.inside.script (reverse c.loop-id.inside.log.trace) c.loop-id.invariant.world.past
    c.in-Some.id c.in-Some-running_post.post.now c.in-Some-running_post.ensures.some.named

pub running_hears-requires-clause-sent : goal.running_hears-requires-clause-sent
running_hears-requires-clause-sent c = subst (λ (o : Option Post). IsSome o) (sym c.in-Some-running_post.ensures.some.named) refl

pub running_hears-requires-clause-may : goal.running_hears-requires-clause-may
running_hears-requires-clause-may c =
    let named = c.in-Some-running_post.ensures.some.named in
    subst (MayTake (reverse c.loop-id.inside.log.trace) c.in-Some-running_post.post.now.to)
    (sym (heard_is c.in-Some.id c.loop-id.inside.log.trace c.in-Some-running_post.post.now named)) named

pub returns-in_err-running_hears-clause-fails : goal.returns-in_err-running_hears-clause-fails
returns-in_err-running_hears-clause-fails c =
    let why =
    failed_next c.loop-id.inside.script c.args.inside.now.script c.loop-id.inside.log.trace
    c.args.inside.now.log.trace c.loop-id.inside.log.waiting.items c.in-Some.id c.in-Some-running_post.post.now
    c.loop-id.invariant.world.queue c.loop-id.invariant.script c.loop-id.invariant.trace
    (sym c.lowest.ensures ∙ c.in-Some.is) c.in-Some-running_post.ensures.some
    (heard c.in-Some.id c.loop-id.inside.log.trace) c.in_err-running_hears.field-0.0 c.in_err-running_hears.ensures.err in
    search (rules, why)

pub returns-in-Some-running_post-clause-delivers : goal.returns-in-Some-running_post-clause-delivers
returns-in-Some-running_post-clause-delivers c =
    made_next c.loop-id.inside.script c.args.inside.now.script c.loop-id.inside.log.trace c.args.inside.now.log.trace
    c.loop-id.inside.log.waiting.items c.in-Some.id c.in-Some-running_post.post.now
    c.loop-id.invariant.world.queue c.loop-id.invariant.script c.loop-id.invariant.trace
    (sym c.lowest.ensures ∙ c.in-Some.is) c.in-Some-running_post.ensures.some
    (heard c.in-Some.id c.loop-id.inside.log.trace) (reverse c.running_hears.new.inside.log.trace)
    (heard_is c.in-Some.id c.loop-id.inside.log.trace c.in-Some-running_post.post.now
    c.in-Some-running_post.ensures.some.named) c.in_ok-running_hears.ensures.ok

pub returns-clause-delivers : goal.returns-clause-delivers
returns-clause-delivers c = (
  none_waiting c.loop-id.inside.script c.args.inside.now.script c.loop-id.inside.log.trace c.args.inside.now.log.trace c.loop-id.inside.log.waiting.items
      c.loop-id.invariant.world.queue c.loop-id.invariant.script c.loop-id.invariant.trace (sym c.lowest.ensures ∙ c.in_default.is),
  ap (λ (l : List Entry). reverse l) c.loop-id.invariant.trace,
)
