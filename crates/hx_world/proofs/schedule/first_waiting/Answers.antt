use Rattle.std.proofs.Common.{sym, ◌∙◌}
use Rattle.std.specs.Prelude.{reverse}
use Rattle.hx_world.proofs.Delivering.{found_receives, missed}
use Rattle.hx_world.proofs.Queueing.{lowest_posted, none_waiting, popped}
use Rattle.hx_world.proofs.schedule.first_waiting.Goals as goal

pub returns-then-is_some-clause-first : goal.returns-then-is_some-clause-first
returns-then-is_some-clause-first c =
    lowest_posted c.loop-id.inside.script c.args.inside.now.script c.loop-id.inside.log.trace
    c.args.inside.now.log.trace c.loop-id.inside.log.waiting.items c.in-Some.id
    c.loop-id.invariant.world.queue c.loop-id.invariant.script c.loop-id.invariant.trace (sym c.lowest.ensures ∙ c.in-Some.is)
    (found_receives c.loop-id.inside.script (reverse c.loop-id.inside.log.trace) c.in-Some.id c.running_post.result
    c.running_post.ensures.some (sym c.is_some.ensures ∙ c.if-is_some.true))

pub returns-clause-first : goal.returns-clause-first
returns-clause-first c =
    none_waiting c.loop-id.inside.script c.args.inside.now.script c.loop-id.inside.log.trace c.args.inside.now.log.trace c.loop-id.inside.log.waiting.items
    c.loop-id.invariant.world.queue c.loop-id.invariant.script c.loop-id.invariant.trace (sym c.lowest.ensures ∙ c.in_default.is)

pub loop-id-preserved : goal.loop-id-preserved
loop-id-preserved c = record {
  world =
      popped c.loop-id.inside.script (reverse c.loop-id.inside.log.trace) c.loop-id.inside.actors.servers.items
      c.loop-id.inside.actors.sessions.items c.loop-id.inside.actors.coordinator
      c.loop-id.inside.log.waiting.items c.pop.new.self.items c.in-Some.id c.loop-id.invariant.world (sym c.lowest.ensures ∙ c.in-Some.is)
      (missed c.loop-id.inside.script (reverse c.loop-id.inside.log.trace) c.in-Some.id c.running_post.result
      c.running_post.ensures.none (sym c.is_some.ensures ∙ c.if-is_some.false)) c.pop.ensures.rest;
  script = c.loop-id.invariant.script;
  trace = c.loop-id.invariant.trace;
}
