use Rattle.std.proofs.Common.{◌∙◌, List, subst, sym}
use Rattle.std.specs.Prelude.{MatchOption, reverse}
use Rattle.hx_world.specs.declared.sessions.CountedSession.{CountedSession}
use Rattle.hx_world.specs.Idle.{IsFirstIdle, IsNoneIdle}
use Rattle.hx_world.proofs.Scheduling.{next_idle, next_posted, sessions_still}
use Rattle.hx_world.proofs.schedule.has_next.Goals as goal

pub returns-then-is_some-clause-next : goal.returns-then-is_some-clause-next
returns-then-is_some-clause-next c =
    c.if-is_some.true
    ∙ next_posted c.args.inside.now.script (reverse c.args.inside.now.log.trace) c.first_waiting.result
    c.first_waiting.ensures.first (sym c.is_some.ensures ∙ c.if-is_some.true)

pub returns-else-is_some-clause-next : goal.returns-else-is_some-clause-next
returns-else-is_some-clause-next c =
    let are =
    sessions_still c.args.inside.now.script c.first_waiting.new.inside.script c.args.inside.now.log.trace
    c.first_waiting.new.inside.log.trace c.first_waiting.new.inside.actors.sessions.items
    c.first_waiting.ensures.script c.first_waiting.ensures.trace c.first_waiting.ensures.world.sessions_are in
    c.is_some-else-is_some.ensures
    ∙ next_idle c.args.inside.now.script (reverse c.args.inside.now.log.trace)
    c.first_waiting.new.inside.actors.sessions.items are c.first_waiting.result c.first_waiting.ensures.first
    (sym c.is_some.ensures ∙ c.if-is_some.false) c.first_idle.result
    (subst (λ (l : List CountedSession). MatchOption c.first_idle.result (IsNoneIdle l) (IsFirstIdle l)) c.as_slice.ensures.value c.first_idle.ensures)
