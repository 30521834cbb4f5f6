use Rattle.std.proofs.Common.{rules, refl}
use Rattle.hx_world.specs.declared.sessions.CountedSession.{CountedSession}
use Rattle.hx_world.specs.Starting.{IsNewSession}
use Rattle.hx_world.proofs.Beginning.{session_starts}
use Rattle.hx_world.proofs.Seating.{at_push}
use Rattle.hx_world.proofs.starting.start_sessions.Goals as goal

pub loop-place-preserved : goal.loop-place-preserved
loop-place-preserved c =
    let session : CountedSession = record { session = c.in_ok-session.session; entries = 0 } in
    at_push c.loop-place.place (IsNewSession c.args.script.now) c.loop-place.sessions.items c.push.new.self.items
    session c.loop-place.invariant c.in_ok-push.ensures.items
    (
    session_starts c.args.script.now c.as_slice-calls-items.result.now c.loop-place.place c.calls-item.result c.in_ok-copy.field-0 session
    c.as_slice-calls-items.ensures (search rules) c.calls-item.is c.in_ok-copy.ensures c.in_ok-session.ensures.space c.in_ok-session.ensures.state refl
    )
