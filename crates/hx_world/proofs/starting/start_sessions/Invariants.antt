use Rattle.hx_world.specs.Invariant.{AreAt}
use Rattle.hx_world.specs.Starting.{IsNewSession}
use Rattle.hx_world.proofs.starting.start_sessions.Given as goal

abbrev pub invariant-loop-place : goal.invariant-loop-place
invariant-loop-place l = AreAt l.place (IsNewSession l.script) l.sessions.items
