use Rattle.std.proofs.Common.{◌≡◌, ◌≤◌, ◌+◌, length}
use Rattle.hx_share.proofs.callers.call_sessions.Given as goal

abbrev pub invariant-sessions : goal.invariant-sessions
invariant-sessions g l = (l.session + length l.rest ≡ length l.script.sessions + 1) × (1 ≤ l.session)

abbrev pub decreases-sessions : goal.decreases-sessions
decreases-sessions g l = length l.rest
