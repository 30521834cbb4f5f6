use Rattle.std.proofs.Common.{◌≡◌, ◌≤◌, ◌+◌, ◌++◌, length}
use Rattle.hx_replay.specs.Plans.{sessions_lines}
use Rattle.hx_replay.proofs.plans.put_sessions.Given as goal

abbrev pub invariant-sessions : goal.invariant-sessions
invariant-sessions l = record {
  room : l.session + length l.rest ≤ length l.sessions + 1;
  so_far : l.out.items ++ sessions_lines l.label l.map l.config l.session l.rest ≡ l.fn.out.items ++ sessions_lines l.label l.map l.config 1 l.sessions;
}

abbrev pub decreases-sessions : goal.decreases-sessions
decreases-sessions l = length l.rest
