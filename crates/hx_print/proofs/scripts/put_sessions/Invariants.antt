use Rattle.std.proofs.Common.{◌≡◌, ◌≤◌, ◌+◌, ◌++◌, length}
use Rattle.hx_print.specs.Printing.{sessions_text}
use Rattle.hx_print.proofs.scripts.put_sessions.Given as goal

abbrev pub invariant-sessions : goal.invariant-sessions
invariant-sessions l = record {
  room : l.number + length l.rest ≤ length l.sessions + 1;
  so_far : l.out.items ++ sessions_text l.space l.number l.rest ≡ l.fn.out.items ++ sessions_text l.space 1 l.sessions;
}

abbrev pub decreases-sessions : goal.decreases-sessions
decreases-sessions l = length l.rest
