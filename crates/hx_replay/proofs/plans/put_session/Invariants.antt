use Rattle.std.proofs.Common.{◌≡◌, ◌≤◌, ◌+◌, ◌++◌, length}
use Rattle.hx_replay.specs.Plans.{session_lines}
use Rattle.hx_replay.proofs.plans.put_session.Given as goal

abbrev pub invariant-calls : goal.invariant-calls
invariant-calls l = record {
  room : l.number + length l.rest ≤ length l.calls + 1;
  so_far : l.out.items ++ session_lines l.label l.map l.config l.session l.number l.rest ≡ l.fn.out.items
      ++ session_lines l.label l.map l.config l.session 1 l.calls;
}

abbrev pub decreases-calls : goal.decreases-calls
decreases-calls l = length l.rest
