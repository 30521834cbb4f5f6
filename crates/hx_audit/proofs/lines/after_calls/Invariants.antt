use Rattle.std.proofs.Common.{◌≡◌, ◌+◌, length}
use Rattle.hx_audit.specs.Verdicts.{lines_of_calls}
use Rattle.hx_audit.proofs.lines.after_calls.Given as goal

abbrev pub invariant-loop-call : goal.invariant-loop-call
invariant-loop-call l = l.line + lines_of_calls l.rest ≡ l.first + lines_of_calls l.calls

abbrev pub decreases-loop-call : goal.decreases-loop-call
decreases-loop-call l = length l.rest
