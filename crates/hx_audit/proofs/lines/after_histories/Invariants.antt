use Rattle.std.proofs.Common.{◌≡◌, ◌+◌, length}
use Rattle.hx_audit.specs.Verdicts.{lines_of_histories}
use Rattle.hx_audit.proofs.lines.after_histories.Given as goal

abbrev pub invariant-loop-history : goal.invariant-loop-history
invariant-loop-history l = l.line + lines_of_histories l.rest ≡ l.first + lines_of_histories l.histories

abbrev pub decreases-loop-history : goal.decreases-loop-history
decreases-loop-history l = length l.rest
