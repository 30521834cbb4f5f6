use Rattle.std.proofs.Common.{length}
use Rattle.hx_audit.proofs.Begun.{IsLatestFrom}
use Rattle.hx_audit.proofs.latest.changes_of.Given as goal

abbrev pub invariant-loop-item : goal.invariant-loop-item
invariant-loop-item l = IsLatestFrom l.block l.history.items l.rest l.latest.items l.over

abbrev pub decreases-loop-item : goal.decreases-loop-item
decreases-loop-item l = length l.rest
