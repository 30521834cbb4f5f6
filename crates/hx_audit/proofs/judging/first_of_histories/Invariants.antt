use Rattle.std.proofs.Common.{ℕ, length, Option}
use Rattle.hx_audit.specs.Verdicts.{histories_from}
use Rattle.hx_audit.specs.Walking.{IsFirstOf}
use Rattle.hx_audit.proofs.judging.first_of_histories.Given as goal

abbrev pub invariant-loop-history : goal.invariant-loop-history
invariant-loop-history l = (r : Option ℕ) → IsFirstOf l.clause (histories_from l.block l.line l.rest) r
    → IsFirstOf l.clause (histories_from l.block l.first l.histories) r

abbrev pub decreases-loop-history : goal.decreases-loop-history
decreases-loop-history l = length l.rest
