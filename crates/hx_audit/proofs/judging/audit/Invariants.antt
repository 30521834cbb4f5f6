use Rattle.std.proofs.Common.{◌<◌, ◌-◌}
use Rattle.hx_audit.specs.declared.verdicts.Clause.{Clause}
use Rattle.hx_audit.specs.Verdicts.{IsKept, rank_of}
use Rattle.hx_audit.proofs.judging.audit.Given as goal

abbrev pub invariant-clauses : goal.invariant-clauses
invariant-clauses l = (other : Clause) → rank_of other < rank_of l.clause → IsKept l.report other

abbrev pub decreases-clauses : goal.decreases-clauses
decreases-clauses l = 5 - rank_of l.clause
