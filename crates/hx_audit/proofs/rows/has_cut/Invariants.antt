use Rattle.std.proofs.Common.{length}
use Rattle.hx_audit.specs.Finished.{finished_view}
use Rattle.hx_audit.specs.Walking.{IsCutFrom}
use Rattle.hx_audit.proofs.rows.has_cut.Given as goal

abbrev pub invariant-loop-item : goal.invariant-loop-item
invariant-loop-item l = IsCutFrom l.block (finished_view l.search) l.row l.items l.rest l.over

abbrev pub decreases-loop-item : goal.decreases-loop-item
decreases-loop-item l = length l.rest
