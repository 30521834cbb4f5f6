use Rattle.std.proofs.Common.{length}
use Rattle.hx_types.specs.Words.{IsIn}
use Rattle.hx_audit.specs.Walking.{row_with}
use Rattle.hx_audit.proofs.whole.has_row.Given as goal

abbrev pub invariant-loop-row : goal.invariant-loop-row
invariant-loop-row l = record {
  into : IsIn (row_with l.key l.version l.object) l.rest → IsIn (row_with l.key l.version l.object) l.rows;
  back : IsIn (row_with l.key l.version l.object) l.rows → IsIn (row_with l.key l.version l.object) l.rest;
}

abbrev pub decreases-loop-row : goal.decreases-loop-row
decreases-loop-row l = length l.rest
