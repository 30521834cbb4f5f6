use Rattle.std.proofs.Common.{ℕ, length, Option}
use Rattle.hx_types.specs.Words.{IsIn}
use Rattle.hx_report_lines.specs.declared.calls.CallLine.{CallLine}
use Rattle.hx_audit.specs.Verdicts.{calls_from}
use Rattle.hx_audit.specs.Walking.{IsFirstOf}
use Rattle.hx_audit.proofs.judging.first_of_calls.Given as goal

abbrev pub invariant-loop-call : goal.invariant-loop-call
invariant-loop-call l = record {
  walk : (r : Option ℕ) → IsFirstOf l.clause (calls_from l.block l.line l.rest) r → IsFirstOf l.clause (calls_from l.block l.first l.calls) r;
  stand : (call : CallLine) → IsIn call l.rest → IsIn call l.block.calls;
}

abbrev pub decreases-loop-call : goal.decreases-loop-call
decreases-loop-call l = length l.rest
