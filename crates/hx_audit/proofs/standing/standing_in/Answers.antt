use Rattle.std.proofs.Common.{arith}
use Rattle.hx_report_lines.specs.declared.histories.HistoryLines.{HistoryLines}
use Rattle.hx_audit.specs.Standing.{IsItemAt}
use Rattle.hx_audit.specs.Walking.{HasIn}
use Rattle.hx_audit.proofs.Placed.{marks_one, marks_only, marks_same}
use Rattle.hx_audit.proofs.standing.standing_in.Goals as goal

pub loop-history-preserved : goal.loop-history-preserved
loop-history-preserved c = marks_one (λ p (h : HistoryLines). HasIn (IsItemAt c.args.calls.now h.key p) h.items) _ _ _
    _ _ _ _ c.in-Some.ensures.cases.0 (marks_same _ _ c.args.calls.now _ _ _ c.as_slice.ensures
    c.in_ok-mark_calls.ensures) c.loop-history.invariant

pub returns : goal.returns
returns c = marks_only (λ p (h : HistoryLines). HasIn (IsItemAt c.args.calls.now h.key p) h.items) _ _
    c.loop-history.rest.now (grind arith) c.loop-history.invariant
