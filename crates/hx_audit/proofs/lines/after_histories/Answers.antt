use Rattle.std.proofs.Common.{List, ap, arith}
use Rattle.hx_report_lines.specs.declared.histories.HistoryLines.{HistoryLines}
use Rattle.hx_audit.specs.Verdicts.{lines_of_histories}
use Rattle.hx_audit.proofs.Counting.{no_histories}
use Rattle.hx_audit.proofs.lines.after_histories.Goals as goal

pub loop-history-preserved : goal.loop-history-preserved
loop-history-preserved c =
    let e = ap (λ (xs : List HistoryLines). lines_of_histories xs) c.in-Some.ensures.cases.0 in
    let n = c.in_ok-line.ensures in
    let i = c.loop-history.invariant in
    omega (arith, e, n, i)

pub returns : goal.returns
returns c =
    let e = no_histories c.loop-history.rest.now (grind arith) in
    let i = c.loop-history.invariant in
    omega (arith, e, i)
