use Rattle.std.proofs.Common.{List, ap, arith}
use Rattle.hx_report_lines.specs.declared.calls.CallLine.{CallLine}
use Rattle.hx_audit.specs.Verdicts.{lines_of_calls}
use Rattle.hx_audit.proofs.Counting.{no_calls}
use Rattle.hx_audit.proofs.lines.after_calls.Goals as goal

pub loop-call-preserved : goal.loop-call-preserved
loop-call-preserved c =
    let e = ap (λ (xs : List CallLine). lines_of_calls xs) c.in-Some.ensures.cases.0 in
    let n = c.in_ok-line.ensures in
    let i = c.loop-call.invariant in
    omega (arith, e, n, i)

pub returns : goal.returns
returns c =
    let e = no_calls c.loop-call.rest.now (grind arith) in
    let i = c.loop-call.invariant in
    omega (arith, e, i)
