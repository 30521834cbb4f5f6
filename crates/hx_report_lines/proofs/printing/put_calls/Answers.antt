use Rattle.std.proofs.Common.{◌∙◌}
use Rattle.hx_report.proofs.Lemmas.{one_more}
use Rattle.hx_report_lines.specs.Printed.{call_text}
use Rattle.hx_report_lines.proofs.printing.put_calls.Goals as goal

pub loop-call-preserved : goal.loop-call-preserved
loop-call-preserved c =
    c.in_ok-put_call.ensures
    ∙ one_more (call_text c.args.space.now) c.loop-call.out.items c.args.out.now.items c.args.calls.now
    c.loop-call.call-index c.call-item.result c.loop-call.invariant c.loop-call-test.true c.call-item.is
