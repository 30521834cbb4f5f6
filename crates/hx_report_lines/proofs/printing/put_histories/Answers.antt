use Rattle.std.proofs.Common.{◌∙◌}
use Rattle.hx_report.proofs.Lemmas.{one_more}
use Rattle.hx_report_lines.specs.Printed.{history_text}
use Rattle.hx_report_lines.proofs.printing.put_histories.Goals as goal

pub loop-history-preserved : goal.loop-history-preserved
loop-history-preserved c =
    c.in_ok-put_history.ensures
    ∙ one_more (history_text c.args.space.now) c.loop-history.out.items c.args.out.now.items c.args.histories.now
    c.loop-history.history-index c.history-item.result c.loop-history.invariant c.loop-history-test.true c.history-item.is
