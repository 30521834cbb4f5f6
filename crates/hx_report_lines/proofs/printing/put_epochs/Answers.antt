use Rattle.std.proofs.Common.{◌∙◌}
use Rattle.hx_report.proofs.Lemmas.{one_more}
use Rattle.hx_report_lines.specs.Printed.{epoch_text}
use Rattle.hx_report_lines.proofs.printing.put_epochs.Goals as goal

pub loop-line-preserved : goal.loop-line-preserved
loop-line-preserved c =
    c.in_ok-put_epoch.ensures
    ∙ one_more epoch_text c.loop-line.out.items c.args.out.now.items c.args.epochs.now c.loop-line.line-index
    c.line-item.result c.loop-line.invariant c.loop-line-test.true c.line-item.is
