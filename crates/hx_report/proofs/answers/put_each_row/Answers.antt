use Rattle.std.proofs.Common.{◌++◌, ap, ◌∙◌}
use Rattle.hx_report.specs.Reporting.{row_line}
use Rattle.hx_report.proofs.Appending.{one_more}
use Rattle.hx_report.proofs.answers.put_each_row.Goals as goal

pub loop-row-preserved : goal.loop-row-preserved
loop-row-preserved c =
    c.in_ok-put_row.ensures
    ∙ ap (λ r. c.loop-row.out.items ++ row_line c.args.space.now r) c.get.ensures
    ∙ one_more (row_line c.args.space.now) c.loop-row.out.items c.args.out.now.items c.args.rows.now c.loop-row.row-index
    c.row-item.result c.loop-row.invariant c.loop-row-test.true c.row-item.is
