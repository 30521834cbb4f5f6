use Rattle.std.proofs.Common.{◌∙◌}
use Rattle.hx_report.proofs.Lemmas.{one_more}
use Rattle.hx_report_lines.specs.Printed.{item_text}
use Rattle.hx_report_lines.proofs.printing.put_items.Goals as goal

pub loop-item-preserved : goal.loop-item-preserved
loop-item-preserved c =
    c.in_ok-put_item.ensures
    ∙ one_more (item_text c.args.space.now) c.loop-item.out.items c.args.out.now.items c.args.items.now
    c.loop-item.item-index c.item-item.result c.loop-item.invariant c.loop-item-test.true c.item-item.is
