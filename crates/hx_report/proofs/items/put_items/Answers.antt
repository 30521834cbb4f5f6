use Rattle.std.proofs.Common.{◌∙◌}
use Rattle.hx_history.specs.Events.{item_view}
use Rattle.hx_report.specs.Reporting.{item_line}
use Rattle.hx_report.proofs.Appending.{one_more_seen}
use Rattle.hx_report.proofs.items.put_items.Goals as goal

pub loop-item-preserved : goal.loop-item-preserved
loop-item-preserved c =
    c.in_ok-put_item.ensures
    ∙ one_more_seen (item_line c.args.space.now) item_view c.loop-item.out.items c.args.out.now.items c.args.items.now c.loop-item.item-index
    c.item-item.result c.loop-item.invariant c.loop-item-test.true c.item-item.is
