use Rattle.std.proofs.Common.{◌∙◌}
use Rattle.hx_history.specs.Listed.{history_view}
use Rattle.hx_report.specs.Reporting.{history_lines}
use Rattle.hx_report.proofs.Appending.{one_more_seen}
use Rattle.hx_report.proofs.items.put_histories.Goals as goal

pub loop-history-preserved : goal.loop-history-preserved
loop-history-preserved c =
    c.in_ok-put_history.ensures
    ∙ one_more_seen (history_lines c.args.space.now) history_view c.loop-history.out.items c.args.out.now.items
    c.args.histories.now c.loop-history.history-index
    c.history-item.result c.loop-history.invariant c.loop-history-test.true c.history-item.is
