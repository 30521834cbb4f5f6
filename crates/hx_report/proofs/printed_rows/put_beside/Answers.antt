use Rattle.hx_report.proofs.Ranges.{on_ok}
use Rattle.hx_report.proofs.printed_rows.put_beside.Goals as goal

pub returns-clause-printed : goal.returns-clause-printed
returns-clause-printed c = on_ok c.keep_made.result (λ kept. kept c.args.space.now c.loop-row.invariant.printed) c.keep_made.ensures
