use Rattle.std.proofs.Common.{ℕ, Some, ap, sym, ◌∙◌}
use Rattle.std.specs.Ordering.{is_lt}
use Rattle.hx_index.specs.Orders.{compare_at, rows_at, rows_with}
use Rattle.hx_index.proofs.Totals.{not-before}
use Rattle.hx_index.proofs.comparing.is_before.Goals as goal

pub returns-then-one-other : goal.returns-then-one-other
returns-then-one-other c =
    let rows = rows_with c.args.other (Some c.args.row.now) (rows_at c.args.rows.now) in
    sym (ap (λ (i : ℕ). is_lt (compare_at rows c.args.attribute i c.args.other)) c.if-one-other.true ∙ not-before rows c.args.attribute c.args.other)
