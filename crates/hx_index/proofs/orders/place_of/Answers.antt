use Rattle.std.proofs.Common.{◌+◌, ◌-◌, ◌/◌, Some, sym, ◌∙◌, arith}
use Rattle.hx_index.specs.Invariant.{stands_before}
use Rattle.hx_index.specs.Orders.{compare_at, rows_at, rows_with}
use Rattle.hx_index.proofs.Totals.{slots-total}
use Rattle.hx_index.proofs.Halving.{between-above, between-below}
use Rattle.hx_index.proofs.Inserting.{partitioned, split-at}
use Rattle.hx_index.proofs.orders.place_of.Goals as goal

pub loop-low-preserved-then-is_before : goal.loop-low-preserved-then-is_before
loop-low-preserved-then-is_before c =
    let rows = rows_with c.args.id (Some c.args.row.now) (rows_at c.args.rows.now) in
    let order = c.args.order.now in
    let parted = partitioned (compare_at rows c.args.attribute) (slots-total rows c.args.attribute) c.args.id order c.requires in
    let low = c.loop-low.low in let high = c.loop-low.high in
    let less = c.loop-low-test.true in
    between-above (stands_before rows c.args.attribute c.args.id) order parted low high (low + (high - low) / 2) c.loop-low.invariant
    (omega arith) (omega (arith, less)) (sym c.is_before.ensures ∙ c.if-is_before.true)

pub loop-low-preserved : goal.loop-low-preserved
loop-low-preserved c =
    let rows = rows_with c.args.id (Some c.args.row.now) (rows_at c.args.rows.now) in
    let order = c.args.order.now in
    let parted = partitioned (compare_at rows c.args.attribute) (slots-total rows c.args.attribute) c.args.id order c.requires in
    let low = c.loop-low.low in let high = c.loop-low.high in
    let less = c.loop-low-test.true in
    between-below (stands_before rows c.args.attribute c.args.id) order parted low high (low + (high - low) / 2) c.loop-low.invariant
    (omega arith) (omega (arith, less)) (sym c.is_before.ensures ∙ c.if-is_before.false)

pub returns : goal.returns
returns c =
    let rows = rows_with c.args.id (Some c.args.row.now) (rows_at c.args.rows.now) in
    let between = c.loop-low.invariant in
    let high = c.loop-low-test.false in
    let within = between.within in let ends = between.ends in
    split-at (stands_before rows c.args.attribute c.args.id) c.loop-low.low c.args.order.now (omega (arith, within, ends)) between.before
    (λ i from there. between.from i (omega (arith, high, from)) there)
