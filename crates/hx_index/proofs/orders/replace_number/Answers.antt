use Rattle.std.proofs.Common.{Some}
use Rattle.hx_index.specs.Orders.{rows_at}
use Rattle.hx_index.proofs.Standing.{stays-order}
use Rattle.hx_index.proofs.orders.replace_number.Goals as goal

pub returns-then-stays-clause-order : goal.returns-then-stays-clause-order
returns-then-stays-clause-order c =
    stays-order (rows_at c.args.rows.now) c.args.id c.args.attribute (Some c.args.old.now)
    (c.stays.ensures c.if-stays.true) c.args.order.now.items c.requires.order
