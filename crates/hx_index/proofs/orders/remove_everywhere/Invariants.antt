use Rattle.hx_index.specs.Invariant.{IsRemoved}
use Rattle.hx_index.specs.Orders.{rows_at}
use Rattle.hx_index.proofs.Looping.{HaveMoved}
use Rattle.hx_index.proofs.orders.remove_everywhere.Given as goal

abbrev pub invariant-loop-attribute : goal.invariant-loop-attribute
invariant-loop-attribute l = HaveMoved (IsRemoved (rows_at l.rows) l.id) l.attribute l.initial.orders.items l.orders.items
