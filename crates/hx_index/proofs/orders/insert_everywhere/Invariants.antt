use Rattle.hx_index.specs.Invariant.{IsAdded}
use Rattle.hx_index.specs.Orders.{rows_at}
use Rattle.hx_index.proofs.Looping.{HaveMoved}
use Rattle.hx_index.proofs.orders.insert_everywhere.Given as goal

abbrev pub invariant-loop-attribute : goal.invariant-loop-attribute
invariant-loop-attribute l = HaveMoved (IsAdded (rows_at l.rows) l.id) l.attribute l.initial.orders.items l.orders.items
