use Rattle.hx_index.specs.Invariant.{IsReplaced}
use Rattle.hx_index.specs.Orders.{rows_at}
use Rattle.hx_index.proofs.Looping.{HaveMoved}
use Rattle.hx_index.proofs.orders.replace_everywhere.Given as goal

abbrev pub invariant-loop-attribute : goal.invariant-loop-attribute
invariant-loop-attribute l = HaveMoved (IsReplaced (rows_at l.rows)) l.attribute l.initial.orders.items l.orders.items
