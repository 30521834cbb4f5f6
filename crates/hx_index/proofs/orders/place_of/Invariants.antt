use Rattle.std.proofs.Common.{◌-◌, Some}
use Rattle.hx_index.specs.Invariant.{stands_before}
use Rattle.hx_index.specs.Orders.{rows_at, rows_with}
use Rattle.hx_index.proofs.Halving.{IsBetween}
use Rattle.hx_index.proofs.orders.place_of.Given as goal

abbrev pub invariant-loop-low : goal.invariant-loop-low
invariant-loop-low l = IsBetween (stands_before (rows_with l.id (Some l.row) (rows_at l.rows)) l.attribute l.id) l.order l.low l.high

abbrev pub decreases-loop-low : goal.decreases-loop-low
decreases-loop-low l = l.high - l.low
