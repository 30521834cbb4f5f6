use Rattle.std.proofs.Common.{◌≡◌}
use Rattle.hx_replica.proofs.Ordered.{ordered_upto}
use Rattle.hx_replica.proofs.replicas.sort_orders.Given as goal

abbrev pub invariant-loop-place : goal.invariant-loop-place
invariant-loop-place l = l.replicas.items ≡ ordered_upto l.place l.fn.replicas.items
