use Rattle.std.proofs.Common.{◌≡◌, ◌∷◌, []}
use Rattle.std.specs.List.{repeat}
use Rattle.hx_index.specs.Invariant.{items_of}
use Rattle.hx_index.proofs.orders.empty_orders.Given as goal

abbrev pub invariant-loop : goal.invariant-loop
invariant-loop l = items_of l.orders.items ≡ repeat l.counter ([] ∷ [])
