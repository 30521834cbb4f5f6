use Rattle.std.proofs.Common.{◌≡◌, ◌<◌, ◌≤◌, ℕ, Global, Vec, Some, slice_get, vec_capacity}
use Rattle.hx_index.specs.Invariant.{IsWidened}
use Rattle.hx_index.proofs.Looping.{HaveMoved}
use Rattle.hx_index.proofs.orders.widen_everywhere.Given as goal

abbrev pub invariant-loop-attribute : goal.invariant-loop-attribute
invariant-loop-attribute l = record {
  moved : HaveMoved IsWidened l.attribute l.initial.orders.items l.orders.items;
  room : (k : ℕ) (order : Vec ℕ Global) → k < l.attribute → slice_get l.orders.items k ≡ Some order → l.n ≤ vec_capacity order;
}
