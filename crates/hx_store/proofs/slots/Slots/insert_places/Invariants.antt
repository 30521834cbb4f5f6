use Rattle.std.proofs.Common.{◌≡◌, ◌≤◌, ℕ, take, vec_capacity}
use Rattle.hx_store.specs.Indexed.{times}
use Rattle.hx_store.specs.Invariant.{AscendAt}
use Rattle.hx_store.proofs.slots.Slots.insert_places.Given as goal

-- those so far stand in order, and all are the same
abbrev pub invariant-loop-at : goal.invariant-loop-at
invariant-loop-at l = record {
  ascend : AscendAt l.self.entries (take l.at l.order.items);
  same : (i : ℕ) → times i l.order.items ≡ times i l.fn.order.items;
  capacity : vec_capacity l.fn.order ≤ vec_capacity l.order;
}
