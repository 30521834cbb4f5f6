use Rattle.std.proofs.Common.{◌≡◌, take}
use Rattle.std.specs.List.{All}
use Rattle.hx_model.specs.Slots.{snapshot_of}
use Rattle.hx_slot.specs.States.{IsOrderly}
use Rattle.hx_store.proofs.stores.Store.snapshot.Given as goal

abbrev pub invariant-loop-i : goal.invariant-loop-i
invariant-loop-i l = record {
  states : l.snapshot ≡ snapshot_of l.self.region (take l.i l.self.states);
  orderly : All IsOrderly l.snapshot;
}
