use Rattle.std.proofs.Common.{◌≡◌, ◌++◌, true, length}
use Rattle.std.specs.List.{AllByRecursion}
use Rattle.hx_slot.specs.States.{SlotState}
use Rattle.hx_store.specs.Stores.{IsReady, KeepsRoomsBut, is_key_of, states_of}
use Rattle.hx_store.proofs.stores.Store.put_all.Given as goal

abbrev pub invariant-places : goal.invariant-places
invariant-places l = record {
  region : l.self.region ≡ l.initial.self.region;
  marks : l.self.keeps_marks ≡ l.initial.self.keeps_marks;
  attributes : l.self.attributes ≡ l.initial.self.attributes;
  states : l.self.states ++ states_of l.slots.items ≡ states_of l.initial.slots.items;
  ready : AllByRecursion (IsReady l.self) l.slots.items;
  keys : AllByRecursion (λ (x : SlotState). is_key_of l.initial.slots.items x.state.base.key ≡ true) l.slots.items;
  others : KeepsRoomsBut (is_key_of l.initial.slots.items) l.initial.self.rooms l.self.rooms;
}

abbrev pub decreases-places : goal.decreases-places
decreases-places l = length l.slots.items
