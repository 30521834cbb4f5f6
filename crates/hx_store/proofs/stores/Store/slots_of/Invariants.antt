use Rattle.std.proofs.Common.{◌≡◌, map, take}
use Rattle.std.specs.List.{AllByRecursion}
use Rattle.hx_model.specs.ServerSteps.{state_from}
use Rattle.hx_store.specs.Stores.{IsReady, KeepsRooms, states_of}
use Rattle.hx_store.proofs.stores.Store.slots_of.Given as goal

abbrev pub invariant-loop-kept : goal.invariant-loop-kept
invariant-loop-kept l = record {
  region : l.self.region ≡ l.initial.self.region;
  marks : l.self.keeps_marks ≡ l.initial.self.keeps_marks;
  attributes : l.self.attributes ≡ l.initial.self.attributes;
  states : l.self.states ≡ l.initial.self.states;
  rooms : KeepsRooms l.initial.self.rooms l.self.rooms;
  made : states_of l.slots.items ≡ map (state_from l.initial.self.keeps_marks) (take l.kept-index l.snapshot);
  ready : AllByRecursion (IsReady l.self) l.slots.items;
}
