use Rattle.std.proofs.Common.{◌≡◌, true}
use Rattle.hx_store.specs.Stores.{KeepsRooms}
use Rattle.hx_replica.specs.Adopting.{lean_adopted}
use Rattle.hx_replica.specs.Outputs.{context_seen}
use Rattle.hx_replica.proofs.Kept.{changed_upto}
use Rattle.hx_replica.proofs.keeping.adopt_slots.Given as goal

abbrev pub invariant-loop-i : goal.invariant-loop-i
invariant-loop-i l = record {
  region : l.store.region ≡ l.fn.store.region;
  marks : l.store.keeps_marks ≡ l.fn.store.keeps_marks;
  states : l.store.states ≡ changed_upto (lean_adopted (context_seen l.context) l.active) l.i l.fn.store.states;
  rooms : KeepsRooms l.fn.store.rooms l.store.rooms;
  ordered : l.store.ordered ≡ true;
}
