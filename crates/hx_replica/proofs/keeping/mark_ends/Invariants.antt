use Rattle.std.proofs.Common.{◌≡◌, true}
use Rattle.hx_store.specs.Stores.{KeepsRooms}
use Rattle.hx_replica.specs.Adopting.{changed_at}
use Rattle.hx_replica.specs.Outputs.{context_seen}
use Rattle.hx_replica.proofs.Kept.{marked_upto}
use Rattle.hx_replica.proofs.keeping.mark_ends.Given as goal

abbrev pub invariant-loop-k : goal.invariant-loop-k
invariant-loop-k l = record {
  region : l.store.region ≡ l.fn.store.region;
  marks : l.store.keeps_marks ≡ l.fn.store.keeps_marks;
  states : l.store.states ≡ changed_at (marked_upto (context_seen l.context) l.k) l.i l.fn.store.states;
  rooms : KeepsRooms l.fn.store.rooms l.store.rooms;
  ordered : l.store.ordered ≡ true;
}
