use Rattle.std.proofs.Common.{◌≡◌, take}
use Rattle.hx_replica.specs.Installing.{texts}
use Rattle.hx_replica.specs.Outputs.{context_seen}
use Rattle.hx_replica.proofs.Joined.{IsJoining}
use Rattle.hx_replica.proofs.installing.join_all.Given as goal

abbrev pub invariant-loop-key : goal.invariant-loop-key
invariant-loop-key l = record {
  region : l.store.region ≡ l.fn.store.region;
  marks : l.store.keeps_marks ≡ l.fn.store.keeps_marks;
  so_far : IsJoining (context_seen l.context) l.pending l.fn.store.states (take l.key-index (texts l.keys)) l.fn.posts l.posts l.store.states;
}
