use Rattle.std.proofs.Common.{◌≡◌, ◌++◌, take}
use Rattle.std.specs.List.{flat_map}
use Rattle.hx_model.specs.ServerSteps.{replica_tick}
use Rattle.hx_replica.specs.Replicas.{view_of}
use Rattle.hx_replica.specs.Ticking.{standing}
use Rattle.hx_replica.specs.declared.replicas.Replica.{Replica}
use Rattle.hx_replica.proofs.ticking.tick_all.Given as goal

abbrev pub invariant-loop-replica : goal.invariant-loop-replica
invariant-loop-replica l =
    l.posts ≡ l.fn.posts ++ flat_map (λ (r : Replica). replica_tick l.space (standing l.config l.server) (view_of r)) (take l.replica-index l.replicas)
