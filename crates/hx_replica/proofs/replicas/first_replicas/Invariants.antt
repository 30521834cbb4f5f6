use Rattle.std.proofs.Common.{◌≡◌, map}
use Rattle.hx_model.specs.Types.{RegionId}
use Rattle.hx_types.specs.Configs.{lists}
use Rattle.hx_replica.specs.Replicas.{first_replica}
use Rattle.hx_replica.proofs.Starting.{passing}
use Rattle.hx_replica.proofs.replicas.first_replicas.Given as goal

abbrev pub invariant-loop-number : goal.invariant-loop-number
invariant-loop-number l = l.replicas.items ≡ map (first_replica l.space) (passing (λ (g : RegionId). lists l.config g l.server) l.number)
