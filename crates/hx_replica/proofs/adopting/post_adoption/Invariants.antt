use Rattle.std.proofs.Common.{◌≡◌, ◌++◌}
use Rattle.std.specs.List.{flat_map}
use Rattle.hx_model.specs.Types.{RegionId}
use Rattle.hx_types.specs.Configs.{lists}
use Rattle.hx_replica.specs.Replicas.{views_of}
use Rattle.hx_replica.proofs.Adopted.{posts_at}
use Rattle.hx_replica.proofs.Starting.{passing}
use Rattle.hx_replica.proofs.adopting.post_adoption.Given as goal

abbrev pub invariant-loop-number : goal.invariant-loop-number
invariant-loop-number l = l.posts ≡ l.fn.posts ++ flat_map (posts_at l.space l.config l.server (views_of l.replicas))
    (passing (λ (g : RegionId). lists l.config g l.server) l.number)
