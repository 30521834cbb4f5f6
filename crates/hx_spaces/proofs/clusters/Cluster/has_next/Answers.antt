use Rattle.std.proofs.Common.{List, subst, sym, ◌∙◌}
use Rattle.hx_world.specs.Worlds.{WorldState}
use Rattle.hx_spaces.specs.Walks.{IsSeated}
use Rattle.hx_spaces.proofs.Seats.{seated}
use Rattle.hx_spaces.proofs.clusters.Cluster.has_next.Goals as goal

pub first_begin-requires-clause-seated : goal.first_begin-requires-clause-seated
first_begin-requires-clause-seated c =
    subst (λ (l : List WorldState). IsSeated c.self.inside.bundle.now l) (sym (c.as_slice.ensures.value ∙ c.has_delivery.ensures.same))
    (seated c.self.inside.bundle.now c.self.inside.worlds.items c.self.inside.order.items c.self.invariant.kept.course)
