use Rattle.std.proofs.Common.{◌≡◌, List, map, subst, sym, ◌∙◌}
use Rattle.hx_model.specs.Types.{Space}
use Rattle.hx_types.specs.Spaces.{IsSpace}
use Rattle.hx_model.specs.ServerSteps.{listed_regions}
use Rattle.hx_law_folds.specs.Folding.{folded_replica}
use Rattle.hx_replica.specs.declared.replicas.Replica.{Replica}
use Rattle.hx_replica.specs.Replicas.{AreReplicas, views_of}
use Rattle.hx_replica.proofs.Bareness.{bare_first}
use Rattle.hx_replica.proofs.Starting.{first_ones, first_state}
use Rattle.hx_replica.proofs.servers.Server.with_parts.Goals as goal

pub invariant_of-result : goal.invariant_of-result
invariant_of-result c = record {
  valid = subst IsSpace (sym c.in_ok-space.ensures) c.requires.space;
  map_is = c.requires.regions ∙ sym c.in_ok-space.ensures;
  replicas_are =
      subst (λ (x : Space). AreReplicas x c.args.replicas.items) (sym c.in_ok-space.ensures)
      (subst (AreReplicas c.args.space.now) (sym c.requires.replicas) (first_ones c.args.space.now c.args.config c.args.id));
  bare =
      subst (λ (rs : List Replica). map folded_replica (views_of rs) ≡ views_of rs) (sym c.requires.replicas)
      (bare_first c.args.space.now (listed_regions c.args.config c.args.id));
}

pub returns-clause-state : goal.returns-clause-state
returns-clause-state c = first_state c.args.space.now c.args.id c.args.config c.args.replicas.items c.requires.config c.requires.replicas
