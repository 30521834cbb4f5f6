use Rattle.std.proofs.Common.{ap, length, map, sym, ◌∙◌}
use Rattle.hx_model.specs.Types.{Config}
use Rattle.hx_types.specs.Subspaces.{region_count}
use Rattle.hx_model.specs.ServerSteps.{listed_regions}
use Rattle.hx_replica.specs.Replicas.{first_replica}
use Rattle.hx_replica.proofs.Starting.{first_count}
use Rattle.hx_replica.proofs.Invariant.{ok_both}
use Rattle.hx_replica.proofs.StayingSound.{server_sound}
use Rattle.hx_replica.proofs.servers.Server.start.Goals as goal

pub first_replicas-requires-clause-attributes : goal.first_replicas-requires-clause-attributes
first_replicas-requires-clause-attributes c = c.requires.space.attributes

pub first_replicas-requires-clause-regions : goal.first_replicas-requires-clause-regions
first_replicas-requires-clause-regions c =
    c.regions.ensures ∙ ap region_count c.in-Ok.ensures ∙ first_count c.args.space.now
    ∙ ap (λ (k : Config). length k.regions) (sym (c.deref.ensures ∙ c.in-Ok-first_shared_config.ensures))

pub with_parts-requires-clause-replicas : goal.with_parts-requires-clause-replicas
with_parts-requires-clause-replicas c = c.in-Ok-first_replicas.ensures
    ∙ ap (λ (k : Config). map (first_replica c.args.space.now) (listed_regions k c.args.id)) c.deref.ensures

pub returns-clause-sound : goal.returns-clause-sound
returns-clause-sound c = ok_both c.with_parts.result _ _ _
    (λ server at is. server_sound c.args.space.now c.args.id server c.requires.space c.requires.server at is)
    c.with_parts.ensures.space c.with_parts.ensures.state
