use Rattle.std.proofs.Common.{◌++◌, ap, sym, ◌∙◌}
use Rattle.std.proofs.lemmas.Result.{on_ok_weaker}
use Rattle.hx_model.specs.ServerSteps.{Replica as ReplicaState, adopted_posts}
use Rattle.hx_replica.specs.Ticking.{standing}
use Rattle.hx_replica.proofs.Adopted.{new_posts, there}
use Rattle.hx_replica.proofs.Ordered.{ordered_there}
use Rattle.hx_replica.proofs.adopting.post_region.Goals as goal

pub post_replica-requires-clause-region : goal.post_replica-requires-clause-region
post_replica-requires-clause-region c =
    (there c.args.context.now.space.now c.args.replicas.now c.args.context.now.region c.in-Some.place
    c.index-replicas-place.result c.requires.replicas c.index-replicas-place.is c.in-Some.ensures).region

pub post_replica-requires-clause-is : goal.post_replica-requires-clause-is
post_replica-requires-clause-is c =
    (there c.args.context.now.space.now c.args.replicas.now c.args.context.now.region c.in-Some.place
    c.index-replicas-place.result c.requires.replicas c.index-replicas-place.is c.in-Some.ensures).is

pub returns-in-Some : goal.returns-in-Some
returns-in-Some c =
    let context = c.args.context.now in
    let t = there context.space.now c.args.replicas.now context.region c.in-Some.place c.index-replicas-place.result
    c.requires.replicas c.index-replicas-place.is c.in-Some.ensures in
    on_ok_weaker c.post_replica.result
    (λ e. e ∙ ap (λ (r : ReplicaState). c.args.posts.now ++ adopted_posts context.space.now (standing context.config.now context.server) r) (sym t.found))
    c.post_replica.ensures

pub returns-in-None : goal.returns-in-None
returns-in-None c =
    let context = c.args.context.now in
    new_posts context.space.now context.config.now context.server c.args.replicas.now context.region c.args.posts.now c.in-None.ensures

pub post_replica-requires-clause-ordered : goal.post_replica-requires-clause-ordered
post_replica-requires-clause-ordered c =
    ordered_there c.args.replicas.now c.args.context.now.region c.in-Some.place c.index-replicas-place.result
    c.requires.ordered c.index-replicas-place.is c.in-Some.ensures
