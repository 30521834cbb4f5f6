use Rattle.std.proofs.Common.{◌≡◌, ◌++◌, ◌<◌, List, ap, arith, map, subst, sym, ◌∙◌}
use Rattle.std.specs.List.{flat_map}
use Rattle.hx_model.specs.Types.{Config, Post, RegionId}
use Rattle.hx_model.specs.ServerSteps.{Replica as ReplicaState, adopted_posts, install_at, listed_regions, replica_or_new}
use Rattle.hx_law_folds.specs.Folding.{folded_server}
use Rattle.hx_replica.specs.declared.prepared.Change.TheVariants as a_change
use Rattle.hx_replica.specs.Invariant.{value_of}
use Rattle.hx_replica.specs.Plans.{IsChange}
use Rattle.hx_replica.specs.Replicas.{AreOrdered, AreReplicas, new_replica, views_of}
use Rattle.hx_replica.specs.Servers.{ServerValue}
use Rattle.hx_replica.specs.Ticking.{standing}
use Rattle.hx_replica.proofs.Bareness.{bare_same}
use Rattle.hx_replica.proofs.Installed.{adoption_change, adoption_posts}
use Rattle.hx_replica.proofs.Ordered.{are_in_order, ordered_are, ordered_value, ordered_views}
use Rattle.hx_replica.proofs.servers.Server.on_install.Goals as goal

pub returns-clause-posts : goal.returns-clause-posts
returns-clause-posts c =
    let i = c.self.inside in
    let config = c.args.config.now in
    let mine = ap (λ (k : Config). k.epoch.0) c.deref-2.ensures in
    let other = ap (λ (k : Config). k.epoch.0) c.deref.ensures in
    let newer : i.config.epoch.0 < config.epoch.0 = omega (arith, c.if-deref.false, mine, other) in
    let all = λ (k : Config) (views : List ReplicaState). flat_map
    (λ (g : RegionId). adopted_posts i.space (standing k i.id) (replica_or_new views g)) (listed_regions k i.id) in
    subst (λ (v : ServerValue). c.post_adoption.new.posts ≡ c.args.posts.now ++ (install_at v.space v.state config).posts) c.self.view_is
    (
    adoption_posts (value_of i) config newer c.args.posts.now c.post_adoption.new.posts
    (c.in_ok-post_adoption.ensures ∙ ap (λ (ps : List Post). c.args.posts.now ++ ps)
    (ap (λ (k : Config). all k (views_of c.as_slice.result.now)) c.deref-3.ensures
    ∙ ap (all config) (ap views_of (c.as_slice.ensures.value ∙ c.sort_orders.ensures) ∙ ordered_views i.replicas.items)))
    )

pub returns-clause-change : goal.returns-clause-change
returns-clause-change c =
    let i = c.self.inside in
    let config = c.args.config.now in
    let mine = ap (λ (k : Config). k.epoch.0) c.deref-2.ensures in
    let other = ap (λ (k : Config). k.epoch.0) c.deref.ensures in
    let newer : i.config.epoch.0 < config.epoch.0 = omega (arith, c.if-deref.false, mine, other) in
    let new : c.in_ok-replicas.replicas.items ≡ map (new_replica i.space) (listed_regions config i.id) =
    c.in_ok-replicas.ensures ∙ ap (λ (k : Config). map (new_replica i.space) (listed_regions k i.id)) c.deref-4.ensures in
    subst (λ (v : ServerValue). IsChange v (install_at v.space v.state config).state (a_change.Adopt c.in_ok-config.config c.in_ok-replicas.replicas))
    c.self.view_is
    (
    adoption_change (value_of i) config newer c.in_ok-config.config c.in_ok-replicas.replicas
    (subst (λ (v : ServerValue). folded_server v.state ≡ v.state) (sym c.self.view_is) c.requires.bare) new c.in_ok-config.ensures
    )

pub post_adoption-requires-clause-replicas : goal.post_adoption-requires-clause-replicas
post_adoption-requires-clause-replicas c =
    let i = c.self.inside in
    subst (AreReplicas i.space) (sym (c.as_slice.ensures.value ∙ c.sort_orders.ensures)) (ordered_are i.space i.replicas.items c.self.invariant.replicas_are)

pub post_adoption-requires-clause-ordered : goal.post_adoption-requires-clause-ordered
post_adoption-requires-clause-ordered c = subst AreOrdered (sym (c.as_slice.ensures.value ∙ c.sort_orders.ensures)) (are_in_order c.self.inside.replicas.items)

pub invariant_of-self : goal.invariant_of-self
invariant_of-self c =
    let i = c.self.inside in
    record {
      valid = c.self.invariant.valid;
      map_is = c.self.invariant.map_is;
      replicas_are = subst (AreReplicas i.space) (sym c.sort_orders.ensures) (ordered_are i.space i.replicas.items c.self.invariant.replicas_are);
      bare = bare_same _ _ (ap views_of c.sort_orders.ensures ∙ ordered_views i.replicas.items) c.self.invariant.bare;
    }

pub returns-clause-stays : goal.returns-clause-stays
returns-clause-stays c = ordered_value c.self.inside c.args.self.now _ c.self.view_is c.sort_orders.ensures

pub invariant_of-self-in_err-replicas : goal.invariant_of-self-in_err-replicas
invariant_of-self-in_err-replicas c =
    let i = c.self.inside in
    record {
      valid = c.self.invariant.valid;
      map_is = c.self.invariant.map_is;
      replicas_are = subst (AreReplicas i.space) (sym c.sort_orders.ensures) (ordered_are i.space i.replicas.items c.self.invariant.replicas_are);
      bare = bare_same _ _ (ap views_of c.sort_orders.ensures ∙ ordered_views i.replicas.items) c.self.invariant.bare;
    }

pub invariant_of-self-in_err-config : goal.invariant_of-self-in_err-config
invariant_of-self-in_err-config c =
    let i = c.self.inside in
    record {
      valid = c.self.invariant.valid;
      map_is = c.self.invariant.map_is;
      replicas_are = subst (AreReplicas i.space) (sym c.sort_orders.ensures) (ordered_are i.space i.replicas.items c.self.invariant.replicas_are);
      bare = bare_same _ _ (ap views_of c.sort_orders.ensures ∙ ordered_views i.replicas.items) c.self.invariant.bare;
    }

pub invariant_of-self-2 : goal.invariant_of-self-2
invariant_of-self-2 c =
    let i = c.self.inside in
    record {
      valid = c.self.invariant.valid;
      map_is = c.self.invariant.map_is;
      replicas_are = subst (AreReplicas i.space) (sym c.sort_orders.ensures) (ordered_are i.space i.replicas.items c.self.invariant.replicas_are);
      bare = bare_same _ _ (ap views_of c.sort_orders.ensures ∙ ordered_views i.replicas.items) c.self.invariant.bare;
    }

pub returns-in_err-post_adoption-clause-stays : goal.returns-in_err-post_adoption-clause-stays
returns-in_err-post_adoption-clause-stays c = ordered_value c.self.inside c.args.self.now _ c.self.view_is c.sort_orders.ensures

pub returns-in_err-replicas-clause-stays : goal.returns-in_err-replicas-clause-stays
returns-in_err-replicas-clause-stays c = ordered_value c.self.inside c.args.self.now _ c.self.view_is c.sort_orders.ensures

pub returns-in_err-config-clause-stays : goal.returns-in_err-config-clause-stays
returns-in_err-config-clause-stays c = ordered_value c.self.inside c.args.self.now _ c.self.view_is c.sort_orders.ensures
