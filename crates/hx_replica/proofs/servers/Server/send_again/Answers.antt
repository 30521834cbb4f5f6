use Rattle.std.proofs.Common.{◌≡◌, ◌++◌, List, ap, map, subst, sym, ◌∙◌}
use Rattle.std.specs.List.{flat_map}
use Rattle.std.proofs.lemmas.Result.{on_ok_weaker}
use Rattle.hx_model.specs.Types.{Config, Post}
use Rattle.hx_model.specs.ServerSteps.{asking_last, replica_tick, tick_step}
use Rattle.hx_replica.specs.declared.replicas.Replica.{Replica}
use Rattle.hx_replica.specs.Invariant.{value_of}
use Rattle.hx_replica.specs.Replicas.{AreOrdered, AreReplicas, in_order, view_of, views_of}
use Rattle.hx_replica.specs.Servers.{ServerValue}
use Rattle.hx_replica.specs.Ticking.{standing}
use Rattle.hx_replica.proofs.Bareness.{bare_same}
use Rattle.hx_replica.proofs.Ordered.{are_in_order, ordered_are, ordered_value, ordered_views, own_regions}
use Rattle.hx_replica.proofs.Sending.{ticked}
use Rattle.hx_replica.proofs.servers.Server.send_again.Goals as goal

pub returns-clause-posts : goal.returns-clause-posts
returns-clause-posts c =
    let i = c.self.inside in
    let all = λ (k : Config) (rs : List Replica). asking_last (standing k i.id)
    (flat_map (λ (r : Replica). replica_tick i.space (standing k i.id) (view_of r)) rs) in
    on_ok_weaker c.post_tick.result
    (
    λ e. subst (λ (v : ServerValue). c.post_tick.new.posts ≡ c.args.posts.now ++ (tick_step v.space v.state).posts) c.self.view_is
    (
    e ∙ ap (λ (ps : List Post). c.args.posts.now ++ ps)
    (
    ap (λ (k : Config). all k c.as_slice.result.now) c.deref.ensures
    ∙ ap (all i.config) (c.as_slice.ensures.value ∙ c.sort_orders.ensures)
    ∙ ticked i.space (value_of i).state (map in_order i.replicas.items) (sym (ordered_views i.replicas.items))
    )
    )
    )
    c.post_tick.ensures

pub post_tick-requires-clause-regions : goal.post_tick-requires-clause-regions
post_tick-requires-clause-regions c =
    let i = c.self.inside in
    own_regions i.space c.as_slice.result.now
    (subst (AreReplicas i.space) (sym (c.as_slice.ensures.value ∙ c.sort_orders.ensures))
    (ordered_are i.space i.replicas.items c.self.invariant.replicas_are)).each

pub post_tick-requires-clause-ordered : goal.post_tick-requires-clause-ordered
post_tick-requires-clause-ordered c = subst AreOrdered (sym (c.as_slice.ensures.value ∙ c.sort_orders.ensures)) (are_in_order c.self.inside.replicas.items)

pub invariant_of-self : goal.invariant_of-self
invariant_of-self c =
    let i = c.self.inside in
    record {
      valid = c.self.invariant.valid;
      map_is = c.self.invariant.map_is;
      replicas_are = subst (AreReplicas i.space) (sym c.sort_orders.ensures) (ordered_are i.space i.replicas.items c.self.invariant.replicas_are);
      bare = bare_same _ _ (ap views_of c.sort_orders.ensures ∙ ordered_views i.replicas.items) c.self.invariant.bare;
    }

pub returns-clause-stays : goal.returns-clause-stays
returns-clause-stays c = ordered_value c.self.inside c.args.self.now _ c.self.view_is c.sort_orders.ensures
