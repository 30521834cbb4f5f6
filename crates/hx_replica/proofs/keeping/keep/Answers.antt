use Rattle.std.proofs.Common.{◌≡◌, ◌∙◌, List, Some, ap, slice_get, sym, subst}
use Rattle.std.specs.Option.{option_map}
use Rattle.hx_model.specs.ServerSteps.{Replica as ReplicaState, replica_of, with_replica}
use Rattle.hx_replica.specs.declared.replicas.Replica.{Replica}
use Rattle.hx_replica.specs.Adopting.{lean_replica}
use Rattle.hx_replica.specs.Replicas.{IsReplicaIn, view_of, views_of}
use Rattle.hx_replica.specs.Ticking.{standing}
use Rattle.hx_store.specs.Stores.{KeepsRooms}
use Rattle.hx_replica.proofs.Hearing.{found_region}
use Rattle.hx_replica.proofs.Kept.{kept_are, kept_there, none_placed, none_with}
use Rattle.hx_replica.proofs.Planning.{found_there}
use Rattle.hx_replica.proofs.Roomy.{none_kept_rooms, set_kept}
use Rattle.hx_replica.proofs.keeping.keep.Goals as goal

pub returns-in-Some-clause-views : goal.returns-in-Some-clause-views
returns-in-Some-clause-views c =
    let same : c.swap.new.x ≡ c.adopt_replica.new.replica = c.swap.ensures.x_after in
    let region = ap (λ (r : Replica). r.region) same ∙ ap (λ (r : ReplicaState). r.region) c.adopt_replica.ensures.view in
    let at : Some (slice_get (views_of c.args.next.now.items) c.in-Some.number)
    ≡ option_map (λ (x : ReplicaState). Some x) (replica_of c.args.replica.now.region (views_of c.args.next.now.items)) =
    subst (λ (rs : List Replica). Some (slice_get (views_of rs) c.in-Some.number)
    ≡ option_map (λ (x : ReplicaState). Some x) (replica_of c.args.replica.now.region (views_of rs)))
    c.as_slice.ensures.value c.in-Some.ensures in
    kept_there c.args.space.now c.args.next.now.items c.in-Some.number c.args.replica.now.region c.swap.new.x c.requires.next region at
    ∙ ap (λ (r : Replica). with_replica (view_of r) (views_of c.args.next.now.items)) same
    ∙ ap (λ (r : ReplicaState). with_replica r (views_of c.args.next.now.items)) c.adopt_replica.ensures.view

pub returns-in-Some-clause-are : goal.returns-in-Some-clause-are
returns-in-Some-clause-are c =
    let same : c.swap.new.x ≡ c.adopt_replica.new.replica = c.swap.ensures.x_after in
    let region = ap (λ (r : Replica). r.region) same ∙ ap (λ (r : ReplicaState). r.region) c.adopt_replica.ensures.view in
    let at : Some (slice_get (views_of c.args.next.now.items) c.in-Some.number)
    ≡ option_map (λ (x : ReplicaState). Some x) (replica_of c.args.replica.now.region (views_of c.args.next.now.items)) =
    subst (λ (rs : List Replica). Some (slice_get (views_of rs) c.in-Some.number)
    ≡ option_map (λ (x : ReplicaState). Some x) (replica_of c.args.replica.now.region (views_of rs)))
    c.as_slice.ensures.value c.in-Some.ensures in
    kept_are c.args.space.now c.args.next.now.items c.in-Some.number c.args.replica.now.region c.swap.new.x
    c.requires.next region at (subst (IsReplicaIn c.args.space.now) (sym same) c.adopt_replica.ensures.is)

pub returns-in_default-clause-views : goal.returns-in_default-clause-views
returns-in_default-clause-views c =
    sym
    (
    none_with (lean_replica c.args.space.now (standing c.args.config.now c.args.server) (view_of c.args.replica.now)) (views_of c.args.next.now.items)
    (none_placed c.place_of.result c.args.replica.now.region (views_of c.args.next.now.items) (λ p e. c.in_default.not-Some p e)
    (subst (λ (rs : List Replica). option_map (slice_get (views_of rs)) c.place_of.result
    ≡ option_map (λ (x : ReplicaState). Some x) (replica_of c.args.replica.now.region (views_of rs)))
    c.as_slice.ensures.value c.place_of.ensures))
    )

pub returns-in-Some-clause-rooms : goal.returns-in-Some-clause-rooms
returns-in-Some-clause-rooms c =
    let same : c.swap.new.x ≡ c.adopt_replica.new.replica = c.swap.ensures.x_after in
    let region = ap (λ (r : Replica). r.region) same ∙ ap (λ (r : ReplicaState). r.region) c.adopt_replica.ensures.view in
    let at : Some (slice_get (views_of c.args.next.now.items) c.in-Some.number)
    ≡ option_map (λ (x : ReplicaState). Some x) (replica_of c.args.replica.now.region (views_of c.args.next.now.items)) =
    subst (λ (rs : List Replica). Some (slice_get (views_of rs) c.in-Some.number)
    ≡ option_map (λ (x : ReplicaState). Some x) (replica_of c.args.replica.now.region (views_of rs)))
    c.as_slice.ensures.value c.in-Some.ensures in
    let found = found_there (views_of c.args.next.now.items) c.in-Some.number (replica_of c.args.replica.now.region (views_of c.args.next.now.items)) at in
    set_kept c.args.replica.now c.args.next.now.items c.in-Some.number found.replica c.swap.new.x
    c.requires.next.ascend found.at_place (found_region c.args.replica.now.region
    (views_of c.args.next.now.items) found.replica found.is) region
    (subst (λ (r : Replica). KeepsRooms c.args.replica.now.store.rooms r.store.rooms) (sym same) c.adopt_replica.ensures.rooms)

pub returns-in_default-clause-rooms : goal.returns-in_default-clause-rooms
returns-in_default-clause-rooms c =
    none_kept_rooms c.args.replica.now c.args.next.now.items
    (
    none_placed c.place_of.result c.args.replica.now.region (views_of c.args.next.now.items) (λ p e. c.in_default.not-Some p e)
    (subst (λ (rs : List Replica). option_map (slice_get (views_of rs)) c.place_of.result
    ≡ option_map (λ (x : ReplicaState). Some x) (replica_of c.args.replica.now.region (views_of rs)))
    c.as_slice.ensures.value c.place_of.ensures)
    )
