use Rattle.std.proofs.Common.{List, ap, set, subst, ◌∙◌}
use Rattle.hx_store.specs.Stores.{Room}
use Rattle.hx_replica.specs.Replicas.{KeepAllRooms, rooms_of}
use Rattle.hx_replica.specs.Servers.{ServerValue}
use Rattle.hx_replica.proofs.Bareness.{bare_same}
use Rattle.hx_replica.proofs.Changing.{put, reserved, reserved_views}
use Rattle.hx_replica.proofs.Invariant.{ok_both, room_there, with_views, within}
use Rattle.hx_replica.proofs.Roomy.{set_rooms}
use Rattle.hx_replica.proofs.servers.Server.reserve.Goals as goal

pub invariant_of-self : goal.invariant_of-self
invariant_of-self c = record {
  valid = c.self.invariant.valid;
  map_is = c.self.invariant.map_is;
  replicas_are = reserved c.self.inside.space c.self.inside.replicas.items c.args.replica c.index_mut.result.now
      c.reserve.new.self c.self.invariant.replicas_are
      (within c.self.inside c.args.self.now c.args.replica c.self.view_is c.requires) c.index_mut.ensures.value
      c.reserve.ensures.region c.reserve.ensures.marks c.reserve.ensures.states;
  bare = bare_same _ _ (reserved_views c.self.inside.space c.self.inside.replicas.items c.args.replica
      c.index_mut.result.now c.reserve.new.self c.self.invariant.replicas_are
      (within c.self.inside c.args.self.now c.args.replica c.self.view_is c.requires) c.index_mut.ensures.value
      c.reserve.ensures.states) c.self.invariant.bare;
}

pub returns-clause-room : goal.returns-clause-room
returns-clause-room c =
    ok_both c.reserve.result _ _ _
    (λ place is enough. room_there c.self.inside c.args.replica c.args.key.now c.args.n place c.index_mut.result.now
    c.reserve.new.self c.self.invariant (within c.self.inside c.args.self.now c.args.replica c.self.view_is
    c.requires) c.index_mut.ensures.value is enough)
    c.reserve.ensures.place c.reserve.ensures.room

pub returns-clause-state : goal.returns-clause-state
returns-clause-state c =
    ap (with_views c.self.inside) (reserved_views c.self.inside.space c.self.inside.replicas.items c.args.replica
    c.index_mut.result.now c.reserve.new.self c.self.invariant.replicas_are
    (within c.self.inside c.args.self.now c.args.replica c.self.view_is c.requires) c.index_mut.ensures.value
    c.reserve.ensures.states)
    ∙ ap (λ (v : ServerValue). v.state) c.self.view_is

pub returns-clause-rooms : goal.returns-clause-rooms
returns-clause-rooms c =
    subst (λ (rooms : List (List Room)). KeepAllRooms rooms
    (rooms_of (set c.self.inside.replicas.items c.args.replica
    (put c.self.inside.space c.self.inside.replicas.items c.args.replica c.index_mut.result.now c.reserve.new.self
    c.self.invariant.replicas_are (within c.self.inside c.args.self.now c.args.replica c.self.view_is c.requires)
    c.index_mut.ensures.value))))
    (ap (λ (v : ServerValue). v.rooms) c.self.view_is)
    (set_rooms c.self.inside.replicas.items c.args.replica c.index_mut.result.now _
    (within c.self.inside c.args.self.now c.args.replica c.self.view_is c.requires) c.index_mut.ensures.value
    c.reserve.ensures.rooms)
