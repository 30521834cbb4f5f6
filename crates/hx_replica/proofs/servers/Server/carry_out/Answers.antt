use Rattle.std.proofs.Common.{ap, arith, subst, sym, ◌∙◌}
use Rattle.hx_store.specs.Stores.{after_step}
use Rattle.hx_replica.proofs.Bareness.{bare_again}
use Rattle.hx_replica.proofs.Changing.{changed}
use Rattle.hx_replica.proofs.Invariant.{can_change, change_within, changed_state, join_of, joined_replicas, joined_server, planned}
use Rattle.hx_replica.proofs.Installed.{adoption}
use Rattle.hx_model.specs.ServerSteps.{ServerState}
use Rattle.hx_replica.specs.Outputs.{stepped}
use Rattle.hx_replica.specs.Plans.{IsChangeOn, IsJoinOn}
use Rattle.hx_replica.specs.Servers.{ServerValue}
use Rattle.hx_replica.proofs.Roomy.{adopt_rooms, join_rooms, set_other, set_uses, slot_rooms}
use Rattle.hx_replica.proofs.servers.Server.carry_out.Goals as goal

pub change_slot-requires-clause-room : goal.change_slot-requires-clause-room
change_slot-requires-clause-room c =
    let h : IsChangeOn c.args.self.now c.requires.after c.in-Slot.replica c.in-Slot.place c.in-Slot.change =
    planned c.args.self.now c.requires.after c.args.change c.in-Slot.replica c.in-Slot.place c.in-Slot.change c.in-Slot.is c.requires.is in
    (can_change c.self-in-Slot.inside c.args.self.now c.requires.after c.in-Slot.replica c.in-Slot.place c.in-Slot.change c.index_mut-replica.result.now
    c.self-in-Slot.view_is c.self-in-Slot.invariant h c.index_mut-replica.ensures.value).room

pub change_slot-requires-clause-fits : goal.change_slot-requires-clause-fits
change_slot-requires-clause-fits c =
    let h : IsChangeOn c.args.self.now c.requires.after c.in-Slot.replica c.in-Slot.place c.in-Slot.change =
    planned c.args.self.now c.requires.after c.args.change c.in-Slot.replica c.in-Slot.place c.in-Slot.change c.in-Slot.is c.requires.is in
    (can_change c.self-in-Slot.inside c.args.self.now c.requires.after c.in-Slot.replica c.in-Slot.place c.in-Slot.change c.index_mut-replica.result.now
    c.self-in-Slot.view_is c.self-in-Slot.invariant h c.index_mut-replica.ensures.value).fits

pub invariant_of-self-in-Slot : goal.invariant_of-self-in-Slot
invariant_of-self-in-Slot c =
    let h : IsChangeOn c.args.self.now c.requires.after c.in-Slot.replica c.in-Slot.place c.in-Slot.change =
    planned c.args.self.now c.requires.after c.args.change c.in-Slot.replica c.in-Slot.place c.in-Slot.change c.in-Slot.is c.requires.is in
    let can =
    can_change c.self-in-Slot.inside c.args.self.now c.requires.after c.in-Slot.replica c.in-Slot.place c.in-Slot.change c.index_mut-replica.result.now
    c.self-in-Slot.view_is c.self-in-Slot.invariant h c.index_mut-replica.ensures.value in
    record {
      valid = c.self-in-Slot.invariant.valid;
      map_is = c.self-in-Slot.invariant.map_is;
      replicas_are = changed c.self-in-Slot.inside.space c.self-in-Slot.inside.replicas.items c.in-Slot.replica c.index_mut-replica.result.now
          c.change_slot.new.store c.self-in-Slot.invariant.replicas_are
          (change_within c.self-in-Slot.inside c.args.self.now c.requires.after c.in-Slot.replica c.in-Slot.place c.in-Slot.change c.self-in-Slot.view_is h)
          c.index_mut-replica.ensures.value
          h.key c.in-Slot.change
          c.change_slot.ensures.region c.change_slot.ensures.marks
          (c.change_slot.ensures.states ∙ ap (λ k. after_step c.index_mut-replica.result.now.store k (stepped c.in-Slot.change)) can.key_is);
      bare = bare_again _ c.requires.after (ap (λ (x : ServerState). x.replicas)
          (changed_state c.self-in-Slot.inside c.args.self.now c.requires.after c.in-Slot.replica c.in-Slot.place c.in-Slot.change
          c.index_mut-replica.result.now c.change_slot.new.store c.self-in-Slot.view_is c.self-in-Slot.invariant h
          (change_within c.self-in-Slot.inside c.args.self.now c.requires.after c.in-Slot.replica c.in-Slot.place c.in-Slot.change c.self-in-Slot.view_is h)
          c.index_mut-replica.ensures.value
          (c.change_slot.ensures.states ∙ ap (λ k. after_step c.index_mut-replica.result.now.store k (stepped c.in-Slot.change)) can.key_is)));
    }

pub returns-in-Slot-clause-state : goal.returns-in-Slot-clause-state
returns-in-Slot-clause-state c = λ after is.
    let h : IsChangeOn c.args.self.now after c.in-Slot.replica c.in-Slot.place c.in-Slot.change =
    planned c.args.self.now after c.args.change c.in-Slot.replica c.in-Slot.place c.in-Slot.change c.in-Slot.is is in
    let can =
    can_change c.self-in-Slot.inside c.args.self.now after c.in-Slot.replica c.in-Slot.place c.in-Slot.change c.index_mut-replica.result.now
    c.self-in-Slot.view_is c.self-in-Slot.invariant h c.index_mut-replica.ensures.value in
    changed_state c.self-in-Slot.inside c.args.self.now after c.in-Slot.replica c.in-Slot.place c.in-Slot.change c.index_mut-replica.result.now
    c.change_slot.new.store c.self-in-Slot.view_is c.self-in-Slot.invariant h
    (change_within c.self-in-Slot.inside c.args.self.now after c.in-Slot.replica c.in-Slot.place c.in-Slot.change c.self-in-Slot.view_is h)
    c.index_mut-replica.ensures.value
    (c.change_slot.ensures.states ∙ ap (λ k. after_step c.index_mut-replica.result.now.store k (stepped c.in-Slot.change)) can.key_is)

pub index_mut-replica-requires : goal.index_mut-replica-requires
index_mut-replica-requires c =
    let h : IsChangeOn c.args.self.now c.requires.after c.in-Slot.replica c.in-Slot.place c.in-Slot.change =
    planned c.args.self.now c.requires.after c.args.change c.in-Slot.replica c.in-Slot.place c.in-Slot.change c.in-Slot.is c.requires.is in
    let l = change_within c.self-in-Slot.inside c.args.self.now c.requires.after c.in-Slot.replica c.in-Slot.place c.in-Slot.change c.self-in-Slot.view_is h in
    omega (arith, l, c.self-in-Slot.inside.replicas.ok)

pub invariant_of-self-in-Join : goal.invariant_of-self-in-Join
invariant_of-self-in-Join c =
    let h : IsJoinOn c.args.self.now c.requires.after c.in-Join.number c.put_replica.new.place =
    subst (IsJoinOn c.args.self.now c.requires.after c.in-Join.number) (sym c.put_replica.ensures)
    (join_of c.args.self.now c.requires.after c.args.change c.in-Join.number c.in-Join.replica c.in-Join.is c.requires.is) in
    record {
      valid = c.self-in-Join.invariant.valid;
      map_is = c.self-in-Join.invariant.map_is;
      replicas_are = joined_replicas c.self-in-Join.inside c.args.self.now c.requires.after c.in-Join.number c.put_replica.new.place c.self-in-Join.view_is
          c.self-in-Join.invariant h;
      bare = bare_again _ c.requires.after (ap (λ (x : ServerState). x.replicas)
          (joined_server c.self-in-Join.inside c.args.self.now c.requires.after c.in-Join.number c.put_replica.new.place c.self-in-Join.view_is
          c.self-in-Join.invariant h));
    }

pub returns-in-Join-clause-state : goal.returns-in-Join-clause-state
returns-in-Join-clause-state c = λ after is.
    let h : IsJoinOn c.args.self.now after c.in-Join.number c.put_replica.new.place =
    subst (IsJoinOn c.args.self.now after c.in-Join.number) (sym c.put_replica.ensures)
    (join_of c.args.self.now after c.args.change c.in-Join.number c.in-Join.replica c.in-Join.is is) in
    joined_server c.self-in-Join.inside c.args.self.now after c.in-Join.number c.put_replica.new.place c.self-in-Join.view_is c.self-in-Join.invariant h

pub adopt-requires : goal.adopt-requires
adopt-requires c =
    let h = adoption c.args.self.now c.requires.after c.args.change c.in-Adopt.config c.in-Adopt.replicas c.in-Adopt.is c.requires.is in
    record { new = h.new; bare = (_, h.state) }

pub returns-in-Adopt-clause-state : goal.returns-in-Adopt-clause-state
returns-in-Adopt-clause-state c = λ after is.
    let h = adoption c.args.self.now after c.args.change c.in-Adopt.config c.in-Adopt.replicas c.in-Adopt.is is in
    c.adopt.ensures.state ∙ sym h.state

pub returns-in-Slot-clause-rooms : goal.returns-in-Slot-clause-rooms
returns-in-Slot-clause-rooms c =
    let h : IsChangeOn c.args.self.now c.requires.after c.in-Slot.replica c.in-Slot.place c.in-Slot.change =
    planned c.args.self.now c.requires.after c.args.change c.in-Slot.replica c.in-Slot.place c.in-Slot.change c.in-Slot.is c.requires.is in
    slot_rooms c.args.change c.in-Slot.replica c.in-Slot.place c.in-Slot.change c.args.self.now _ _ c.in-Slot.is
    (ap (λ (v : ServerValue). v.rooms) c.self-in-Slot.view_is)
    (set_uses c.self-in-Slot.inside.replicas.items c.in-Slot.replica c.in-Slot.place c.index_mut-replica.result.now _
    (change_within c.self-in-Slot.inside c.args.self.now c.requires.after c.in-Slot.replica c.in-Slot.place c.in-Slot.change c.self-in-Slot.view_is h)
    c.index_mut-replica.ensures.value c.change_slot.ensures.rooms)

pub returns-in-Join-clause-rooms : goal.returns-in-Join-clause-rooms
returns-in-Join-clause-rooms c =
    join_rooms c.args.change c.in-Join.number c.in-Join.replica c.args.self.now _ _ c.in-Join.is (ap (λ (v : ServerValue). v.rooms) c.self-in-Join.view_is)
    (set_other c.self-in-Join.inside.replicas.items c.in-Join.number c.put_replica.new.place)

pub returns-in-Adopt-clause-rooms : goal.returns-in-Adopt-clause-rooms
returns-in-Adopt-clause-rooms c =
    adopt_rooms c.args.change c.in-Adopt.config c.in-Adopt.replicas c.args.self.now c.adopt.new.self c.in-Adopt.is c.adopt.ensures.rooms
