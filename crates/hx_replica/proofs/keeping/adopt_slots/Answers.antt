use Rattle.std.proofs.Common.{ap, arith, length, subst, sym, ◌∙◌}
use Rattle.hx_store.specs.Stores.{KeepsRooms}
use Rattle.hx_replica.specs.Adopting.{changed_at, lean_adopted}
use Rattle.hx_replica.specs.Outputs.{context_seen}
use Rattle.hx_replica.proofs.Kept.{all_changed, one_changed, upto_length}
use Rattle.hx_replica.proofs.Roomy.{kept_self, kept_twice}
use Rattle.hx_replica.proofs.keeping.adopt_slots.Goals as goal

pub adopt_slot-requires-clause-number : goal.adopt_slot-requires-clause-number
adopt_slot-requires-clause-number c =
    let n = ap length c.loop-i.invariant.states ∙ upto_length
    (lean_adopted (context_seen c.args.context.now) c.args.active) c.loop-i.i c.args.store.now.states in
    let count = c.len-i-end.ensures.count ∙ ap length c.sort_order.ensures.states in
    omega (arith, n, c.loop-i-test.true, count)

pub loop-i-init : goal.loop-i-init
loop-i-init c = record {
  region = c.sort_order.ensures.region;
  marks = c.sort_order.ensures.marks;
  states = c.sort_order.ensures.states;
  rooms = subst (KeepsRooms c.args.store.now.rooms) (sym c.sort_order.ensures.rooms) (kept_self c.args.store.now.rooms);
  ordered = c.sort_order.ensures.ordered;
}

pub loop-i-preserved : goal.loop-i-preserved
loop-i-preserved c = record {
  region = c.adopt_slot.ensures.region ∙ c.loop-i.invariant.region;
  marks = c.adopt_slot.ensures.marks ∙ c.loop-i.invariant.marks;
  states = c.adopt_slot.ensures.states ∙ ap (changed_at (lean_adopted (context_seen c.args.context.now) c.args.active) c.loop-i.i) c.loop-i.invariant.states
      ∙ one_changed (lean_adopted (context_seen c.args.context.now) c.args.active) c.loop-i.i c.args.store.now.states;
  rooms = kept_twice c.args.store.now.rooms c.loop-i.store.rooms c.adopt_slot.new.store.rooms c.loop-i.invariant.rooms c.adopt_slot.ensures.rooms;
  ordered = c.adopt_slot.ensures.ordered;
}

pub returns-clause-states : goal.returns-clause-states
returns-clause-states c =
    c.loop-i.invariant.states
    ∙ all_changed (lean_adopted (context_seen c.args.context.now) c.args.active) c.loop-i.i c.args.store.now.states
    (let e = c.len-i-end.ensures.count ∙ ap length c.sort_order.ensures.states in omega (arith, e, c.loop-i-test.false))
