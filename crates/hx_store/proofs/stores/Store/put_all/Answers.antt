use Rattle.std.proofs.Common.{◌≡◌, List, ◌++◌, true, ap, refl, subst, sym, ◌∙◌}
use Rattle.std.specs.List.{AllByRecursion}
use Rattle.hx_model.specs.Slots.{KeyState}
use Rattle.hx_slot.specs.States.{SlotState}
use Rattle.hx_store.specs.Stores.{IsReady, is_key_of, states_of}
use Rattle.hx_store.proofs.Installing.{but-next, but-same, each-own, put-next, ready-others}
use Rattle.hx_store.proofs.stores.Store.put_all.Goals as goal

pub places-init : goal.places-init
places-init c = record {
  region = refl;
  marks = refl;
  attributes = refl;
  states = ap (λ (l : List KeyState). l ++ states_of c.args.slots.items) c.requires.empty;
  ready = c.requires.ready;
  keys = each-own c.args.slots.items;
  others = but-same (is_key_of c.args.slots.items) c.args.self.now.rooms;
}

pub put_ready-requires : goal.put_ready-requires
put_ready-requires c = (subst (AllByRecursion (IsReady c.places.self)) c.in-Some.ensures.items c.places.invariant.ready).0

pub places-preserved : goal.places-preserved
places-preserved c =
    let x = c.in-Some.slot in
    let left = c.pop_front.new.self.items in
    let before = c.places.self in
    let now = c.put_ready.new.self in
    let inv = c.places.invariant in
    let ready = subst (AllByRecursion (IsReady before)) c.in-Some.ensures.items inv.ready in
    let keys = subst (AllByRecursion (λ (y : SlotState). is_key_of c.args.slots.items y.state.base.key ≡ true)) c.in-Some.ensures.items inv.keys in
    let all = states_of c.args.slots.items in
    let free = is_key_of c.args.slots.items in
    let states = ap (λ (xs : List SlotState). before.states ++ states_of xs) (sym c.in-Some.ensures.items) ∙ inv.states in
    record {
      region = c.put_ready.ensures.region ∙ inv.region;
      marks = c.put_ready.ensures.marks ∙ inv.marks;
      attributes = c.put_ready.ensures.attributes ∙ inv.attributes;
      states = put-next all before.states now.states (states_of left) x.state c.requires.ascend states c.put_ready.ensures.states;
      ready = ready-others before now x.state.base.key left c.put_ready.ensures.region c.put_ready.ensures.marks c.put_ready.ensures.others ready.1;
      keys = keys.1;
      others = but-next free x.state.base.key c.args.self.now.rooms before.rooms now.rooms keys.0 inv.others c.put_ready.ensures.others;
    }
