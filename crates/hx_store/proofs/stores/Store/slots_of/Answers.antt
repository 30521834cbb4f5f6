use Rattle.std.proofs.Common.{◌≡◌, List, Some, ap, refl, slice_get, subst, sym, ◌∙◌}
use Rattle.std.specs.List.{AllByRecursion}
use Rattle.std.proofs.lemmas.Option.{slice_get-get_or}
use Rattle.hx_model.specs.Types.{Kept}
use Rattle.hx_model.specs.ServerSteps.{state_from}
use Rattle.hx_store.specs.Stores.{IsReady, StoreState, states_of}
use Rattle.hx_store.proofs.Installing.{kept-ready, made-next, ready-kept, ready-push}
use Rattle.hx_store.proofs.Showing.{keeps-same, keeps-trans}
use Rattle.hx_store.proofs.stores.Store.slots_of.Goals as goal

pub loop-kept-init : goal.loop-kept-init
loop-kept-init c = record {
  region = refl;
  marks = refl;
  attributes = refl;
  states = refl;
  rooms = keeps-same c.args.self.now.rooms c.args.self.now.rooms refl;
  made = ap states_of c.new-slots.ensures.items;
  ready = subst (AllByRecursion (IsReady c.args.self.now)) (sym c.new-slots.ensures.items) tt;
}

pub returns-in_err-give_place-clause-rooms : goal.returns-in_err-give_place-clause-rooms
returns-in_err-give_place-clause-rooms c =
    let before = c.loop-kept in
    keeps-trans c.args.self.now.rooms before.self.rooms c.give_place.new.self.rooms before.invariant.rooms c.give_place.ensures.rooms

pub returns-in_err-copy-clause-rooms : goal.returns-in_err-copy-clause-rooms
returns-in_err-copy-clause-rooms c =
    let before = c.loop-kept in
    keeps-trans c.args.self.now.rooms before.self.rooms c.give_place.new.self.rooms before.invariant.rooms c.give_place.ensures.rooms

pub returns-in_err-push_back-clause-rooms : goal.returns-in_err-push_back-clause-rooms
returns-in_err-push_back-clause-rooms c =
    let before = c.loop-kept in
    keeps-trans c.args.self.now.rooms before.self.rooms c.give_place.new.self.rooms before.invariant.rooms c.give_place.ensures.rooms

pub loop-kept-preserved : goal.loop-kept-preserved
loop-kept-preserved c =
    let k = c.kept-item.result in
    let before = c.loop-kept.self in
    let now = c.give_place.new.self in
    let marks = c.give_place.ensures.marks ∙ c.loop-kept.invariant.marks in
    let items = c.as_slice-kept-items.result.now in
    let at : slice_get c.args.snapshot.now c.loop-kept.kept-index ≡ Some k =
    subst (λ (xs : List Kept). slice_get xs c.loop-kept.kept-index ≡ Some k) c.as_slice-kept-items.ensures
    (slice_get-get_or items c.loop-kept.kept-index k c.loop-kept-test.true ∙ ap (λ (x : Kept). Some x) (sym c.kept-item.is))
    in
    let kind = ap (λ (s : StoreState). s.keeps_marks) c.self.view_is in
    let x = c.of_kept-slot.result in
    let state : x.state ≡ state_from c.args.self.now.keeps_marks k =
    c.of_kept-slot.ensures.state ∙ (λ j. state_from ((kind ∙ marks) j) (c.in_ok-copy.ensures j)) in
    let region = c.of_kept-slot.ensures.region ∙ ap (λ (s : StoreState). s.region) c.self.view_is in
    let given = c.give_place.ensures in
    let pushed = c.in_ok-push_back.ensures.items in
    let kept = ready-kept before now c.loop-kept.slots.items given.region given.marks given.rooms c.loop-kept.invariant.ready in
    let own = kept-ready now c.args.self.now.keeps_marks k x _ region (sym marks) state c.in_ok-give_place.ensures.place in
    let ready = ready-push now c.loop-kept.slots.items x kept own in
    let made =
    made-next c.args.self.now.keeps_marks c.args.snapshot.now c.loop-kept.kept-index k c.loop-kept.slots.items x at c.loop-kept.invariant.made state
    in
    record {
      region = c.give_place.ensures.region ∙ c.loop-kept.invariant.region;
      marks = marks;
      attributes = c.give_place.ensures.attributes ∙ c.loop-kept.invariant.attributes;
      states = c.give_place.ensures.states ∙ c.loop-kept.invariant.states;
      rooms = keeps-trans c.args.self.now.rooms before.rooms now.rooms c.loop-kept.invariant.rooms c.give_place.ensures.rooms;
      made = ap states_of pushed ∙ made;
      ready = subst (AllByRecursion (IsReady now)) (sym pushed) ready;
    }
