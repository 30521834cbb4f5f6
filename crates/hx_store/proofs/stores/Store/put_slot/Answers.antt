use Rattle.std.proofs.Common.{sym, subst, ◌∙◌}
use Rattle.hx_store.specs.Stores.{IsPlace}
use Rattle.hx_store.proofs.Installing.{place-has}
use Rattle.hx_store.proofs.Showing.{kept-others, others-kept}
use Rattle.hx_store.proofs.stores.Store.put_slot.Goals as goal

pub put_ready-requires : goal.put_ready-requires
put_ready-requires c = record {
  region = c.requires.region ∙ sym c.give_place.ensures.region;
  marks = c.requires.marks ∙ sym c.give_place.ensures.marks;
  place = place-has c.give_place.new.self _ c.args.slot.state.base.key (subst (IsPlace c.give_place.new.self _) c.key.ensures c.in_ok-give_place.ensures.place);
}

pub returns-in_err-give_place-clause-others : goal.returns-in_err-give_place-clause-others
returns-in_err-give_place-clause-others c = kept-others c.args.slot.state.base.key c.args.self.now.rooms c.give_place.new.self.rooms c.give_place.ensures.rooms

pub returns-clause-others : goal.returns-clause-others
returns-clause-others c =
    let key = c.args.slot.state.base.key in
    let given = c.give_place.new.self in
    others-kept key c.args.self.now.rooms given.rooms c.put_ready.new.self.rooms c.give_place.ensures.rooms c.put_ready.ensures.others
