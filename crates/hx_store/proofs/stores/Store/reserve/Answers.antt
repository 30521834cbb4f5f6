use Rattle.hx_store.proofs.Showing.{keeps-trans, place-kept}
use Rattle.hx_store.proofs.stores.Store.reserve.Goals as goal

pub returns-in_err-widen-clause-rooms : goal.returns-in_err-widen-clause-rooms
returns-in_err-widen-clause-rooms c =
    let given = c.give_place.new.self in
    keeps-trans c.args.self.now.rooms given.rooms c.widen.new.self.rooms c.give_place.ensures.rooms c.widen.ensures.rooms

pub returns-clause-rooms : goal.returns-clause-rooms
returns-clause-rooms c =
    let given = c.give_place.new.self in
    keeps-trans c.args.self.now.rooms given.rooms c.widen.new.self.rooms c.give_place.ensures.rooms c.widen.ensures.rooms

pub returns-clause-place : goal.returns-clause-place
returns-clause-place c = place-kept c.give_place.new.self c.widen.new.self c.in_ok-place.place c.args.key.now c.widen.ensures.rooms c.in_ok-place.ensures.place
