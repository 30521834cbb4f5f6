use Rattle.hx_store.proofs.Showing.{some-none, some-place}
use Rattle.hx_store.proofs.stores.Store.place_of.Goals as goal

pub returns-clause-some : goal.returns-clause-some
returns-clause-some c =
    let found = c.place_of.ensures in
    some-place c.self.invariant.store c.self.view_is c.args.key.now c.place_of.result found.within found.key

pub returns-clause-none : goal.returns-clause-none
returns-clause-none c = some-none c.self.invariant.store c.self.view_is c.args.key.now c.place_of.result c.place_of.ensures.none
