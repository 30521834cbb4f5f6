use Rattle.hx_store.proofs.Ordering.{each-within}
use Rattle.hx_store.proofs.stores.Store.sort_order.Goals as goal

pub sort_places-requires-clause-within : goal.sort_places-requires-clause-within
sort_places-requires-clause-within c = each-within c.self.invariant

pub insert_places-requires-clause-within : goal.insert_places-requires-clause-within
insert_places-requires-clause-within c = each-within c.self.invariant
