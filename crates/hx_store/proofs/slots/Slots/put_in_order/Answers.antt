use Rattle.hx_store.proofs.slots.Slots.put_in_order.Goals as goal

pub sort_by_keys-requires-clause-within : goal.sort_by_keys-requires-clause-within
sort_by_keys-requires-clause-within c = λ i t. c.requires.order.within i (c.requires.order.all i t)
