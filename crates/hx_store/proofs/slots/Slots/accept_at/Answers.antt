use Rattle.std.proofs.Common.{◌<◌, ap, arith, length, ◌∙◌}
use Rattle.hx_model.specs.Slots.{moved_all, offered}
use Rattle.hx_index.specs.Orders.{IndexState}
use Rattle.hx_store.specs.Slots.{SlotsState, StoreSlot}
use Rattle.hx_store.specs.Stores.{ArePending, CanBeOffered, accepted_at}
use Rattle.hx_store.proofs.SlotAt.{holds-of, moved-seen, put-stale, stored-within, within-slots}
use Rattle.hx_store.proofs.slots.Slots.accept_at.Goals as goal

pub index_mut-requires : goal.index_mut-requires
index_mut-requires c =
    let there = stored-within c.args.self.now.entries c.args.place (λ (s : StoreSlot). 0 < s.slot.spare) c.requires.room in
    let within = within-slots c.self.invariant c.self.view_is c.args.place there in
    let ok = c.self.inside.slots.ok.0 in
    omega (arith, within, ok)

pub accept-requires-clause-room : goal.accept-requires-clause-room
accept-requires-clause-room c =
    let there = stored-within c.args.self.now.entries c.args.place (λ (s : StoreSlot). 0 < s.slot.spare) c.requires.room in
    holds-of c.self.invariant c.self.view_is c.args.place there (λ (s : StoreSlot). 0 < s.slot.spare) c.requires.room c.index_mut.ensures.value

pub accept-requires-clause-offer : goal.accept-requires-clause-offer
accept-requires-clause-offer c =
    let there = stored-within c.args.self.now.entries c.args.place (λ (s : StoreSlot). 0 < s.slot.spare) c.requires.room in
    holds-of c.self.invariant c.self.view_is c.args.place there (λ (s : StoreSlot). CanBeOffered s.slot.region c.args.update c.args.number)
    c.requires.offer c.index_mut.ensures.value

pub accept-requires-clause-pending : goal.accept-requires-clause-pending
accept-requires-clause-pending c =
    let there = stored-within c.args.self.now.entries c.args.place (λ (s : StoreSlot). 0 < s.slot.spare) c.requires.room in
    holds-of c.self.invariant c.self.view_is c.args.place there
    (λ (s : StoreSlot). ArePending (moved_all (offered s.slot.region s.slot.state c.args.update) s.slot.state) c.args.ends.now)
    c.requires.pending c.index_mut.ensures.value

pub invariant_of-self : goal.invariant_of-self
invariant_of-self c =
    let there = stored-within c.args.self.now.entries c.args.place (λ (s : StoreSlot). 0 < s.slot.spare) c.requires.room in
    put-stale c.self.invariant c.self.view_is c.args.place there c.accept.new.slot c.mark_stale.new.self c.mark_stale.ensures.rows
    c.mark_stale.ensures.stale

pub returns-clause-moved : goal.returns-clause-moved
returns-clause-moved c =
    let there = stored-within c.args.self.now.entries c.args.place (λ (s : StoreSlot). 0 < s.slot.spare) c.requires.room in
    moved-seen c.self.invariant c.self.view_is c.args.place there (accepted_at c.args.update c.args.ends.now) 1 c.accept.new.slot
    c.index_mut.ensures.value c.accept.ensures.state c.accept.ensures.region c.accept.ensures.spare

pub returns-clause-attributes : goal.returns-clause-attributes
returns-clause-attributes c =
    ap (λ (x : IndexState). length x.orders) c.mark_stale.ensures.index ∙ ap (λ (s : SlotsState). length s.index.orders) c.self.view_is
