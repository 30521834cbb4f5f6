use Rattle.std.proofs.Common.{arith, ◌≡◌, true}
use Rattle.hx_model.specs.Slots.{is_pending, object_of}
use Rattle.hx_store.specs.Slots.{StoreSlot}
use Rattle.hx_store.specs.Stores.{marked_at}
use Rattle.hx_store.proofs.SlotAt.{holds-of, moved-seen, put-same, stored-within, within-slots}
use Rattle.hx_store.proofs.slots.Slots.mark_at.Goals as goal

pub index_mut-requires : goal.index_mut-requires
index_mut-requires c =
    let there = stored-within c.args.self.now.entries c.args.place (λ (s : StoreSlot). is_pending c.args.version.0 s.slot.state ≡ true) c.requires in
    let within = within-slots c.self.invariant c.self.view_is c.args.place there in
    let ok = c.self.inside.slots.ok.0 in
    omega (arith, within, ok)

pub invariant_of-self : goal.invariant_of-self
invariant_of-self c =
    let there = stored-within c.args.self.now.entries c.args.place (λ (s : StoreSlot). is_pending c.args.version.0 s.slot.state ≡ true) c.requires in
    put-same c.self.invariant c.self.view_is c.args.place there c.acknowledge.new.self c.index_mut.ensures.value
    (λ k. object_of (c.acknowledge.ensures.region k) (c.acknowledge.ensures.state k))

pub returns-clause-moved : goal.returns-clause-moved
returns-clause-moved c =
    let there = stored-within c.args.self.now.entries c.args.place (λ (s : StoreSlot). is_pending c.args.version.0 s.slot.state ≡ true) c.requires in
    moved-seen c.self.invariant c.self.view_is c.args.place there (marked_at c.args.version.0) 0 c.acknowledge.new.self c.index_mut.ensures.value
    c.acknowledge.ensures.state c.acknowledge.ensures.region (let l = c.acknowledge.ensures.spare in omega (arith, l))

pub acknowledge-requires : goal.acknowledge-requires
acknowledge-requires c =
    let pending : StoreSlot → Type 0 = λ s. is_pending c.args.version.0 s.slot.state ≡ true in
    let there = stored-within c.args.self.now.entries c.args.place pending c.requires in
    record { pending = holds-of c.self.invariant c.self.view_is c.args.place there pending c.requires c.index_mut.ensures.value }
