use Rattle.std.proofs.Common.{arith, ◌≤◌, Option, subst, sym}
use Rattle.std.specs.Option.{IsSomeAnd}
use Rattle.hx_model.specs.Slots.{object_of}
use Rattle.hx_store.specs.Slots.{StoreSlot}
use Rattle.hx_store.specs.Stores.{no_moves}
use Rattle.hx_store.proofs.SlotAt.{moved-seen, put-same, put-seen, within-slots}
use Rattle.hx_store.proofs.Showing.{on_ok}
use Rattle.hx_store.proofs.slots.Slots.reserve_at.Goals as goal

pub index_mut-requires : goal.index_mut-requires
index_mut-requires c =
    let within = within-slots c.self.invariant c.self.view_is c.args.place c.requires in
    let ok = c.self.inside.slots.ok.0 in
    omega (arith, within, ok)

pub invariant_of-self : goal.invariant_of-self
invariant_of-self c =
    put-same c.self.invariant c.self.view_is c.args.place c.requires c.reserve.new.self c.index_mut.ensures.value
    (λ k. object_of (c.reserve.ensures.region k) (c.reserve.ensures.state k))

pub returns-clause-moved : goal.returns-clause-moved
returns-clause-moved c =
    moved-seen c.self.invariant c.self.view_is c.args.place c.requires no_moves 0 c.reserve.new.self c.index_mut.ensures.value
    c.reserve.ensures.state c.reserve.ensures.region (let l = c.reserve.ensures.spare in omega (arith, l))

pub returns-clause-room : goal.returns-clause-room
returns-clause-room c =
    let seen = put-seen c.self.invariant c.self.view_is c.args.place c.requires c.reserve.new.self in
    on_ok c.reserve.result (λ l. subst (λ (o : Option StoreSlot). IsSomeAnd o (λ (s : StoreSlot). c.args.n ≤ s.slot.spare)) (sym seen) l)
    c.reserve.ensures.room
