use Rattle.std.proofs.Common.{arith}
use Rattle.hx_model.specs.Slots.{object_of}
use Rattle.hx_store.specs.Stores.{forgotten_at}
use Rattle.hx_store.proofs.SlotAt.{moved-seen, put-same, within-slots}
use Rattle.hx_store.proofs.slots.Slots.reset_at.Goals as goal

pub index_mut-requires : goal.index_mut-requires
index_mut-requires c =
    let within = within-slots c.self.invariant c.self.view_is c.args.place c.requires in
    let ok = c.self.inside.slots.ok.0 in
    omega (arith, within, ok)

pub invariant_of-self : goal.invariant_of-self
invariant_of-self c =
    put-same c.self.invariant c.self.view_is c.args.place c.requires c.reset_acks.new.self c.index_mut.ensures.value
    (λ k. object_of (c.reset_acks.ensures.region k) (c.reset_acks.ensures.state k))

pub returns-clause-moved : goal.returns-clause-moved
returns-clause-moved c =
    moved-seen c.self.invariant c.self.view_is c.args.place c.requires forgotten_at 0 c.reset_acks.new.self c.index_mut.ensures.value
    c.reset_acks.ensures.state c.reset_acks.ensures.region (let l = c.reset_acks.ensures.spare in omega (arith, l))
