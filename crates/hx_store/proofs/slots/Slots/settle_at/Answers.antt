use Rattle.std.proofs.Common.{ap, arith, length, ◌∙◌}
use Rattle.hx_index.specs.Orders.{IndexState}
use Rattle.hx_store.specs.Slots.{SlotsState}
use Rattle.hx_store.specs.Stores.{settled_at}
use Rattle.hx_store.proofs.SlotAt.{moved-seen, put-stale, within-slots}
use Rattle.hx_store.proofs.slots.Slots.settle_at.Goals as goal

pub index_mut-requires : goal.index_mut-requires
index_mut-requires c =
    let within = within-slots c.self.invariant c.self.view_is c.args.place c.requires in
    let ok = c.self.inside.slots.ok.0 in
    omega (arith, within, ok)

pub invariant_of-self : goal.invariant_of-self
invariant_of-self c =
    put-stale c.self.invariant c.self.view_is c.args.place c.requires c.settle.new.self c.mark_stale.new.self c.mark_stale.ensures.rows
    c.mark_stale.ensures.stale

pub returns-clause-moved : goal.returns-clause-moved
returns-clause-moved c =
    moved-seen c.self.invariant c.self.view_is c.args.place c.requires settled_at 0 c.settle.new.self
    c.index_mut.ensures.value c.settle.ensures.state c.settle.ensures.region (let l = c.settle.ensures.spare in omega (arith, l))

pub returns-clause-attributes : goal.returns-clause-attributes
returns-clause-attributes c =
    ap (λ (x : IndexState). length x.orders) c.mark_stale.ensures.index ∙ ap (λ (s : SlotsState). length s.index.orders) c.self.view_is
