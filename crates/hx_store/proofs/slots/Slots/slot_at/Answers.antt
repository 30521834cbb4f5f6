use Rattle.std.proofs.Common.{arith}
use Rattle.hx_store.proofs.SlotAt.{slot-seen, within-slots}
use Rattle.hx_store.proofs.slots.Slots.slot_at.Goals as goal

pub index-requires : goal.index-requires
index-requires c =
    let within = within-slots c.self.invariant c.self.view_is c.args.place c.requires in
    let ok = c.self.inside.slots.ok.0 in
    omega (arith, within, ok)

pub returns : goal.returns
returns c = slot-seen c.self.invariant c.self.view_is c.args.place c.requires c.index.ensures
