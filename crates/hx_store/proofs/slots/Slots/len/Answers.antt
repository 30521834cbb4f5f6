use Rattle.std.proofs.Common.{arith}
use Rattle.hx_store.proofs.SlotAt.{count-is}
use Rattle.hx_store.proofs.slots.Slots.len.Goals as goal

pub returns : goal.returns
returns c =
    let len = c.len.ensures in
    let ok = c.self.inside.slots.ok.0 in
    let count = count-is c.self.invariant c.self.view_is in
    omega (arith, len, ok, count)
