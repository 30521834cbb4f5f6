-- The lowest committed update leaves the list for the base, and nothing is seen of it.
use Rattle.std.proofs.Common.{◌≡◌, ◌-◌, suc, arith, drop}
use Rattle.hx_slot.proofs.Committing.{committed-seen, committed-slot, front}
use Rattle.hx_slot.proofs.slots.Slot.fold_lowest.Goals as goal

pub invariant_of-self-2 : goal.invariant_of-self-2
invariant_of-self-2 c =
    let a = c.self.inside in
    let within = c.self.invariant.line.within in
    let some = c.if-self-eq0.false in
    let is = front a.accepted.items c.index.result.now (omega (arith, within, some)) c.index.ensures in
    let count : a.committed ≡ suc (a.committed - 1) = omega (arith, some) in
    committed-slot a c.self.invariant c.fold.new.self c.index.result.now (drop 1 a.accepted.items) c.remove.new.self
    (a.committed - 1) is count c.in-Ok.ensures.folded c.remove.ensures.items c.remove.ensures.len c.remove.ensures.capacity

pub returns : goal.returns
returns c =
    let a = c.self.inside in
    let within = c.self.invariant.line.within in
    let some = c.if-self-eq0.false in
    let is = front a.accepted.items c.index.result.now (omega (arith, within, some)) c.index.ensures in
    let count : a.committed ≡ suc (a.committed - 1) = omega (arith, some) in
    committed-seen a c.self.invariant c.fold.new.self c.index.result.now (drop 1 a.accepted.items) c.remove.new.self
    (a.committed - 1) is count c.in-Ok.ensures.folded c.remove.ensures.items c.remove.ensures.len
    c.remove.ensures.capacity c.args.self.now c.self.view_is
