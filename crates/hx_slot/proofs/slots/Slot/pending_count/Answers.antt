use Rattle.std.proofs.Common.{◌≡◌, ◌-◌, arith, length, subst}
use Rattle.hx_model.specs.Slots.{pending_of}
use Rattle.hx_slot.specs.States.{SlotState}
use Rattle.hx_slot.proofs.Lean.{count-seen}
use Rattle.hx_slot.proofs.slots.Slot.pending_count.Goals as goal

pub returns : goal.returns
returns c =
    let is = count-seen c.self.inside c.self.invariant in
    subst (λ (s : SlotState). c.len.result - c.self.inside.committed ≡ length (pending_of s.state)) c.self.view_is (omega (arith, is))
