use Rattle.std.proofs.Common.{◌∙◌, ap}
use Rattle.hx_model.specs.Slots.{Forget, moved}
use Rattle.hx_slot.specs.States.{SlotState}
use Rattle.hx_slot.proofs.Lean.{forgotten-state}
use Rattle.hx_slot.proofs.Settling.{forgotten-slot}
use Rattle.hx_slot.proofs.Standing.{stands-reset}
use Rattle.hx_slot.proofs.slots.Slot.reset_acks.Goals as goal

pub invariant_of-self : goal.invariant_of-self
invariant_of-self c =
    let f = c.forget_acks.ensures in
    let early = c.clear.ensures in
    forgotten-slot c.self.inside c.forget_acks.new.accepted c.new-self-inside.result c.clear.new.self c.self.invariant
    f.same f.forgotten f.len f.capacity c.new-self-inside.ensures early.items early.len early.capacity

pub returns-clause-state : goal.returns-clause-state
returns-clause-state c =
    forgotten-state c.self.inside c.forget_acks.new.accepted c.new-self-inside.result c.clear.new.self
    c.forget_acks.ensures.same c.new-self-inside.ensures c.clear.ensures.items
    ∙ ap (λ (s : SlotState). moved Forget s.state) c.self.view_is

pub returns-clause-stands : goal.returns-clause-stands
returns-clause-stands c = λ s h. stands-reset c.args.self.now.region _ c.args.self.now.state _ s
    (returns-clause-state c) (ap (λ (x : SlotState). x.region) c.self.view_is) h
