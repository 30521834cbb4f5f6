use Rattle.std.proofs.Common.{List, ap, subst, ◌∙◌}
use Rattle.hx_model.specs.Slots.{Forget, moved}
use Rattle.hx_slot.specs.declared.updates.AcceptedUpdate.{AcceptedUpdate}
use Rattle.hx_slot.specs.Acks.{AreSameUpdates}
use Rattle.hx_slot.specs.States.{SlotState}
use Rattle.hx_slot.proofs.Lean.{renewed-state}
use Rattle.hx_slot.proofs.Renewed.{renewed-slot}
use Rattle.hx_slot.proofs.slots.Slot.renewed.Goals as goal

pub invariant_of-result : goal.invariant_of-result
invariant_of-result c =
    let a = c.self.inside in
    renewed-slot a c.in_ok-copy.field-0 c.in_ok-renewed_base.field-0 c.in_ok-accepted.accepted c.new.result
    c.new-2.result c.self.invariant c.in_ok-copy.ensures c.in_ok-renewed_base.ensures
    (subst (λ (ts : List AcceptedUpdate). AreSameUpdates ts c.in_ok-accepted.accepted.items) c.as_slice-line.ensures.value c.in_ok-accepted.ensures.same)
    c.in_ok-accepted.ensures.forgotten
    c.new.ensures c.new-2.ensures.items c.new-2.ensures.len

pub returns-clause-state : goal.returns-clause-state
returns-clause-state c =
    renewed-state c.self.inside c.in_ok-copy.field-0 c.in_ok-renewed_base.field-0 c.in_ok-accepted.accepted
    c.new.result c.new-2.result c.in_ok-copy.ensures c.in_ok-renewed_base.ensures
    (subst (λ (ts : List AcceptedUpdate). AreSameUpdates ts c.in_ok-accepted.accepted.items) c.as_slice-line.ensures.value c.in_ok-accepted.ensures.same)
    c.new.ensures c.new-2.ensures.items
    ∙ ap (λ (s : SlotState). moved Forget s.state) c.self.view_is
