use Rattle.std.proofs.Common.{List, ◌∙◌, ap, drop}
use Rattle.std.specs.List.{list_any}
use Rattle.hx_model.specs.Slots.{is_pending}
use Rattle.hx_slot.specs.declared.updates.AcceptedUpdate.{AcceptedUpdate}
use Rattle.hx_slot.specs.Acks.{is_of_version}
use Rattle.hx_slot.specs.States.{SlotState}
use Rattle.hx_slot.proofs.Lean.{pending-version}
use Rattle.hx_slot.proofs.slots.Slot.is_pending.Goals as goal

pub returns : goal.returns
returns c =
    let a = c.self.inside in
    let rest = c.rest_of-pending.ensures ∙ ap (drop a.committed) c.as_slice.ensures.value in
    c.has_update.ensures ∙ ap (λ (ts : List AcceptedUpdate). list_any (is_of_version c.args.version.0) ts) rest
    ∙ pending-version a c.self.invariant c.args.version.0
    ∙ ap (λ (s : SlotState). is_pending c.args.version.0 s.state) c.self.view_is
