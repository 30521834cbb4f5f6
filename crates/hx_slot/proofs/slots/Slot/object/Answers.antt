use Rattle.std.proofs.Common.{◌≡◌, List, ◌∙◌, ap, subst, take}
use Rattle.std.specs.Option.{option_copied}
use Rattle.hx_model.specs.Slots.{object_of}
use Rattle.hx_slot.specs.declared.updates.AcceptedUpdate.{AcceptedUpdate}
use Rattle.hx_slot.specs.Updates.{row_over}
use Rattle.hx_slot.specs.States.{SlotState, object_at, object_seen}
use Rattle.hx_slot.proofs.Lean.{object-seen}
use Rattle.hx_slot.proofs.slots.Slot.object.Goals as goal

pub returns : goal.returns
returns c =
    let row =
    c.row_over.ensures
    ∙ ap (λ (ts : List AcceptedUpdate). row_over (option_copied c.as_ref.result) (take c.self.inside.committed ts)) c.deref.ensures.value
    ∙ ap (λ o. row_over o (take c.self.inside.committed c.self.inside.accepted.items)) c.as_ref.ensures.value
    in
    let is = c.version_and_object.ensures ∙ ap object_at (row ∙ object-seen c.self.inside c.self.invariant) in
    record { object = subst (λ (s : SlotState). object_seen c.version_and_object.result ≡ object_at (object_of s.region s.state)) c.self.view_is is }
