use Rattle.std.proofs.Common.{◌≡◌, List, ◌∙◌, ap, subst, take}
use Rattle.std.specs.Option.{option_copied}
use Rattle.hx_model.specs.Slots.{object_of}
use Rattle.hx_slot.specs.declared.updates.AcceptedUpdate.{AcceptedUpdate}
use Rattle.hx_slot.specs.Updates.{row_over, row_seen}
use Rattle.hx_slot.specs.States.{SlotState}
use Rattle.hx_slot.proofs.Lean.{object-seen}
use Rattle.hx_slot.proofs.slots.Slot.row.Goals as goal

pub returns : goal.returns
returns c =
    let row =
    c.row_over.ensures
    ∙ ap (λ (ts : List AcceptedUpdate). row_over (option_copied c.as_ref.result) (take c.self.inside.committed ts)) c.deref.ensures.value
    ∙ ap (λ o. row_over o (take c.self.inside.committed c.self.inside.accepted.items)) c.as_ref.ensures.value
    in
    subst (λ (s : SlotState). row_seen c.row_over.result ≡ object_of s.region s.state) c.self.view_is (row ∙ object-seen c.self.inside c.self.invariant)
