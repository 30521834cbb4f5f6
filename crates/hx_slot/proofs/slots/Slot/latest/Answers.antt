use Rattle.std.proofs.Common.{◌≡◌, ◌∙◌, ap, subst}
use Rattle.std.specs.Option.{option_copied}
use Rattle.hx_model.specs.Slots.{latest_of, object_in}
use Rattle.hx_slot.specs.Updates.{row_over}
use Rattle.hx_slot.specs.States.{SlotState}
use Rattle.hx_slot.proofs.Lean.{latest-seen}
use Rattle.hx_slot.proofs.slots.Slot.latest.Goals as goal

pub returns : goal.returns
returns c =
    let row = c.row_over.ensures ∙ ap (row_over (option_copied c.as_ref.result)) c.as_slice.ensures.value
    ∙ ap (λ o. row_over o c.self.inside.accepted.items) c.as_ref.ensures.value in
    subst (λ (s : SlotState). option_copied c.only_object.result ≡ latest_of s.region s.state) c.self.view_is
    (c.only_object.ensures ∙ ap object_in row ∙ latest-seen c.self.inside c.self.invariant)
