use Rattle.std.proofs.Common.{List, Option, ◌∙◌, ap, slice_get, subst, sym}
use Rattle.std.specs.Option.{IfSome, option_copied}
use Rattle.hx_model.specs.Types.{Update}
use Rattle.hx_slot.specs.declared.updates.PlacedUpdate.{PlacedUpdate}
use Rattle.hx_slot.specs.Invariant.{updates_of}
use Rattle.hx_slot.specs.States.{HasFewPlaces, IsPlacedIn, SlotState}
use Rattle.hx_slot.proofs.Newest.{if_at}
use Rattle.hx_slot.proofs.Turns.{few-held, places-held}
use Rattle.hx_slot.proofs.slots.Slot.early.Goals as goal

pub returns-clause-place : goal.returns-clause-place
returns-clause-place c =
    let a = c.self.inside in
    let at = c.early_at.ensures ∙ ap (λ (ps : List PlacedUpdate). slice_get (updates_of ps) c.args.i) c.as_slice.ensures.value in
    subst (λ (s : SlotState). IfSome (option_copied c.early_at.result) (IsPlacedIn s.region)) c.self.view_is
    (subst (λ (o : Option Update). IfSome o (IsPlacedIn a.region)) (sym at)
    (if_at (IsPlacedIn a.region) (updates_of a.early.items) c.args.i
    (places-held a.region a.early.items c.self.invariant.early)))

pub returns-clause-few : goal.returns-clause-few
returns-clause-few c =
    let a = c.self.inside in
    let at = c.early_at.ensures ∙ ap (λ (ps : List PlacedUpdate). slice_get (updates_of ps) c.args.i) c.as_slice.ensures.value in
    subst (λ (o : Option Update). IfSome o HasFewPlaces) (sym at)
    (if_at HasFewPlaces (updates_of a.early.items) c.args.i (few-held a.region a.early.items c.self.invariant.early))
