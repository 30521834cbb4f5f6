-- What is pending stands after the committed updates.
use Rattle.std.proofs.Common.{◌≡◌, ◌<◌, ◌≤◌, List, Option, ◌∙◌, ap, drop, map, slice_get, subst, sym}
use Rattle.std.specs.Option.{IfSome, option_copied}
use Rattle.hx_model.specs.Types.{Update}
use Rattle.hx_model.specs.Slots.{pending_of, top_of}
use Rattle.hx_slot.specs.declared.updates.AcceptedUpdate.{AcceptedUpdate}
use Rattle.hx_slot.specs.Invariant.{seen}
use Rattle.hx_slot.specs.States.{HasFewPlaces, IsPlacedIn, SlotState}
use Rattle.hx_slot.proofs.Lean.{pending-seen, versions-seen}
use Rattle.hx_slot.proofs.Newest.{if_at, update_of}
use Rattle.hx_slot.proofs.Reading.{few-seen, places-seen}
use Rattle.hx_slot.proofs.slots.Slot.pending.Goals as goal

pub returns-clause-pending : goal.returns-clause-pending
returns-clause-pending c =
    let rest = c.rest_of-pending.ensures ∙ ap (drop c.self.inside.committed) c.as_slice.ensures.value in
    let at = c.update_at.ensures ∙ ap (λ (ts : List AcceptedUpdate). slice_get (map update_of ts) c.args.i) rest in
    subst (λ (s : SlotState). option_copied c.update_at.result ≡ slice_get (pending_of s.state) c.args.i) c.self.view_is
    (at ∙ ap (λ (us : List Update). slice_get us c.args.i) (pending-seen c.self.inside c.self.invariant))

pub returns-clause-version : goal.returns-clause-version
returns-clause-version c =
    let rest = c.rest_of-pending.ensures ∙ ap (drop c.self.inside.committed) c.as_slice.ensures.value in
    let at = c.update_at.ensures ∙ ap (λ (ts : List AcceptedUpdate). slice_get (map update_of ts) c.args.i) rest in
    subst (λ (s : SlotState). IfSome (option_copied c.update_at.result)
    (λ (u : Update). (s.state.floor < u.version.0) × (u.version.0 ≤ top_of s.state))) c.self.view_is
    (
    subst (λ (o : Option Update). IfSome o (λ (u : Update). (c.self.inside.floor.0 < u.version.0) × (u.version.0 ≤ top_of (seen c.self.inside).state))) (sym at)
    (if_at _ _ c.args.i (versions-seen c.self.inside c.self.invariant))
    )

pub returns-clause-place : goal.returns-clause-place
returns-clause-place c =
    let rest = c.rest_of-pending.ensures ∙ ap (drop c.self.inside.committed) c.as_slice.ensures.value in
    let at = c.update_at.ensures ∙ ap (λ (ts : List AcceptedUpdate). slice_get (map update_of ts) c.args.i) rest in
    subst (λ (s : SlotState). IfSome (option_copied c.update_at.result) (IsPlacedIn s.region)) c.self.view_is
    (subst (λ (o : Option Update). IfSome o (IsPlacedIn c.self.inside.region)) (sym at)
    (if_at (IsPlacedIn c.self.inside.region) _ c.args.i (places-seen c.self.inside c.self.invariant)))

pub returns-clause-few : goal.returns-clause-few
returns-clause-few c =
    let rest = c.rest_of-pending.ensures ∙ ap (drop c.self.inside.committed) c.as_slice.ensures.value in
    let at = c.update_at.ensures ∙ ap (λ (ts : List AcceptedUpdate). slice_get (map update_of ts) c.args.i) rest in
    subst (λ (o : Option Update). IfSome o HasFewPlaces) (sym at) (if_at HasFewPlaces _ c.args.i (few-seen c.self.inside c.self.invariant))
