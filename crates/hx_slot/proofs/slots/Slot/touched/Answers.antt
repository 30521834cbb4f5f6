-- The last touch of the accepted updates, or else that of the base.
use Rattle.std.proofs.Common.{◌≡◌, ◌≤◌, List, ◌∙◌, ap, arith, subst, sym}
use Rattle.hx_model.specs.Types.{Touch}
use Rattle.hx_model.specs.Places.{touched_in}
use Rattle.hx_model.specs.Slots.{top_of, touches_of}
use Rattle.hx_slot.specs.declared.updates.AcceptedUpdate.{AcceptedUpdate}
use Rattle.hx_slot.specs.States.{SlotState}
use Rattle.hx_slot.specs.MarksAndTouches.{AscendByRegion, touched_over}
use Rattle.hx_slot.proofs.Lean.{touched-below, touched-seen}
use Rattle.hx_slot.proofs.slots.Slot.touched.Goals as goal

pub last_touch-requires : goal.last_touch-requires
last_touch-requires c = subst AscendByRegion (sym c.as_slice-2.ensures.value) c.self.invariant.base.regions_ascend

pub returns-clause-touched : goal.returns-clause-touched
returns-clause-touched c =
    let kept = subst (λ (s : SlotState). s.state.marks ≡ _) (sym c.self.view_is) c.requires in
    subst (λ (s : SlotState). c.last_touch.result.0 ≡ touched_in c.args.region (touches_of s.state)) c.self.view_is
    (
    c.last_touch.ensures
    ∙ ap (λ (ts : List AcceptedUpdate). touched_over c.args.region (touched_in c.args.region c.as_slice-2.result.now) ts) c.as_slice.ensures.value
    ∙ ap (λ (ts : List Touch). touched_over c.args.region (touched_in c.args.region ts) c.self.inside.accepted.items) c.as_slice-2.ensures.value
    ∙ touched-seen c.self.inside kept c.args.region
    )

pub returns-clause-below : goal.returns-clause-below
returns-clause-below c =
    let below = subst (λ (s : SlotState). touched_in c.args.region (touches_of s.state) ≤ top_of s.state)
    c.self.view_is (touched-below c.self.inside c.self.invariant c.args.region) in
    let is = returns-clause-touched c in
    omega (arith, is, below)
