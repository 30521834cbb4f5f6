use Rattle.std.proofs.Common.{◌≡◌, ◌≤◌, ℕ, ◌∙◌, ap, arith, subst, sym}
use Rattle.std.specs.List.{All}
use Rattle.hx_model.specs.Types.{Touch}
use Rattle.hx_model.specs.Slots.{top_of, touches_of}
use Rattle.hx_slot.specs.Updates.{last_version}
use Rattle.hx_slot.specs.Invariant.{seen}
use Rattle.hx_slot.specs.States.{SlotState}
use Rattle.hx_slot.proofs.Lean.{floor-seen, top-seen, touches-below}
use Rattle.hx_slot.proofs.slots.Slot.top.Goals as goal

pub returns-clause-top : goal.returns-clause-top
returns-clause-top c =
    let base = c.self.inside.base.floor.0 in
    let is = c.last_version.ensures ∙ ap (last_version base) c.as_slice.ensures.value ∙ top-seen c.self.inside c.self.invariant in
    subst (λ (s : SlotState). c.last_version.result.0 ≡ top_of s.state) c.self.view_is is

pub returns-clause-above : goal.returns-clause-above
returns-clause-above c =
    let base = c.self.inside.base.floor.0 in
    let is = c.last_version.ensures ∙ ap (last_version base) c.as_slice.ensures.value ∙ top-seen c.self.inside c.self.invariant in
    let below = floor-seen c.self.inside c.self.invariant in
    subst (λ (s : SlotState). s.state.floor ≤ c.last_version.result.0) c.self.view_is (omega (arith, is, below))

pub returns-clause-touches : goal.returns-clause-touches
returns-clause-touches c =
    let base = c.self.inside.base.floor.0 in
    let is = c.last_version.ensures ∙ ap (last_version base) c.as_slice.ensures.value ∙ top-seen c.self.inside c.self.invariant in
    subst (λ (s : SlotState). All (λ (t : Touch). t.version.0 ≤ c.last_version.result.0) (touches_of s.state)) c.self.view_is
    (
    subst (λ (n : ℕ). All (λ (t : Touch). t.version.0 ≤ n) (touches_of (seen c.self.inside).state)) (sym is)
    (touches-below c.self.inside c.self.invariant)
    )
