-- Each part of the committed state is made of the committed updates.
use Rattle.std.proofs.Common.{◌≡◌, List, Some, ◌∙◌, ap, subst, sym, take}
use Rattle.std.specs.Option.{option_copied}
use Rattle.hx_model.specs.Types.{Kept}
use Rattle.hx_types.specs.Words.{provided}
use Rattle.hx_model.specs.Slots.{kept_of}
use Rattle.hx_slot.specs.declared.updates.AcceptedUpdate.{AcceptedUpdate}
use Rattle.hx_slot.specs.Updates.{row_over}
use Rattle.hx_slot.specs.Invariant.{seen}
use Rattle.hx_slot.specs.States.{IsOrderly, SlotState, committed_state}
use Rattle.hx_slot.specs.MarksAndTouches.{marks_over, touches_over}
use Rattle.hx_slot.proofs.Lean.{kept-orderly, marks-seen, object-seen, touches-seen}
use Rattle.hx_slot.proofs.Carrying.{committed-state}
use Rattle.hx_slot.proofs.slots.Slot.kept.Goals as goal

made : (c : goal.In_ok-touches_over) → record {
  key = c.in_ok-copy.field-0;
  floor = c.self.inside.floor;
  object = c.in_ok-copy_row.field-0;
  marks = c.in_ok-marks_over.field-0;
  touches = c.in_ok-touches_over.field-0;
}
    ≡ kept_of c.self.inside.region (seen c.self.inside).state
made c =
    let a = c.self.inside in
    let line = ap (λ (ts : List AcceptedUpdate). take a.committed ts) c.deref.ensures.value in
    let row =
    c.row_over-row.ensures
    ∙ ap (row_over (option_copied c.as_ref.result)) line
    ∙ ap (λ o. row_over o (take a.committed a.accepted.items)) c.as_ref.ensures.value
    ∙ object-seen a c.self.invariant
    in
    let key = c.in_ok-copy.ensures in
    let object = c.in_ok-copy_row.ensures ∙ row in
    let marks = c.in_ok-marks_over.ensures ∙ ap (λ (ts : List AcceptedUpdate). provided a.keeps_marks
    (marks_over a.base.marks.items ts)) line ∙ marks-seen a c.self.invariant in
    let touches = c.in_ok-touches_over.ensures ∙ ap
    (λ (ts : List AcceptedUpdate). provided a.keeps_marks (touches_over a.base.touches.items ts)) line
    ∙ touches-seen a c.self.invariant in
    λ j. record { key = key j; floor = a.floor; object = object j; marks = marks j; touches = touches j }

pub returns-clause-kept : goal.returns-clause-kept
returns-clause-kept c =
    ap (λ (k : Kept). Some k) (made c)
    ∙ committed-state c.self.inside.region (seen c.self.inside).state c.if-self-eq0.false
    ∙ ap (λ (s : SlotState). committed_state s.region s.state) c.self.view_is

pub returns-clause-orderly : goal.returns-clause-orderly
returns-clause-orderly c = subst IsOrderly (sym (made c)) (kept-orderly c.self.inside c.self.invariant)
