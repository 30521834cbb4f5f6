-- What is folded into the base is the committed state.
use Rattle.std.proofs.Common.{◌≡◌, Some, ◌∙◌, ap, arith, subst, sym}
use Rattle.hx_model.specs.Types.{Kept}
use Rattle.hx_model.specs.Slots.{kept_of}
use Rattle.hx_slot.specs.Invariant.{seen}
use Rattle.hx_slot.specs.States.{IsOrderly, SlotState, committed_state}
use Rattle.hx_slot.proofs.Carrying.{committed-state}
use Rattle.hx_slot.proofs.Lean.{base-kept, kept-orderly}
use Rattle.hx_slot.proofs.slots.Slot.into_kept.Goals as goal
use Rattle.hx_slot.proofs.slots.Slot.into_kept.Goals.{After-from_vec-2}

made : (c : After-from_vec-2) → record {
  key = c.self.inside.key;
  floor = c.self.inside.floor;
  object = c.self.inside.base.object;
  marks = c.from_vec.result;
  touches = c.from_vec-2.result;
}
    ≡ kept_of c.self.inside.region (seen c.self.inside).state
made c =
    let a = c.self.inside in
    let none = c.if-self-gt0.false in
    let marks = c.from_vec.ensures in
    let touches = c.from_vec-2.ensures in
    (λ j. record { key = a.key; floor = a.floor; object = a.base.object; marks = marks j; touches = touches j })
    ∙ base-kept a c.self.invariant (omega (arith, none))

pub returns-clause-kept : goal.returns-clause-kept
returns-clause-kept c =
    ap (λ (k : Kept). Some k) (made c)
    ∙ committed-state c.self.inside.region (seen c.self.inside).state c.if-self-eq0.false
    ∙ ap (λ (s : SlotState). committed_state s.region s.state) c.self.view_is
    ∙ (λ j. committed_state (c.fold_all.ensures.region j) (c.fold_all.ensures.state j))

pub returns-clause-orderly : goal.returns-clause-orderly
returns-clause-orderly c = subst IsOrderly (sym (made c)) (kept-orderly c.self.inside c.self.invariant)
