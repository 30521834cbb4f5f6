-- The update follows the accepted ones, and no copy of it is held.
use Rattle.std.proofs.Common.{◌-◌, ◌<◌, ◌∙◌, false, ap, arith, not, eqb, refl, subst, sym}
use Rattle.std.specs.List.{AllByRecursion, filter}
use Rattle.hx_model.specs.Types.{Update}
use Rattle.hx_model.specs.Slots.{Take, moved, top_of}
use Rattle.hx_slot.specs.declared.updates.PlacedUpdate.{PlacedUpdate}
use Rattle.hx_slot.specs.declared.updates.AcceptedUpdate.{AcceptedUpdate}
use Rattle.hx_slot.specs.Updates.{IsHeld, IsPlaced, last_version}
use Rattle.hx_slot.specs.States.{SlotState}
use Rattle.hx_slot.proofs.Lean.{accepted-state, floor-seen, top-seen}
use Rattle.hx_slot.proofs.Accepting.{accepted-slot}
use Rattle.hx_slot.proofs.slots.Slot.accept.Goals as goal
use Rattle.hx_law_folds.proofs.Lemmas.{all-filter}

pub invariant_of-self : goal.invariant_of-self
invariant_of-self c =
    let a = c.self.inside in
    let t : AcceptedUpdate = record { update = c.args.placed.update; keeps = c.args.placed.keeps; acknowledged = false } in
    let placed = subst (λ (s : SlotState). IsPlaced s.region t.update t.keeps) (sym c.self.view_is) c.requires.held.placed in
    let top = subst (λ (s : SlotState). top_of s.state < t.update.version.0) (sym c.self.view_is) c.requires.above in
    let is = top-seen a c.self.invariant in
    let above : last_version a.base.floor.0 a.accepted.items < t.update.version.0 = omega (arith, is, top) in
    let held = all-filter (IsHeld a.region) (λ (p : PlacedUpdate). not (eqb p.update.version.0 t.update.version.0)) a.early.items c.self.invariant.early in
    let dropped = c.drop_version.ensures.items ∙ ap
    (λ (u : Update). filter (λ (p : PlacedUpdate). not (eqb p.update.version.0 u.version.0)) a.early.items) c.deref.ensures in
    let spare = subst (λ (s : SlotState). 0 < s.spare) (sym c.self.view_is) c.requires.spare in
    accepted-slot a t c.push_reserved.new.self c.drop_version.new.early _ c.self.invariant placed above refl
    c.push_reserved.ensures.items c.push_reserved.ensures.len c.push_reserved.ensures.capacity
    (subst (AllByRecursion (IsHeld a.region)) (sym dropped) held) c.drop_version.ensures.len c.drop_version.ensures.capacity
    (omega (arith, spare))

pub returns-clause-state : goal.returns-clause-state
returns-clause-state c =
    let t : AcceptedUpdate = record { update = c.args.placed.update; keeps = c.args.placed.keeps; acknowledged = false } in
    let top = subst (λ (s : SlotState). top_of s.state < t.update.version.0) (sym c.self.view_is) c.requires.above in
    let dropped = c.drop_version.ensures.items ∙ ap
    (λ (u : Update). filter (λ (p : PlacedUpdate). not (eqb p.update.version.0 u.version.0))
    c.self.inside.early.items) c.deref.ensures in
    let floor = floor-seen c.self.inside c.self.invariant in
    accepted-state c.self.inside t c.push_reserved.new.self c.drop_version.new.early (c.self.inside.spare - 1)
    (omega (arith, top, floor)) c.push_reserved.ensures.items dropped
    ∙ ap (λ (s : SlotState). moved (Take c.args.placed.update) s.state) c.self.view_is
