-- The update is held last, and no other copy of it is held.
use Rattle.std.proofs.Common.{◌-◌, ◌<◌, ◌++◌, ◌∷◌, [], ◌∙◌, List, ap, arith, not, eqb, subst, sym}
use Rattle.std.specs.List.{AllByRecursion, filter}
use Rattle.hx_model.specs.Types.{Update}
use Rattle.hx_model.specs.Slots.{Hold, moved}
use Rattle.hx_slot.specs.declared.updates.PlacedUpdate.{PlacedUpdate}
use Rattle.hx_slot.specs.Updates.{IsHeld}
use Rattle.hx_slot.specs.States.{SlotState}
use Rattle.hx_slot.proofs.Lean.{held-state}
use Rattle.hx_slot.proofs.Accepting.{by_recursion-push, held-slot}
use Rattle.hx_slot.proofs.slots.Slot.hold.Goals as goal
use Rattle.hx_law_folds.proofs.Lemmas.{all-filter}

pub invariant_of-self : goal.invariant_of-self
invariant_of-self c =
    let a = c.self.inside in
    let p = c.args.placed in
    let held = all-filter (IsHeld a.region) (λ (q : PlacedUpdate). not (eqb q.update.version.0 p.update.version.0)) a.early.items c.self.invariant.early in
    let this = subst (λ (s : SlotState). IsHeld s.region p) (sym c.self.view_is) c.requires.held in
    let all = by_recursion-push (IsHeld a.region) _ p held this in
    let items = c.push_reserved.ensures.items ∙ ap (λ (ps : List PlacedUpdate). ps ++ p ∷ [])
    (c.drop_version.ensures.items ∙ ap (λ (u : Update). filter
    (λ (q : PlacedUpdate). not (eqb q.update.version.0 u.version.0)) c.self.inside.early.items) c.deref.ensures) in
    let spare = subst (λ (s : SlotState). 0 < s.spare) (sym c.self.view_is) c.requires.spare in
    let len = c.push_reserved.ensures.len in
    let less = c.drop_version.ensures.len in
    held-slot a c.push_reserved.new.self _ c.self.invariant (subst (AllByRecursion (IsHeld a.region)) (sym items) all)
    (omega (arith, len, less, spare)) (c.push_reserved.ensures.capacity ∙ c.drop_version.ensures.capacity)

pub returns-clause-state : goal.returns-clause-state
returns-clause-state c =
    let p = c.args.placed in
    let items = c.push_reserved.ensures.items ∙ ap (λ (ps : List PlacedUpdate). ps ++ p ∷ [])
    (c.drop_version.ensures.items ∙ ap (λ (u : Update). filter
    (λ (q : PlacedUpdate). not (eqb q.update.version.0 u.version.0)) c.self.inside.early.items) c.deref.ensures) in
    held-state c.self.inside p c.push_reserved.new.self (c.self.inside.spare - 1) items ∙ ap (λ (s : SlotState). moved (Hold p.update) s.state) c.self.view_is
