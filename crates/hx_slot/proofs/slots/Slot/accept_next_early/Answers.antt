-- The early update that comes after the top is accepted.
use Rattle.std.proofs.Common.{◌≡◌, ◌+◌, Some, None, [], ◌∷◌, Option, ◌∙◌, ap, arith, is_some, subst, sym}
use Rattle.std.specs.List.{AllByRecursion, find, position}
use Rattle.hx_model.specs.Types.{Update}
use Rattle.hx_types.specs.Words.{when_some}
use Rattle.hx_model.specs.Slots.{Take, follows, moved, moved_all, top_of}
use Rattle.hx_slot.specs.Updates.{IsHeld}
use Rattle.hx_slot.specs.States.{IsLater, SlotState}
use Rattle.hx_slot.proofs.Lean.{removed-state}
use Rattle.hx_slot.proofs.Accepting.{by_recursion-remove, held-slot}
use Rattle.hx_slot.proofs.Turns.{comes_after, later-held, turn-found, turn-none}
use Rattle.hx_slot.proofs.slots.Slot.accept_next_early.Goals as goal

none : (c : goal.In_default) → find (follows c.args.self.now.region (top_of c.args.self.now.state)) c.args.self.now.state.early ≡ None
none c =
    let a = c.self.inside in
    let v = c.top-top.result.0 in
    let at = sym (c.in_default.ensures ∙ ap (position (comes_after v)) c.as_slice.ensures.value) in
    let here = subst (λ (s : SlotState). find (follows s.region v) s.state.early ≡ None) c.self.view_is
    (turn-none a.region v a.early.items c.self.invariant.early at) in
    subst (λ n. find (follows c.args.self.now.region n) c.args.self.now.state.early ≡ None) c.top-top.ensures.top here

pub returns-in_default-clause-found : goal.returns-in_default-clause-found
returns-in_default-clause-found c = sym (ap is_some (none c))

pub returns-in_default-clause-state : goal.returns-in_default-clause-state
returns-in_default-clause-state c = sym (ap (λ (o : Option Update). moved_all (when_some o [] (λ (u : Update). Take u ∷ [])) c.args.self.now.state) (none c))

pub returns-in_default-clause-later : goal.returns-in_default-clause-later
returns-in_default-clause-later c = subst (λ (s : SlotState). AllByRecursion (IsLater s.region) s.state.early)
    c.self.view_is (later-held c.self.inside.region c.self.inside.early.items c.self.invariant.early)

pub invariant_of-self : goal.invariant_of-self
invariant_of-self c =
    let a = c.self.inside in
    let len = c.remove-placed.ensures.len in
    held-slot a c.remove-placed.new.self (a.spare + 1) c.self.invariant
    (subst (AllByRecursion (IsHeld a.region)) (sym c.remove-placed.ensures.items)
    (by_recursion-remove (IsHeld a.region) a.early.items c.in-Some.place c.self.invariant.early))
    (omega (arith, len)) c.remove-placed.ensures.capacity

pub accept-requires-clause-above : goal.accept-requires-clause-above
accept-requires-clause-above c =
    let a = c.self.inside in
    let at = sym (c.in-Some.ensures ∙ ap (position (comes_after c.top-top.result.0)) c.as_slice.ensures.value) in
    let is = turn-found a.region c.top-top.result.0 a.early.items c.in-Some.place c.remove-placed.result
    c.self.invariant.early at c.remove-placed.ensures.value in
    let after = is.after in
    let later = is.held.after in
    let top = c.top-top.ensures.top ∙ ap (λ (s : SlotState). top_of s.state) (sym c.self.view_is) in
    omega (arith, after, later, top)

found : (c : goal.After-accept) → find (follows c.args.self.now.region (top_of c.args.self.now.state))
    c.args.self.now.state.early ≡ Some c.remove-placed.result.update
found c =
    let a = c.self.inside in
    let v = c.top-top.result.0 in
    let at = sym (c.in-Some.ensures ∙ ap (position (comes_after v)) c.as_slice.ensures.value) in
    let is = turn-found a.region v a.early.items c.in-Some.place c.remove-placed.result c.self.invariant.early at c.remove-placed.ensures.value in
    let here = subst (λ (s : SlotState). find (follows s.region v) s.state.early ≡ Some c.remove-placed.result.update) c.self.view_is is.found in
    subst (λ n. find (follows c.args.self.now.region n) c.args.self.now.state.early ≡ Some c.remove-placed.result.update) c.top-top.ensures.top here

pub returns-clause-found : goal.returns-clause-found
returns-clause-found c = sym (ap is_some (found c))

pub returns-clause-state : goal.returns-clause-state
returns-clause-state c =
    let a = c.self.inside in
    let at = sym (c.in-Some.ensures ∙ ap (position (comes_after c.top-top.result.0)) c.as_slice.ensures.value) in
    let is = turn-found a.region c.top-top.result.0 a.early.items c.in-Some.place c.remove-placed.result
    c.self.invariant.early at c.remove-placed.ensures.value in
    c.accept.ensures.state
    ∙ removed-state a c.in-Some.place c.remove-placed.result c.remove-placed.new.self
    (a.spare + 1) is.within c.remove-placed.ensures.value c.remove-placed.ensures.items
    ∙ ap (λ (s : SlotState). moved (Take c.remove-placed.result.update) s.state) c.self.view_is
    ∙ sym (ap (λ (o : Option Update). moved_all (when_some o [] (λ (u : Update). Take u ∷ [])) c.args.self.now.state) (found c))

pub returns-clause-later : goal.returns-clause-later
returns-clause-later c = subst (λ (s : SlotState). AllByRecursion (IsLater s.region) s.state.early) c.self.view_is
    (later-held c.self.inside.region c.self.inside.early.items c.self.invariant.early)
