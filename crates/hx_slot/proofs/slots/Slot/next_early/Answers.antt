-- The first early update that comes after the version.
use Rattle.std.proofs.Common.{◌≡◌, Some, None, ◌∙◌, ap, arith, subst, sym}
use Rattle.std.specs.List.{find, position}
use Rattle.hx_model.specs.Slots.{follows}
use Rattle.hx_slot.specs.States.{IsPlacedIn, SlotState}
use Rattle.hx_slot.proofs.Newest.{place_number-within}
use Rattle.hx_slot.proofs.Turns.{comes_after, turn-found, turn-none}
use Rattle.hx_slot.proofs.slots.Slot.next_early.Goals as goal

pub returns-in-Some-clause-turn : goal.returns-in-Some-clause-turn
returns-in-Some-clause-turn c =
    let a = c.self.inside in
    let at = sym (c.in-Some.ensures ∙ ap (position (comes_after c.args.top.0)) c.as_slice.ensures.value) in
    let found = turn-found a.region c.args.top.0 a.early.items c.in-Some.place c.index.result.now c.self.invariant.early at c.index.ensures in
    subst (λ (s : SlotState). Some c.index.result.now.update ≡ find (follows s.region c.args.top.0) s.state.early) c.self.view_is (sym found.found)

pub returns-in-Some-clause-later : goal.returns-in-Some-clause-later
returns-in-Some-clause-later c =
    let a = c.self.inside in
    let at = sym (c.in-Some.ensures ∙ ap (position (comes_after c.args.top.0)) c.as_slice.ensures.value) in
    let found = turn-found a.region c.args.top.0 a.early.items c.in-Some.place c.index.result.now c.self.invariant.early at c.index.ensures in
    let after = found.after in
    let later = found.held.after in
    omega (arith, after, later)

pub returns-in-Some-clause-place : goal.returns-in-Some-clause-place
returns-in-Some-clause-place c =
    let a = c.self.inside in
    let at = sym (c.in-Some.ensures ∙ ap (position (comes_after c.args.top.0)) c.as_slice.ensures.value) in
    let found = turn-found a.region c.args.top.0 a.early.items c.in-Some.place c.index.result.now c.self.invariant.early at c.index.ensures in
    subst (λ (s : SlotState). IsPlacedIn s.region c.index.result.now.update) c.self.view_is
    (place_number-within a.region c.index.result.now.update.places c.index.result.now.keeps found.held.placed.place)

pub returns-in-None-clause-turn : goal.returns-in-None-clause-turn
returns-in-None-clause-turn c =
    let a = c.self.inside in
    let at = sym (c.in-None.ensures ∙ ap (position (comes_after c.args.top.0)) c.as_slice.ensures.value) in
    subst (λ (s : SlotState). None ≡ find (follows s.region c.args.top.0) s.state.early) c.self.view_is
    (sym (turn-none a.region c.args.top.0 a.early.items c.self.invariant.early at))
