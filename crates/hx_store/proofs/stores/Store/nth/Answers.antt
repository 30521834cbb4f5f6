use Rattle.std.proofs.Common.{◌≡◌, ◌≤◌, ℕ, List, Some, ap, length, slice_get, subst, sym, ◌∙◌}
use Rattle.std.proofs.lemmas.Option.{slice_get-get_or}
use Rattle.hx_store.proofs.Changing.{in-order}
use Rattle.hx_store.proofs.Showing.{nth-none, nth-state, nth-within, slot-marks, slot-region}
use Rattle.hx_store.proofs.stores.Store.nth.Goals as goal

pub slot_at-requires : goal.slot_at-requires
slot_at-requires c =
    let place = c.in-Some.place.now in
    let found = c.in-Some.ensures.lookup in
    let at = slice_get-get_or c.deref.result.now c.args.i place found.3.0 ∙ ap (λ (j : ℕ). Some j) (sym found.1) in
    let order = c.deref.ensures.value ∙ in-order c.self.invariant c.self.view_is c.requires in
    nth-within c.self.invariant.store c.self.view_is c.args.i (subst (λ (xs : List ℕ). slice_get xs c.args.i ≡ Some place) order at)

pub returns-in-Some-clause-state : goal.returns-in-Some-clause-state
returns-in-Some-clause-state c =
    let place = c.in-Some.place.now in
    let found = c.in-Some.ensures.lookup in
    let at = slice_get-get_or c.deref.result.now c.args.i place found.3.0 ∙ ap (λ (j : ℕ). Some j) (sym found.1) in
    let order = c.deref.ensures.value ∙ in-order c.self.invariant c.self.view_is c.requires in
    nth-state c.self.invariant.store c.self.view_is c.args.i (subst (λ (xs : List ℕ). slice_get xs c.args.i ≡ Some place) order at)
    c.slot_at.ensures

pub returns-in-Some-clause-region : goal.returns-in-Some-clause-region
returns-in-Some-clause-region c = slot-region c.self.invariant.store c.self.view_is c.in-Some.place.now c.slot_at.ensures

pub returns-in-Some-clause-marks : goal.returns-in-Some-clause-marks
returns-in-Some-clause-marks c = slot-marks c.self.invariant.store c.self.view_is c.in-Some.place.now c.slot_at.ensures

pub returns-in-None-clause-state : goal.returns-in-None-clause-state
returns-in-None-clause-state c =
    let order = c.deref.ensures.value ∙ in-order c.self.invariant c.self.view_is c.requires in
    nth-none c.self.invariant.store c.self.view_is c.args.i
    (subst (λ (xs : List ℕ). length xs ≤ c.args.i) order c.in-None.ensures.lookup.3)
