use Rattle.std.proofs.Common.{◌+◌, ◌≤◌, List, ℕ, length, nat_eq, refl, ap, arith, subst, sym, ◌∙◌, vec_capacity}
use Rattle.hx_store.specs.Invariant.{IsLateStore, rooms_in}
use Rattle.hx_store.specs.Stores.{StoreState}
use Rattle.hx_store.proofs.Changing.{added-rooms, added-states, added-store}
use Rattle.hx_store.proofs.Showing.{added-place, keeps-same, order-most, place-is}
use Rattle.hx_store.proofs.Ordering.{late-length}
use Rattle.hx_store.proofs.stores.Store.give_place.Goals as goal

pub returns-in-Some-clause-rooms : goal.returns-in-Some-clause-rooms
returns-in-Some-clause-rooms c = keeps-same c.args.self.now.rooms c.args.self.now.rooms refl

pub returns-in-Some-clause-place : goal.returns-in-Some-clause-place
returns-in-Some-clause-place c =
    let it = c.in-Some.ensures in
    place-is c.self.invariant.store c.self.view_is c.args.key.now c.in-Some.place it.within it.key

pub overflow_sub-place : goal.overflow_sub-place
overflow_sub-place c =
    let most = order-most c.self.invariant.store c.self.view_is in
    let alike = late-length c.self.invariant in
    let place = c.len-place.ensures in
    let len = c.len.ensures in
    let ok = c.self.inside.order.ok.0 in
    omega (arith, most, alike, place, len, ok)

pub returns-in_err-reserve-clause-rooms : goal.returns-in_err-reserve-clause-rooms
returns-in_err-reserve-clause-rooms c =
    keeps-same c.args.self.now.rooms (rooms_in c.self.inside.slots.entries) (ap (λ (s : StoreState). s.rooms) c.self.view_is)

pub returns-in_err-add-clause-rooms : goal.returns-in_err-add-clause-rooms
returns-in_err-add-clause-rooms c =
    let same = ap rooms_in c.in_err-add.ensures.err ∙ ap (λ (s : StoreState). s.rooms) c.self.view_is in
    keeps-same c.args.self.now.rooms (rooms_in c.add.new.self.entries) same

pub invariant_of-self-2 : goal.invariant_of-self-2
invariant_of-self-2 c =
    let most = order-most c.self.invariant.store c.self.view_is in
    let alike = late-length c.self.invariant in
    let place = c.len-place.ensures in
    let len = c.len.ensures in
    let ok = c.self.inside.order.ok.0 in
    let more = c.in_ok-reserve.ensures.ok in
    let same = c.in_ok-reserve.ensures.len in
    let cap = vec_capacity c.reserve.new.self in
    let room : length c.self.inside.slots.entries + 1 ≤ cap = omega (arith, most, alike, place, len, ok, more, same) in
    let g = c.self.inside.region in
    let marks = c.self.inside.keeps_marks in
    subst (λ (places : List ℕ). IsLateStore g marks c.add.new.self.entries places c.self.inside.sorted cap) (sym c.in_ok-reserve.ensures.items)
    (added-store c.self.invariant c.self.view_is c.in_ok-add.ensures.ok c.in_default.ensures.none cap room)

pub returns-clause-states : goal.returns-clause-states
returns-clause-states c = added-states c.self.invariant c.self.view_is c.in_ok-add.ensures.ok c.in_default.ensures.none

pub returns-clause-rooms : goal.returns-clause-rooms
returns-clause-rooms c = added-rooms c.self.invariant c.self.view_is c.in_ok-add.ensures.ok c.in_default.ensures.none

pub returns-clause-place : goal.returns-clause-place
returns-clause-place c =
    let added = c.in_ok-add.ensures.ok in
    added-place c.self.invariant.store c.self.view_is c.args.key.now c.add.new.self.entries c.len-place.result _ added c.len-place.ensures refl

pub returns-clause-ordered : goal.returns-clause-ordered
returns-clause-ordered c =
    (λ k. nat_eq c.self.inside.sorted (length (c.in_ok-reserve.ensures.items k))) ∙ ap (λ (s : StoreState). s.ordered) c.self.view_is
