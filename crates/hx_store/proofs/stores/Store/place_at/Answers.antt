use Rattle.std.proofs.Common.{◌≡◌, ◌<◌, List, ℕ, Some, ap, arith, get_or, length, slice_get, subst, sym, ◌∙◌}
use Rattle.hx_model.specs.Slots.{KeyState}
use Rattle.hx_store.specs.Invariant.{order_of, states_in, state_in}
use Rattle.hx_store.specs.Stores.{StoreState}
use Rattle.hx_store.proofs.Changing.{in-order}
use Rattle.hx_store.proofs.Following.{at-item}
use Rattle.hx_store.proofs.Lists.{length-of-map}
use Rattle.hx_store.proofs.Showing.{count-is, nth-state, nth-within, slot-is, stored-some}
use Rattle.hx_store.proofs.Ordering.{late-length}
use Rattle.hx_store.proofs.stores.Store.place_at.Goals as goal

pub index-requires : goal.index-requires
index-requires c =
    let n = length-of-map (state_in c.self.inside.slots.entries) (order_of c.self.inside.slots.entries) in
    let m = ap (λ (s : StoreState). length s.states) c.self.view_is in
    let l = late-length c.self.invariant in
    let r = c.requires.number in
    let ok = c.self.inside.order.ok.0 in
    omega (arith, n, m, l, r, ok)

-- the place stands in the order at the number
at-order : (c : goal.After-row_known-1) → slice_get (order_of c.self.inside.slots.entries) c.args.i ≡ Some c.index.result.now
at-order c =
    let es = c.self.inside.slots.entries in
    let order = in-order c.self.invariant c.self.view_is c.requires.ordered in
    let got = subst (λ (xs : List ℕ). c.index.result.now ≡ get_or xs c.args.i c.index.result.now) order c.index.ensures in
    at-item (order_of es) c.args.i c.index.result.now within got
  where
    within : c.args.i < length (order_of c.self.inside.slots.entries)
    within =
        let es = c.self.inside.slots.entries in
        let n = length-of-map (state_in es) (order_of es) in
        let m : length (states_in es (order_of es)) ≡ length c.args.self.now.states = ap (λ (s : StoreState). length s.states) c.self.view_is in
        let r = c.requires.number in
        omega (arith, n, m, r)

pub returns-clause-within : goal.returns-clause-within
returns-clause-within c =
    let l = nth-within c.self.invariant.store c.self.view_is c.args.i (at-order c) in
    let n = count-is c.self.invariant.store c.self.view_is in
    omega (arith, l, n)

pub returns-clause-slot : goal.returns-clause-slot
returns-clause-slot c =
    let l = nth-within c.self.invariant.store c.self.view_is c.args.i (at-order c) in
    let w = stored-some c.self.inside.slots.entries c.index.result.now l in
    sym (nth-state c.self.invariant.store c.self.view_is c.args.i (at-order c) w.1)
    ∙ ap (λ (s : KeyState). Some s) (slot-is c.self.invariant.store c.self.view_is c.index.result.now w.1)
