use Rattle.std.proofs.Common.{ℕ, List, ap, arith, is_some, subst, sym, ◌∙◌}
use Rattle.std.specs.List.{flat_map}
use Rattle.hx_types.specs.Words.{list_of}
use Rattle.hx_law_folds.specs.Folding.{KeysAscend}
use Rattle.hx_model.specs.Slots.{found_in, rows_of}
use Rattle.hx_index.proofs.Lemmas.{if-ok}
use Rattle.hx_store.specs.Invariant.{HasAll}
use Rattle.hx_store.specs.Reading.{RowsAscend}
use Rattle.hx_store.specs.Looks.{least_looks_at, most_looks_at}
use Rattle.hx_store.specs.Slots.{rows_in}
use Rattle.hx_store.specs.Stores.{StoreState}
use Rattle.hx_store.proofs.Changing.{in-order}
use Rattle.hx_store.proofs.Matching.{store-all, store-found, store-least, store-most}
use Rattle.hx_store.proofs.OwnKeys.{found-ascend, if-any}
use Rattle.hx_store.proofs.Showing.{ordered-same, same-store, same-view}
use Rattle.hx_store.proofs.stores.Store.find.Goals as goal

pub find-requires-clause-order : goal.find-requires-clause-order
find-requires-clause-order c =
    let store = same-store c.self.invariant.store c.self.view_is c.refresh.ensures.entries in
    let order = in-order c.self.invariant c.self.view_is c.sort_order.ensures.ordered in
    let es = c.refresh.new.self.entries in
    subst (HasAll es (λ i. is_some (rows_in es i))) (sym (c.as_slice.ensures.value ∙ order)) (store-all store)

pub returns-clause-rows : goal.returns-clause-rows
returns-clause-rows c =
    let store = same-store c.self.invariant.store c.self.view_is c.refresh.ensures.entries in
    let sorted = c.sort_order.ensures in
    let now = ordered-same c.args.self.now c.sort_order.new.self sorted.region sorted.marks sorted.attributes sorted.states sorted.rooms sorted.ordered in
    let view = same-view c.self.invariant.store c.self.view_is c.refresh.ensures.entries c.refresh.ensures.attributes ∙ now in
    let places = c.in_ok-places.ensures in
    let found = store-found store c.args.terms.now c.in_ok-places.places.items places.ascend places.matching in
    if-ok c.rows.result
    (
    λ rows h. h
    ∙ ap (λ (xs : List ℕ). flat_map (λ i. list_of (rows_in c.refresh.new.self.entries i)) xs) c.as_slice-2.ensures.value
    ∙ found ∙ ap (λ (s : StoreState). found_in s.region c.args.terms.now s.states) view
    )
    c.rows.ensures

pub returns-clause-looks : goal.returns-clause-looks
returns-clause-looks c =
    let store = same-store c.self.invariant.store c.self.view_is c.refresh.ensures.entries in
    let sorted = c.sort_order.ensures in
    let now = ordered-same c.args.self.now c.sort_order.new.self sorted.region sorted.marks sorted.attributes sorted.states sorted.rooms sorted.ordered in
    let view = same-view c.self.invariant.store c.self.view_is c.refresh.ensures.entries c.refresh.ensures.attributes ∙ now in
    let most = c.find.ensures.looks in
    let bound = store-most store c.refresh.new.self.index c.find.ensures.index c.args.terms.now in
    let seen = ap (λ (s : StoreState). most_looks_at s.attributes (rows_of s.region s.states) c.args.terms.now) view in
    omega (arith, most, bound, seen)

pub returns-in_err-places-clause-looks : goal.returns-in_err-places-clause-looks
returns-in_err-places-clause-looks c =
    let store = same-store c.self.invariant.store c.self.view_is c.refresh.ensures.entries in
    let sorted = c.sort_order.ensures in
    let now = ordered-same c.args.self.now c.sort_order.new.self sorted.region sorted.marks sorted.attributes sorted.states sorted.rooms sorted.ordered in
    let view = same-view c.self.invariant.store c.self.view_is c.refresh.ensures.entries c.refresh.ensures.attributes ∙ now in
    let most = c.find.ensures.looks in
    let bound = store-most store c.refresh.new.self.index c.find.ensures.index c.args.terms.now in
    let seen = ap (λ (s : StoreState). most_looks_at s.attributes (rows_of s.region s.states) c.args.terms.now) view in
    omega (arith, most, bound, seen)

pub returns-clause-keys : goal.returns-clause-keys
returns-clause-keys c = λ own.
    let ascend = subst (λ (s : StoreState). KeysAscend s.states) c.self.view_is c.self.invariant.store.ascend in
    let before = subst KeysAscend c.sort_order.ensures.states ascend in
    if-ok c.rows.result
    (λ rows e. subst RowsAscend (sym e) (found-ascend c.args.self.now.region c.args.terms.now c.args.self.now.states before own))
    (returns-clause-rows c)

pub returns-clause-each : goal.returns-clause-each
returns-clause-each c =
    let store = same-store c.self.invariant.store c.self.view_is c.refresh.ensures.entries in
    let sorted = c.sort_order.ensures in
    let now = ordered-same c.args.self.now c.sort_order.new.self sorted.region sorted.marks sorted.attributes sorted.states sorted.rooms sorted.ordered in
    let view = same-view c.self.invariant.store c.self.view_is c.refresh.ensures.entries c.refresh.ensures.attributes ∙ now in
    let least = store-least store c.refresh.new.self.index c.find.ensures.index c.args.terms.now in
    let seen = ap (λ (s : StoreState). least_looks_at s.attributes (rows_of s.region s.states) c.args.terms.now) view in
    let count = ap (λ (s : StoreState). s.attributes) view in
    if-any c.rows.result _
    (λ l m. let enough = least (omega (arith, l, count)) in let more = c.in_ok-places.ensures.each m in omega (arith, more, enough, seen))
