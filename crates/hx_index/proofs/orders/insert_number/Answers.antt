use Rattle.std.proofs.Common.{ℕ, Option, Some, sym, subst, ap, ◌∙◌, arith}
use Rattle.std.specs.List.Sorted.{IsStrictlySortedBy}
use Rattle.hx_model.specs.Types.{Row}
use Rattle.hx_index.specs.Invariant.{IsSplit, stands_before}
use Rattle.hx_index.specs.Orders.{IsOrder, compare_at, rows_at, rows_with, without}
use Rattle.hx_index.proofs.Inserting.{split-within}
use Rattle.hx_index.proofs.Placing.{as-sorted, back-again, inserted}
use Rattle.hx_index.proofs.Standing.{with-own}
use Rattle.hx_index.proofs.orders.insert_number.Goals as goal

pub place_of-place-requires : goal.place_of-place-requires
place_of-place-requires c =
    let rows = rows_at c.args.rows.now in
    subst (λ (r : ℕ → Option Row). IsStrictlySortedBy (compare_at r c.args.attribute) c.as_slice.result.now)
    (sym (with-own (rows_at c.args.rows.now) c.args.id (Some c.in-Some.row.now) (sym (c.in-Some.ensures {u = tt}))))
    (subst (IsStrictlySortedBy (compare_at rows c.args.attribute)) (sym c.as_slice.ensures.value)
    (as-sorted rows c.args.attribute c.args.id c.args.order.now.items c.requires.others))

pub insert_within-requires-clause-place : goal.insert_within-requires-clause-place
insert_within-requires-clause-place c =
    let rows = rows_with c.args.id (Some c.in-Some.row.now) (rows_at c.args.rows.now) in
    let l = split-within (stands_before rows c.args.attribute c.args.id) c.place_of-place.result c.as_slice.result.now c.place_of-place.ensures in
    let s = c.as_slice.ensures.len in
    omega (arith, l, s)

pub returns-clause-order : goal.returns-clause-order
returns-clause-order c =
    let rows = rows_at c.args.rows.now in
    let split = subst (IsSplit (stands_before rows c.args.attribute c.args.id) c.place_of-place.result) c.as_slice.ensures.value
    (subst (λ (r : ℕ → Option Row). IsSplit (stands_before r c.args.attribute c.args.id) c.place_of-place.result
    c.as_slice.result.now) (with-own (rows_at c.args.rows.now) c.args.id (Some c.in-Some.row.now)
    (sym (c.in-Some.ensures {u = tt}))) c.place_of-place.ensures) in
    subst (IsOrder rows c.args.attribute) (sym c.insert_within.ensures.items)
    (inserted rows c.args.attribute c.args.id c.args.order.now.items c.requires.others c.place_of-place.result
    c.requires.kept split)

pub returns-clause-others : goal.returns-clause-others
returns-clause-others c =
    let rows = rows_at c.args.rows.now in
    let split = subst (IsSplit (stands_before rows c.args.attribute c.args.id) c.place_of-place.result) c.as_slice.ensures.value
    (subst (λ (r : ℕ → Option Row). IsSplit (stands_before r c.args.attribute c.args.id) c.place_of-place.result
    c.as_slice.result.now) (with-own (rows_at c.args.rows.now) c.args.id (Some c.in-Some.row.now)
    (sym (c.in-Some.ensures {u = tt}))) c.place_of-place.ensures) in
    back-again rows c.args.attribute c.args.id c.args.order.now.items c.requires.others c.place_of-place.result split
    ∙ ap (without c.args.id) (sym c.insert_within.ensures.items)
