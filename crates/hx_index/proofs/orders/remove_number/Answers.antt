use Rattle.std.proofs.Common.{ℕ, Some, sym, subst, ◌<◌, length, ap, ◌∙◌, arith, is_some, Option}
use Rattle.std.specs.List.Sorted.{IsStrictlySortedBy}
use Rattle.hx_model.specs.Types.{Row}
use Rattle.hx_index.specs.Invariant.{IsSplit, stands_before}
use Rattle.hx_index.specs.Orders.{IsOrder, compare_at, rows_at, rows_with, rows_without}
use Rattle.hx_index.proofs.Inserting.{within-at}
use Rattle.hx_index.proofs.Placing.{found, removed, removed-is}
use Rattle.hx_index.proofs.Standing.{with-here, without-with}
use Rattle.hx_index.proofs.orders.remove_number.Goals as goal

pub place_of-place-requires : goal.place_of-place-requires
place_of-place-requires c =
    let rows = rows_with c.args.id (Some c.args.row.now) (rows_at c.args.rows.now) in
    subst (IsStrictlySortedBy (compare_at rows c.args.attribute)) (sym c.as_slice.ensures.value) c.requires.order.ascend

pub remove-requires : goal.remove-requires
remove-requires c =
    let own = Some c.args.row.now in
    let rows = rows_with c.args.id own (rows_at c.args.rows.now) in
    let kept = ap is_some (with-here (rows_at c.args.rows.now) c.args.id own) in
    let split = subst (IsSplit (stands_before rows c.args.attribute c.args.id) c.place_of-place.result) c.as_slice.ensures.value c.place_of-place.ensures in
    let l : c.place_of-place.result < length c.args.order.now.items =
    within-at c.args.order.now.items c.place_of-place.result c.args.id
    (found rows c.args.attribute c.args.id c.args.order.now.items c.requires.order kept c.place_of-place.result split) in
    let s = c.as_slice.ensures.len in
    let v = ap length c.as_slice.ensures.value in
    omega (arith, l, s, v)

pub returns-clause-order : goal.returns-clause-order
returns-clause-order c =
    let own = Some c.args.row.now in
    let rows = rows_with c.args.id own (rows_at c.args.rows.now) in
    let kept = ap is_some (with-here (rows_at c.args.rows.now) c.args.id own) in
    let split = subst (IsSplit (stands_before rows c.args.attribute c.args.id) c.place_of-place.result) c.as_slice.ensures.value c.place_of-place.ensures in
    let is = c.remove.ensures.items ∙ removed-is rows c.args.attribute c.args.id c.args.order.now.items c.requires.order kept c.place_of-place.result split in
    subst (λ (r : ℕ → Option Row). IsOrder r c.args.attribute c.remove.new.self.items) (without-with (rows_at c.args.rows.now) c.args.id own)
    (subst (IsOrder (rows_without c.args.id rows) c.args.attribute) (sym is)
    (removed rows c.args.attribute c.args.id c.args.order.now.items c.requires.order kept c.place_of-place.result split))

pub returns-clause-others : goal.returns-clause-others
returns-clause-others c =
    let own = Some c.args.row.now in
    let rows = rows_with c.args.id own (rows_at c.args.rows.now) in
    let kept = ap is_some (with-here (rows_at c.args.rows.now) c.args.id own) in
    let split = subst (IsSplit (stands_before rows c.args.attribute c.args.id) c.place_of-place.result) c.as_slice.ensures.value c.place_of-place.ensures in
    c.remove.ensures.items ∙ removed-is rows c.args.attribute c.args.id c.args.order.now.items c.requires.order kept c.place_of-place.result split
