use Rattle.std.proofs.Common.{◌≡◌, ◌≤◌, ◌<◌, ◌+◌, ◌^◌, ◌++◌, ◌∷◌, [], Bool, List, None, Option, ap, arith, length, subst, sym, true, vec_capacity, ◌∙◌, ℕ}
use Rattle.hx_model.specs.Types.{Row}
use Rattle.hx_store.specs.Indexed.{AreIndexed, IndexedState}
use Rattle.hx_store.proofs.Following.{indexed-end, marked-most, roomy, wider}
use Rattle.hx_store.proofs.indexed.Indexed.add_place.Goals as goal

pub overflow_sub-most : goal.overflow_sub-most
overflow_sub-most c =
    let each = c.self.invariant.each_marked in
    let rows_ok = c.self.inside.rows.ok.0 in
    let len = c.len-place.ensures in
    let view = ap (λ (x : IndexedState). length x.stale) c.self.view_is in
    let fewer = c.requires in
    omega (arith, each, rows_ok, len, view, fewer)

pub overflow_sub-most-2 : goal.overflow_sub-most-2
overflow_sub-most-2 c =
    let each = c.self.invariant.each_marked in
    let rows_ok = c.self.inside.rows.ok.0 in
    let len = c.len-place.ensures in
    let view = ap (λ (x : IndexedState). length x.stale) c.self.view_is in
    let fewer = c.requires in
    omega (arith, each, rows_ok, len, view, fewer)

pub overflow_sub-most-3 : goal.overflow_sub-most-3
overflow_sub-most-3 c =
    let all = c.self.invariant.all in
    let most = marked-most c.self.inside.is_stale.items in
    let stale_ok = c.self.inside.stale.ok.0 in
    let len = c.len.ensures in
    let view = ap (λ (x : IndexedState). length x.stale) c.self.view_is in
    let fewer = c.requires in
    omega (arith, all, most, stale_ok, len, view, fewer)

pub overflow_cast-place : goal.overflow_cast-place
overflow_cast-place c =
    let each = c.self.invariant.each_marked in
    let rows_ok = c.self.inside.rows.ok.0 in
    let len = c.len-place.ensures in
    let view = ap (λ (x : IndexedState). length x.stale) c.self.view_is in
    let fewer = c.requires in
    let fits = c.ranges.n.fits in
    omega (arith, each, rows_ok, len, view, fewer, fits)

pub push_reserved-requires : goal.push_reserved-requires
push_reserved-requires c =
    let each = c.self.invariant.each_marked in
    let rows_ok = c.self.inside.rows.ok.0 in
    let len = c.len-place.ensures in
    let view = ap (λ (x : IndexedState). length x.stale) c.self.view_is in
    let fewer = c.requires in
    let room = c.in_ok-reserve-2.ensures.ok in
    omega (arith, each, rows_ok, len, view, fewer, room)

pub push_reserved-requires-2 : goal.push_reserved-requires-2
push_reserved-requires-2 c =
    let each = c.self.invariant.each_marked in
    let rows_ok = c.self.inside.rows.ok.0 in
    let len = c.len-place.ensures in
    let view = ap (λ (x : IndexedState). length x.stale) c.self.view_is in
    let fewer = c.requires in
    let room = c.in_ok-reserve-3.ensures.ok in
    omega (arith, each, rows_ok, len, view, fewer, room)

pub push_reserved-requires-3 : goal.push_reserved-requires-3
push_reserved-requires-3 c =
    let all = c.self.invariant.all in
    let most = marked-most c.self.inside.is_stale.items in
    let stale_ok = c.self.inside.stale.ok.0 in
    let len = c.len.ensures in
    let view = ap (λ (x : IndexedState). length x.stale) c.self.view_is in
    let fewer = c.requires in
    let room = c.in_ok-reserve-4.ensures.ok in
    let same = c.in_ok-reserve-4.ensures.len in
    omega (arith, all, most, stale_ok, len, view, fewer, room, same)

pub invariant_of-self-2 : goal.invariant_of-self-2
invariant_of-self-2 c =
    let rows = c.self.inside.rows.items in
    let marks = c.self.inside.is_stale.items in
    let places = c.self.inside.stale.items in
    let next = c.reserve.new.self in
    let cap = vec_capacity c.push_reserved-3.new.self in
    let each = c.self.invariant.each_marked in
    let rows_ok = c.self.inside.rows.ok.0 in
    let len = c.len-place.ensures in
    let view = ap (λ (x : IndexedState). length x.stale) c.self.view_is in
    let fewer = c.requires in
    let fits = c.ranges.n.fits in
    let some = c.in_ok-reserve.ensures.room in
    let here = c.len.ensures in
    let same = c.in_ok-reserve-4.ensures.len in
    let more = c.in_ok-reserve-4.ensures.ok in
    let whole = c.push_reserved-3.ensures.capacity in
    let room : length rows + 1 ≤ next.room = omega (arith, each, view, fewer, some) in
    let few : length rows + 1 < 2 ^ 32 = omega (arith, each, view, fewer, fits) in
    let enough : length rows + 1 ≤ cap = omega (arith, each, view, fewer, here, same, more, whole) in
    let place : c.len-place.result ≡ length rows = omega (arith, rows_ok, len) in
    let kept = roomy rows c.self.inside.index next c.self.invariant.kept c.reserve.ensures.orders c.reserve.ensures.stays in
    let former = vec_capacity c.self.inside.stale in
    let done = indexed-end c.self.inside.index rows marks places former c.self.invariant next cap kept room few enough in
    let new_rows = c.push_reserved.ensures.items ∙ ap (λ (r : List (Option Row)). r ++ None ∷ []) c.in_ok-reserve-2.ensures.items in
    let new_marks = c.push_reserved-2.ensures.items ∙ ap (λ (m : List Bool). m ++ true ∷ []) c.in_ok-reserve-3.ensures.items in
    let new_places = c.push_reserved-3.ensures.items ∙ (λ k. c.in_ok-reserve-4.ensures.items k ++ place k ∷ []) in
    subst (λ (r : List (Option Row)). AreIndexed next r c.push_reserved-2.new.self.items c.push_reserved-3.new.self.items cap) (sym new_rows)
    (
    subst (λ (m : List Bool). AreIndexed next (rows ++ None ∷ []) m c.push_reserved-3.new.self.items cap) (sym new_marks)
    (subst (λ (p : List ℕ). AreIndexed next (rows ++ None ∷ []) (marks ++ true ∷ []) p cap) (sym new_places) done)
    )

pub returns-clause-wider : goal.returns-clause-wider
returns-clause-wider c =
    let rows = c.in_ok-reserve-2.ensures.items ∙ ap (λ (x : IndexedState). x.rows) c.self.view_is in
    let marks = c.in_ok-reserve-3.ensures.items ∙ ap (λ (x : IndexedState). x.stale) c.self.view_is in
    wider c.args.self.now (record { index = c.reserve.new.self; rows = c.push_reserved.new.self.items; stale = c.push_reserved-2.new.self.items })
    (c.push_reserved.ensures.items ∙ ap (λ (r : List (Option Row)). r ++ None ∷ []) rows)
    (c.push_reserved-2.ensures.items ∙ ap (λ (m : List Bool). m ++ true ∷ []) marks)
