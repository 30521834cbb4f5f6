use Rattle.std.proofs.Common.{List, ◌++◌, None, map, reverse, take, ap, sym, ◌∙◌, ◌<◌, length, arith}
use Rattle.hx_model.specs.Types.{Item}
use Rattle.hx_history.specs.declared.items.ItemRef.{ItemRef}
use Rattle.hx_model.specs.Histories.{write_item}
use Rattle.hx_history.specs.Events.{item_on, item_view, read_view, told, updates_at, version_in}
use Rattle.hx_history.proofs.Places.{placed_from, placed_after}
use Rattle.hx_history.proofs.Telling.{told_more}
use Rattle.hx_history.proofs.placing.arrange.Goals as goal

pub loop-place-init : goal.loop-place-init
loop-place-init c =
    let within : 0 < length c.in_ok-places.places.items = omega (arith, c.in_ok-places.ensures.len) in
    c.in_ok-push_reads.ensures
    ∙ ap (λ (xs : List ItemRef). map item_view xs ++ map (item_on None) (map read_view c.deref.result.now)) c.in_ok-items.ensures.items
    ∙ ap (λ rs. map (item_on None) (map read_view rs)) c.deref.ensures.value
    ∙ placed_from (λ reads. reads.items) c.in_ok-places.places.items c.args.writes.now c.args.reads.now 0 c.index.result.now None
    c.index.ensures within (c.in_ok-places.ensures.each 0 (omega arith))

pub loop-place-preserved : goal.loop-place-preserved
loop-place-preserved c =
    let u = c.index-writes-place.result in
    c.in_ok-push_reads-2.ensures
    ∙ ap (λ object. map item_view c.push_write.new.items.items ++ map (item_on object) (map read_view c.deref-in-loop-place.result.now)) c.as_ref.ensures.value
    ∙ ap (λ (xs : List Item). xs ++ map (item_on u.now.object) (map read_view c.deref-in-loop-place.result.now))
    (c.in_ok-push_write.ensures ∙ ap (λ (xs : List Item). xs ++ write_item c.args.script.now u.now) c.loop-place.invariant)
    ∙ ap (λ (ys : List Item). told c.args.script.now (map read_view c.args.reads.now)
    (version_in c.args.writes.now c.loop-place.place)
    (reverse (updates_at (take c.loop-place.place c.args.writes.now))) ++ write_item c.args.script.now u.now ++ ys)
    (
    ap (λ rs. map (item_on u.now.object) (map read_view rs)) c.deref-in-loop-place.ensures.value
    ∙ placed_after (λ reads. reads.items) c.in_ok-places.places.items c.args.writes.now c.args.reads.now c.loop-place.place c.index-in-loop-place.result.now u
    c.index-in-loop-place.ensures c.in_ok-places.ensures.len c.loop-place-test.true c.index-writes-place.is c.in_ok-places.ensures.each
    )
    ∙ sym (told_more c.args.script.now (map read_view c.args.reads.now) c.args.writes.now c.loop-place.place u c.loop-place-test.true c.index-writes-place.is)
