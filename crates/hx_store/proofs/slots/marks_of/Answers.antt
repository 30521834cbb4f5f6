use Rattle.std.proofs.Common.{◌<◌, arith, get_or, length, true, ◌∙◌}
use Rattle.std.proofs.lemmas.Option.{slice_get-get_or}
use Rattle.hx_index.proofs.Lemmas.{set-length}
use Rattle.hx_store.proofs.Walking.{mark-more}
use Rattle.hx_store.proofs.slots.marks_of.Goals as goal

pub loop-place-preserved : goal.loop-place-preserved
loop-place-preserved c =
    let marks = c.loop-place.marks.items in
    let places = c.args.places.now in
    let k = c.loop-place.place-index in
    let place = get_or places k 0 in
    let count = c.loop-place.invariant.0 in
    let within : place < length marks = (let l = c.requires k 0 c.loop-place-test.true in omega (arith, l, count)) in (
      set-length marks place true ∙ count,
      mark-more marks places k place within (slice_get-get_or places k 0 c.loop-place-test.true) c.loop-place.invariant.1,
    )
