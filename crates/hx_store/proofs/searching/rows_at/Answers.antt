use Rattle.std.proofs.Common.{◌++◌, List, ap, get_or, ◌∙◌, arith}
use Rattle.std.proofs.lemmas.Option.{slice_get-get_or}
use Rattle.hx_model.specs.Types.{Row}
use Rattle.hx_types.specs.Words.{list_of}
use Rattle.hx_index.specs.Orders.{rows_at}
use Rattle.hx_store.proofs.Lists.{flat-next}
use Rattle.hx_store.proofs.searching.rows_at.Goals as goal

pub loop-place-preserved : goal.loop-place-preserved
loop-place-preserved c =
    let place = get_or c.args.places.now c.loop-place.place-index 0 in (
      c.in_ok-add_row_at.ensures.more
          ∙ ap (λ (l : List Row). l ++ list_of (rows_at c.args.rows.now place)) c.loop-place.invariant.0
          ∙ flat-next (λ i. list_of (rows_at c.args.rows.now i)) c.args.places.now c.loop-place.place-index place
          (slice_get-get_or c.args.places.now c.loop-place.place-index 0 c.loop-place-test.true),
      (let one = c.add_row_at.ensures.one in let so_far = c.loop-place.invariant.1 in omega (arith, one, so_far)),
      (let same = c.add_row_at.ensures.capacity in let room = c.loop-place.invariant.2 in omega (arith, same, room)),
    )

pub add_row_at-requires : goal.add_row_at-requires
add_row_at-requires c =
    let so_far = c.loop-place.invariant.1 in
    let room = c.loop-place.invariant.2 in
    let test = c.loop-place-test.true in
    omega (arith, so_far, room, test)
