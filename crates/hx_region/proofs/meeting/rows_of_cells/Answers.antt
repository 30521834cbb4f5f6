-- The rows of one more cell are added.
use Rattle.std.proofs.Common.{ℕ, ◌+◌, ◌++◌, List, sym, ap, ◌∙◌}
use Rattle.hx_region.specs.Ranges.{rows_from}
use Rattle.hx_region.proofs.Counted.{flat_map_more}
use Rattle.hx_region.proofs.meeting.rows_of_cells.Goals as goal

pub loop-place-preserved : goal.loop-place-preserved
loop-place-preserved c =
    let rows = λ (place : ℕ). rows_from c.args.size (c.args.cells.first + place) c.args.rows_of_rest.now.items in
    c.in_ok-push_from.ensures ∙ ap (λ (l : List ℕ). l ++ rows c.loop-place.place) c.loop-place.invariant ∙ sym (flat_map_more rows c.loop-place.place)
