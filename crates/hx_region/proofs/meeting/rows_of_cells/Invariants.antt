use Rattle.std.proofs.Common.{◌≡◌, ◌+◌}
use Rattle.std.specs.List.{flat_map}
use Rattle.hx_types.specs.Words.{below}
use Rattle.hx_region.specs.Ranges.{rows_from}
use Rattle.hx_region.proofs.meeting.rows_of_cells.Given as goal

abbrev pub invariant-loop-place : goal.invariant-loop-place
invariant-loop-place l = l.rows.items ≡ flat_map (λ place. rows_from l.size (l.cells.first + place) l.rows_of_rest.items) (below l.place)
