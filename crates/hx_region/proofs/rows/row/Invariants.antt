use Rattle.std.proofs.Common.{◌≡◌, ◌*◌, ◌+◌, ◌≤◌, drop}
use Rattle.hx_types.specs.Subspaces.{size_of}
use Rattle.hx_model.specs.Regions.{row_number}
use Rattle.hx_region.proofs.rows.row.Given as goal

abbrev pub invariant-loop-axis : goal.invariant-loop-axis
invariant-loop-axis l =
    (row_number l.space l.key l.object l.row (drop l.axis-index l.axes) ≡ row_number l.space l.key l.object 0 l.axes)
    × ((l.row + 1) * size_of (drop l.axis-index l.axes) ≤ size_of l.axes)
