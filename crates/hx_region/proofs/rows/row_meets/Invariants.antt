use Rattle.std.proofs.Common.{◌≡◌, drop}
use Rattle.hx_types.specs.Subspaces.{size_of}
use Rattle.hx_model.specs.Regions.{row_meets}
use Rattle.hx_region.proofs.rows.row_meets.Given as goal

abbrev pub invariant-loop-axis : goal.invariant-loop-axis
invariant-loop-axis l =
    (row_meets l.space l.terms (drop l.axis-index l.axes) l.row ≡ row_meets l.space l.terms l.axes l.initial.row)
    × (l.regions ≡ size_of (drop l.axis-index l.axes))
