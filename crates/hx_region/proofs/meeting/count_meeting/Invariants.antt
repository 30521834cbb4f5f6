use Rattle.std.proofs.Common.{◌≡◌, ◌≤◌, ◌*◌, drop, length}
use Rattle.hx_types.specs.Subspaces.{size_of}
use Rattle.hx_region.specs.Ranges.{rows_met}
use Rattle.hx_region.proofs.meeting.count_meeting.Given as goal

abbrev pub invariant-loop-axis : goal.invariant-loop-axis
invariant-loop-axis l =
    (l.count * length (rows_met l.space l.terms (drop l.axis-index l.axes)) ≡ length (rows_met l.space l.terms l.axes))
    × (l.count * size_of (drop l.axis-index l.axes) ≤ size_of l.axes)
