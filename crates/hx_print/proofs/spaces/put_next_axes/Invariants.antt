use Rattle.std.proofs.Common.{◌≡◌, ◌++◌, take}
use Rattle.std.specs.List.{flat_map}
use Rattle.hx_print.specs.Printing.{next_axis_text}
use Rattle.hx_print.proofs.spaces.put_next_axes.Given as goal

abbrev pub invariant-loop-axis : goal.invariant-loop-axis
invariant-loop-axis l = l.out.items ≡ l.fn.out.items ++ flat_map (next_axis_text l.space) (take l.axis-index l.axes)
