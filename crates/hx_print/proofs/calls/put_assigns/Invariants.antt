use Rattle.std.proofs.Common.{◌≡◌, ◌++◌, take}
use Rattle.hx_print.specs.Printing.{assigns_text}
use Rattle.hx_print.proofs.calls.put_assigns.Given as goal

abbrev pub invariant-loop-assign : goal.invariant-loop-assign
invariant-loop-assign l = l.out.items ≡ l.fn.out.items ++ assigns_text l.space (take l.assign-index l.assigns)
