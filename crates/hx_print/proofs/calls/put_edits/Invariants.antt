use Rattle.std.proofs.Common.{◌≡◌, ◌++◌, take}
use Rattle.hx_print.specs.Printing.{edits_text}
use Rattle.hx_print.proofs.calls.put_edits.Given as goal

abbrev pub invariant-loop-edit : goal.invariant-loop-edit
invariant-loop-edit l = l.out.items ≡ l.fn.out.items ++ edits_text l.space (take l.edit-index l.edits)
