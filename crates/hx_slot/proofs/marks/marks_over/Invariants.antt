use Rattle.std.proofs.Common.{◌≡◌, drop}
use Rattle.hx_slot.specs.MarksAndTouches.{marks_over}
use Rattle.hx_slot.proofs.marks.marks_over.Given as goal

abbrev pub invariant-loop-taken : goal.invariant-loop-taken
invariant-loop-taken l = marks_over l.marks.items (drop l.taken-index l.line) ≡ marks_over l.base.items l.line
