use Rattle.std.proofs.Common.{◌≡◌, drop}
use Rattle.hx_model.specs.Slots.{mark_among}
use Rattle.hx_slot.proofs.marks.mark_of.Given as goal

abbrev pub invariant-loop-mark : goal.invariant-loop-mark
invariant-loop-mark l = mark_among l.session (drop l.mark-index l.marks) ≡ mark_among l.session l.marks
