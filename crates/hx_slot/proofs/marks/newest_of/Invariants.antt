use Rattle.std.proofs.Common.{◌≡◌, None, drop}
use Rattle.std.specs.Option.{option_copied, option_map}
use Rattle.hx_model.specs.Slots.{mark_by}
use Rattle.hx_slot.specs.MarksAndTouches.{newest_over}
use Rattle.hx_slot.proofs.marks.newest_of.Given as goal

abbrev pub invariant-loop-taken : goal.invariant-loop-taken
invariant-loop-taken l = newest_over l.session (option_map mark_by (option_copied l.newest)) (drop l.taken-index l.line) ≡ newest_over l.session None l.line
