use Rattle.std.proofs.Common.{◌≡◌, length}
use Rattle.hx_model.specs.Places.{touched_in}
use Rattle.hx_slot.specs.MarksAndTouches.{touched_over}
use Rattle.hx_slot.proofs.touches.last_touch.Given as goal

abbrev pub invariant-loop-taken : goal.invariant-loop-taken
invariant-loop-taken l = touched_over l.region (touched_in l.region l.touches) l.rest ≡ touched_over l.region (touched_in l.region l.touches) l.line

abbrev pub decreases-loop-taken : goal.decreases-loop-taken
decreases-loop-taken l = length l.rest
