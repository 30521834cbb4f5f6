use Rattle.std.proofs.Common.{◌≡◌, length}
use Rattle.std.specs.Option.{option_copied}
use Rattle.hx_slot.specs.Updates.{row_over}
use Rattle.hx_slot.proofs.line.row_over.Given as goal

abbrev pub invariant-loop-taken : goal.invariant-loop-taken
invariant-loop-taken l = row_over (option_copied l.base) l.rest ≡ row_over (option_copied l.base) l.line

abbrev pub decreases-loop-taken : goal.decreases-loop-taken
decreases-loop-taken l = length l.rest
