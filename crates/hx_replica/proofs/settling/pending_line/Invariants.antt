use Rattle.std.proofs.Common.{◌≡◌, take}
use Rattle.std.specs.List.{All}
use Rattle.hx_model.specs.Slots.{pending_of}
use Rattle.hx_replica.specs.Outputs.{IsHere, seen}
use Rattle.hx_replica.proofs.settling.pending_line.Given as goal

abbrev pub invariant-loop-i : goal.invariant-loop-i
invariant-loop-i l = (seen l.line.items ≡ take l.i (pending_of l.slot.state)) × All (IsHere l.slot.region) l.line.items
