use Rattle.std.proofs.Common.{◌≡◌, ◌++◌, take}
use Rattle.std.specs.List.{All}
use Rattle.hx_model.specs.Slots.{pending_of}
use Rattle.hx_replica.specs.Outputs.{IsHere, seen}
use Rattle.hx_replica.proofs.settling.line_of.Given as goal

abbrev pub invariant-loop-update : goal.invariant-loop-update
invariant-loop-update l = (seen l.line.items ≡ pending_of l.slot.state ++ seen (take l.update-index l.taken)) × All (IsHere l.slot.region) l.line.items
