use Rattle.std.proofs.Common.{◌≡◌, drop}
use Rattle.std.specs.List.{find}
use Rattle.hx_model.specs.ServerSteps.{pending_with}
use Rattle.hx_model.specs.Slots.{pending_of}
use Rattle.hx_replica.proofs.Acked.{has_number}
use Rattle.hx_replica.proofs.slot_steps.pending_with.Given as goal

abbrev pub invariant-loop-i : goal.invariant-loop-i
invariant-loop-i l = find (has_number l.version.0) (drop l.i (pending_of l.slot.state)) ≡ pending_with l.version.0 l.slot.state
