use Rattle.std.proofs.Common.{◌≡◌, ◌+◌, drop}
use Rattle.hx_model.specs.Slots.{pending_of}
use Rattle.hx_replica.specs.Outputs.{ended_count}
use Rattle.hx_replica.proofs.settling.ended_count.Given as goal

abbrev pub invariant-loop-i : goal.invariant-loop-i
invariant-loop-i l = ended_count l.tail_versions (pending_of l.slot.state) ≡ l.i + ended_count l.tail_versions (drop l.i (pending_of l.slot.state))
