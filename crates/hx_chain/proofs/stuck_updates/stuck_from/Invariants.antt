use Rattle.std.proofs.Common.{◌≡◌, drop}
use Rattle.hx_model.specs.Leading.{stuck_among}
use Rattle.hx_model.specs.Slots.{pending_of}
use Rattle.hx_chain.proofs.stuck_updates.stuck_from.Given as goal

abbrev pub invariant-loop-i : goal.invariant-loop-i
invariant-loop-i l = stuck_among l.config (drop l.i (pending_of l.slot.state)) ≡ stuck_among l.config (drop l.committed (pending_of l.slot.state))
