use Rattle.std.proofs.Common.{◌≡◌, ◌+◌, drop}
use Rattle.hx_slot.specs.Acks.{front_acked}
use Rattle.hx_slot.proofs.acks.acknowledged_front.Given as goal

abbrev pub invariant-loop-count : goal.invariant-loop-count
invariant-loop-count l = l.count + front_acked (drop l.count l.pending) ≡ front_acked l.pending
