use Rattle.std.proofs.Common.{◌≡◌, ◌+◌, drop}
use Rattle.hx_slot.specs.Acks.{front_with}
use Rattle.hx_slot.proofs.acks.acknowledged_with.Given as goal

abbrev pub invariant-loop-count : goal.invariant-loop-count
invariant-loop-count l = l.count + front_with l.version.0 (drop l.count l.pending) ≡ front_with l.version.0 l.pending
