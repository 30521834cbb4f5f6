use Rattle.std.proofs.Common.{◌≡◌, false, vec_capacity, vec_len}
use Rattle.std.specs.List.{AllWithin}
use Rattle.hx_slot.specs.Acks.{AreSameUpdates}
use Rattle.hx_slot.specs.declared.updates.AcceptedUpdate.{AcceptedUpdate}
use Rattle.hx_slot.proofs.acks.forget_acks.Given as goal

abbrev pub invariant-loop-place : goal.invariant-loop-place
invariant-loop-place l = record {
  same : AreSameUpdates l.initial.accepted.items l.accepted.items;
  forgotten : AllWithin (λ (t : AcceptedUpdate). t.acknowledged ≡ false) l.accepted.items l.from l.place;
  len : vec_len l.accepted ≡ vec_len l.initial.accepted;
  capacity : vec_capacity l.accepted ≡ vec_capacity l.initial.accepted;
}
