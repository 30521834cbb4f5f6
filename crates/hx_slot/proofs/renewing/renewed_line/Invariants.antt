use Rattle.std.proofs.Common.{◌≡◌, false, take}
use Rattle.std.specs.List.{AllByRecursion}
use Rattle.hx_slot.specs.Acks.{AreSameUpdates}
use Rattle.hx_slot.specs.declared.updates.AcceptedUpdate.{AcceptedUpdate}
use Rattle.hx_slot.proofs.renewing.renewed_line.Given as goal

abbrev pub invariant-loop-taken : goal.invariant-loop-taken
invariant-loop-taken l = AreSameUpdates (take l.taken-index l.line) l.copy.items × AllByRecursion (λ (t : AcceptedUpdate). t.acknowledged ≡ false) l.copy.items
