use Rattle.std.proofs.Common.{◌≡◌, ◌++◌, take}
use Rattle.hx_model.specs.Slots.{pending_of}
use Rattle.hx_store.proofs.copying.add_pending.Given as goal

abbrev pub invariant-loop-i : goal.invariant-loop-i
invariant-loop-i l = l.updates ≡ l.fn.updates ++ take l.i (pending_of l.slot.state)
