use Rattle.std.proofs.Common.{◌≡◌, take}
use Rattle.hx_model.specs.Slots.{pending_of_all}
use Rattle.hx_store.proofs.stores.Store.pending.Given as goal

abbrev pub invariant-loop-i : goal.invariant-loop-i
invariant-loop-i l = l.updates ≡ pending_of_all (take l.i l.self.states)
