use Rattle.hx_slot.specs.States.{IsSettledInto}
use Rattle.hx_slot.proofs.slots.Slot.fold.Given as goal

abbrev pub invariant-loop : goal.invariant-loop
invariant-loop l = IsSettledInto l.initial.self l.self
