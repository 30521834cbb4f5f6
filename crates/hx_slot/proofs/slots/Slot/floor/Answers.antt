use Rattle.std.proofs.Common.{◌≤◌, subst}
use Rattle.hx_model.specs.Slots.{top_of}
use Rattle.hx_slot.specs.States.{SlotState}
use Rattle.hx_slot.proofs.Lean.{floor-seen}
use Rattle.hx_slot.proofs.slots.Slot.floor.Goals as goal

pub returns-clause-below : goal.returns-clause-below
returns-clause-below c = subst (λ (s : SlotState). c.self.inside.floor.0 ≤ top_of s.state) c.self.view_is (floor-seen c.self.inside c.self.invariant)
