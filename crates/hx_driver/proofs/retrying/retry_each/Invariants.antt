use Rattle.std.proofs.Common.{◌≡◌, None}
use Rattle.hx_driver.specs.Desks.{HasRetried}
use Rattle.hx_driver.specs.Moves.{GoesOnAt}
use Rattle.hx_driver.specs.Slices.{DoneTo, HasFaultSince, MayHaveRetried}
use Rattle.hx_driver.proofs.retrying.retry_each.Given as goal

abbrev pub invariant-loop-at : goal.invariant-loop-at
invariant-loop-at g l =
    GoesOnAt l.floor l.initial.crew l.crew ((g.dyn-1.0.entry l.initial.fate.vtable).1.state l.initial.fate.value)
    ((g.dyn-1.0.entry l.fate.vtable).1.state l.fate.value)
    × (l.crew.fault ≡ None → DoneTo (HasRetried l.floor.script.now) l.at l.initial.crew.desks.items l.crew.desks.items)
    × DoneTo (MayHaveRetried l.floor.script.now) l.at l.initial.crew.desks.items l.crew.desks.items
    × (l.initial.crew.fault ≡ None → HasFaultSince l.floor.script.now l.initial.crew.desks.items l.crew)
