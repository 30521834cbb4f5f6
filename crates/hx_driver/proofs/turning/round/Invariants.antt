use Rattle.hx_driver.specs.Moves.{GoesOnAt}
use Rattle.hx_driver.specs.Slices.{HaveNoRetry}
use Rattle.hx_driver.proofs.turning.round.Given as goal

abbrev pub invariant-loop-at : goal.invariant-loop-at
invariant-loop-at g l =
    GoesOnAt l.floor l.initial.crew l.crew ((g.dyn-1.0.entry l.initial.fate.vtable).1.state l.initial.fate.value)
    ((g.dyn-1.0.entry l.fate.vtable).1.state l.fate.value)
    × HaveNoRetry l.floor.script.now l.initial.crew l.crew
