use Rattle.hx_driver.specs.Moves.{GoesOnAt}
use Rattle.hx_driver.specs.Slices.{HaveNoRetry}
use Rattle.hx_driver.proofs.turning.few_turns.Given as goal

abbrev pub invariant-loop-turn : goal.invariant-loop-turn
invariant-loop-turn g l =
    GoesOnAt l.floor l.initial.crew l.crew ((g.dyn-1.0.entry l.initial.fate.vtable).1.state l.initial.fate.value)
    ((g.dyn-1.0.entry l.fate.vtable).1.state l.fate.value)
    × HaveNoRetry l.floor.script.now l.initial.crew l.crew
