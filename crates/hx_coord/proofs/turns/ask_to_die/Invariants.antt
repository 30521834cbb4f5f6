use Rattle.std.proofs.Common.{◌≡◌, ◌++◌, take}
use Rattle.std.specs.List.{flat_map}
use Rattle.hx_model.specs.CoordinatorSteps.{Task, die_for}
use Rattle.hx_coord.proofs.turns.ask_to_die.Given as goal

abbrev pub invariant-loop-stop : goal.invariant-loop-stop
invariant-loop-stop l = l.posts ≡ l.initial.posts ++ flat_map (λ (t : Task). die_for t.op) (take l.stop-index l.todo)
