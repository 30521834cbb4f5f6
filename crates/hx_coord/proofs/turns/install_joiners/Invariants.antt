use Rattle.std.proofs.Common.{◌≡◌, ◌++◌, take}
use Rattle.std.specs.List.{flat_map}
use Rattle.hx_model.specs.CoordinatorSteps.{join_posts}
use Rattle.hx_coord.proofs.turns.install_joiners.Given as goal

abbrev pub invariant-loop-members : goal.invariant-loop-members
invariant-loop-members l = l.posts ≡ l.initial.posts ++ flat_map (join_posts l.config) (take l.members-index l.config.regions)
