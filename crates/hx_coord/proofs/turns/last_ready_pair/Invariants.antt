use Rattle.std.proofs.Common.{◌≡◌, true, length}
use Rattle.hx_types.specs.Configs.{any_ready}
use Rattle.hx_model.specs.CoordinatorSteps.{last_ready_pair}
use Rattle.hx_coord.proofs.turns.last_ready_pair.Given as goal

-- what is left has a ready member, and the same pair
abbrev pub invariant-members : goal.invariant-members
invariant-members l =
    record {
      ready : any_ready l.rest ≡ true;
      same : last_ready_pair l.rest ≡ last_ready_pair l.members;
    }

abbrev pub decreases-members : goal.decreases-members
decreases-members l = length l.rest
