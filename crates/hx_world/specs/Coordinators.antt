-- The coordinator of a world before and after one of its entries.
use Rattle.std.specs.Prelude.{◌≡◌, ◌+◌}
use Rattle.hx_model.specs.Types.{Input}
use Rattle.hx_model.specs.CoordinatorSteps.{coordinator_step}
use Rattle.hx_world.specs.declared.coordinators.CountedCoordinator.{CountedCoordinator}

-- the coordinator has taken the input
pub record HasTaken (old new : CountedCoordinator) (input : Input) : Type 0 where
  pub state : new.coordinator ≡ (coordinator_step old.coordinator input).state
  pub entries : new.entries ≡ old.entries + 1

-- the coordinator is as it was
pub record IsSameCoordinator (old new : CountedCoordinator) : Type 0 where
  pub state : new.coordinator ≡ old.coordinator
  pub entries : new.entries ≡ old.entries
