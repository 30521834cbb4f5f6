-- What contracts see of a coordinator.
use Rattle.hx_model.specs.CoordinatorSteps.{CoordinatorState}
use Rattle.hx_coord.specs.declared.coordinators.Coordinator.TheInside.{Inside}
use Rattle.hx_coord.specs.Changes.{standing}

abbrev pub value_of : Inside → CoordinatorState
value_of c = standing c.config c.agenda
