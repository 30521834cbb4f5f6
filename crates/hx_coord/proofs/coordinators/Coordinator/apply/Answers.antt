use Rattle.std.proofs.Common.{◌≡◌, ap, sym, subst, ◌∙◌}
use Rattle.std.specs.Prelude.{unwrap_or}
use Rattle.hx_model.specs.Types.{Config}
use Rattle.hx_model.specs.CoordinatorSteps.{CoordinatorState, coordinator_step}
use Rattle.hx_coord.specs.Changes.{standing}
use Rattle.hx_coord.specs.Coordinators.{IsCoordinatorOf}
use Rattle.hx_coord.proofs.Posted.{stays_of_space}
use Rattle.hx_coord.proofs.coordinators.Coordinator.apply.Goals as goal

pub returns-clause-of_space : goal.returns-clause-of_space
returns-clause-of_space c = λ space h brings.
    let same : standing c.put_config.new.config c.args.plan.agenda ≡ (coordinator_step c.args.self.now c.args.plan.entry.input).state =
    ap (λ (k : Config). standing k c.args.plan.agenda)
    (c.put_config.ensures ∙ ap (λ (x : CoordinatorState). unwrap_or c.args.plan.config x.config) c.self.view_is)
    ∙ c.requires.change in
    subst (IsCoordinatorOf space) (sym same) (stays_of_space space c.args.self.now h c.args.plan.entry.input brings)
