use Rattle.std.proofs.Common.{◌≡◌, ap, sym, subst, ◌∙◌}
use Rattle.hx_model.specs.Types.{Config}
use Rattle.hx_types.specs.Configs.{first_config}
use Rattle.hx_model.specs.CoordinatorSteps.{coordinator_at_start}
use Rattle.hx_coord.specs.declared.agendas.Agenda.{Agenda}
use Rattle.hx_coord.specs.Changes.{standing}
use Rattle.hx_coord.specs.Coordinators.{IsCoordinatorOf}
use Rattle.hx_coord.proofs.Posted.{starts_of_space}
use Rattle.hx_coord.proofs.coordinators.Coordinator.start.Goals as goal

pub returns-clause-of_space : goal.returns-clause-of_space
returns-clause-of_space c =
    let same : standing c.in_ok-config.config c.new.result ≡ coordinator_at_start c.args.space.now c.args.sessions =
    ap (λ (k : Config). standing k c.new.result) c.in_ok-config.ensures
    ∙ ap (λ (a : Agenda). standing (first_config c.args.space.now) a) c.new.ensures in
    subst (IsCoordinatorOf c.args.space.now) (sym same) (starts_of_space c.args.space.now c.requires c.args.sessions)
