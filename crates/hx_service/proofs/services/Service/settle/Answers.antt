-- Entries alone were added.
use Rattle.std.proofs.Common.{subst}
use Rattle.hx_service.specs.Services.{Grows, ServiceState}
use Rattle.hx_service.proofs.Outcomes.{settled}
use Rattle.hx_service.proofs.services.Service.settle.Goals as goal

pub returns-clause-grows : goal.returns-clause-grows
returns-clause-grows c =
    subst (λ (w : ServiceState). Grows w c.settle.new.world) c.self.view_is
    (settled c.self.inside.world c.settle.new.world c.settle.ensures.script c.settle.ensures.drained)
