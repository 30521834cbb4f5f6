-- Nothing is booked at the start.
use Rattle.std.proofs.Common.{[], ap, ◌∙◌}
use Rattle.hx_model.specs.Types.{Script}
use Rattle.hx_service.proofs.Empty.{at-start}
use Rattle.hx_service.proofs.services.Service.start.Goals as goal

pub invariant_of-result : goal.invariant_of-result
invariant_of-result c =
    at-start c.args.script.now c.in_ok-world.world c.len.result c.in_ok-progress.progress.items c.new.result.items
    (c.in_ok-world.ensures ∙ ap (λ (s : Script). record { script = s; trace = [] }) c.in_ok-empty.ensures.0)
    c.len.ensures c.in_ok-progress.ensures c.new.ensures.items
