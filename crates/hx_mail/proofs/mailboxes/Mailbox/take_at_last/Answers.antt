use Rattle.std.proofs.Common.{◌∙◌}
use Rattle.crossbeam_queue.specs.Passes.{view}
use Rattle.hx_mail.proofs.Keeping.{own_carried, take_either, IsNamed}
use Rattle.hx_mail.proofs.Steps.{takes}
use Rattle.hx_mail.proofs.mailboxes.Mailbox.take_at_last.Goals as goal

pub pop_as-requires-clause-rule : goal.pop_as-requires-clause-rule
pop_as-requires-clause-rule g c = (
  takes _ _ (own_carried c.port.inside.name c.port.inside.splits (view c.port.inside.pass) (c.port.invariant.1, c.port.invariant.2, c.port.invariant.3)),
  λ items views kept at. (views, _, kept, at),
)

pub invariant_of-port : goal.invariant_of-port
invariant_of-port g c =
    let after : IsNamed c.port.inside.name c.port.inside.splits (view c.pop_as.new.pass) =
    take_either _ c.port.inside.name c.port.inside.splits (view c.port.inside.pass) _ c.pop_as.result
    (c.port.invariant.1, c.port.invariant.2, c.port.invariant.3) c.pop_as.ensures.rule in
    (c.pop_as.ensures.queue.2 ∙ c.port.invariant.0, after.0, after.1, after.2)
