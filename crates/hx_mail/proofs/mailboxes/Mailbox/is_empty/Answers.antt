use Rattle.std.proofs.Common.{◌∙◌}
use Rattle.crossbeam_queue.specs.Passes.{view}
use Rattle.hx_mail.proofs.Keeping.{same_named, IsNamed}
use Rattle.hx_mail.proofs.mailboxes.Mailbox.is_empty.Goals as goal

pub is_empty_as-requires-clause-rule : goal.is_empty_as-requires-clause-rule
is_empty_as-requires-clause-rule c items views kept at = (views, _, kept, at)

pub invariant_of-port : goal.invariant_of-port
invariant_of-port c =
    let named : IsNamed c.port.inside.name c.port.inside.splits (view c.port.inside.pass) = (c.port.invariant.1, c.port.invariant.2, c.port.invariant.3) in
    let after = same_named _ _ (view c.port.inside.pass) _ named c.is_empty_as.ensures.queue.1 in
    (c.is_empty_as.ensures.queue.0.2 ∙ c.port.invariant.0, after.0, after.1, after.2)
