use Rattle.std.proofs.Common.{◌∙◌}
use Rattle.crossbeam_queue.specs.Passes.{view}
use Rattle.hx_mail.specs.Ports.{sent_of}
use Rattle.hx_mail.proofs.Keeping.{own_carried, take_named, IsNamed}
use Rattle.hx_mail.proofs.Steps.{takes}
use Rattle.hx_mail.proofs.mailboxes.Mailbox.take.Goals as goal

pub try_pop_as-requires-clause-rule : goal.try_pop_as-requires-clause-rule
try_pop_as-requires-clause-rule g c =
    takes _ _ (own_carried c.port.inside.name c.port.inside.splits (view c.port.inside.pass) (c.port.invariant.1, c.port.invariant.2, c.port.invariant.3))

pub invariant_of-port : goal.invariant_of-port
invariant_of-port g c =
    let named : IsNamed c.port.inside.name c.port.inside.splits (view c.port.inside.pass) = (c.port.invariant.1, c.port.invariant.2, c.port.invariant.3) in
    let after = take_named _ _ (sent_of c.in-Some.letter) (view c.port.inside.pass) _ named c.in-Some.ensures.rule.0 in
    (c.try_pop_as.ensures.queue.2 ∙ c.port.invariant.0, after.0, after.1, after.2)
