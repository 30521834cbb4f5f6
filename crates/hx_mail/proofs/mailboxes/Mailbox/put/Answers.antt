use Rattle.std.proofs.Common.{ap, sym, ◌∙◌}
use Rattle.crossbeam_queue.specs.Passes.{view, ruled_capacity}
use Rattle.hx_mail.specs.Boxes.{Ported}
use Rattle.hx_mail.specs.Ports.{mailed_of}
use Rattle.hx_mail.proofs.Keeping.{own_carried, put_named, IsNamed}
use Rattle.hx_mail.proofs.Steps.{puts}
use Rattle.hx_mail.proofs.mailboxes.Mailbox.put.Goals as goal

pub try_push_as-requires-clause-rule : goal.try_push_as-requires-clause-rule
try_push_as-requires-clause-rule g c =
    puts (ruled_capacity c.self.inside.queue) c.port.inside.pass.id
    (view c.port.inside.pass) record { port = c.port.inside.name; envelope = c.args.envelope } c.args.self.now.names
    (ap (λ (p : Ported). p.view.of_box) c.port.view_is ∙ c.requires.port.1) c.requires.addressed (sym c.port.invariant.1)
    (own_carried c.port.inside.name c.port.inside.splits (view c.port.inside.pass) (c.port.invariant.1, c.port.invariant.2, c.port.invariant.3))

pub invariant_of-port : goal.invariant_of-port
invariant_of-port g c =
    let named : IsNamed c.port.inside.name c.port.inside.splits (view c.port.inside.pass) = (c.port.invariant.1, c.port.invariant.2, c.port.invariant.3) in
    let after = put_named _ _ (mailed_of c.args.envelope) (view c.port.inside.pass) _ named c.in-Ok.ensures.rule in
    (c.try_push_as.ensures.queue.2 ∙ c.port.invariant.0, after.0, after.1, after.2)
