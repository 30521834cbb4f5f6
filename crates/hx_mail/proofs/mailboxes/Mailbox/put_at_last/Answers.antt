use Rattle.std.proofs.Common.{ap, sym, ◌∙◌}
use Rattle.crossbeam_queue.specs.Passes.{view, ruled_capacity}
use Rattle.hx_mail.specs.Boxes.{Ported}
use Rattle.hx_mail.specs.Ports.{mailed_of}
use Rattle.hx_mail.proofs.Keeping.{own_carried, put_named, same_named, IsNamed}
use Rattle.hx_mail.proofs.Steps.{puts}
use Rattle.hx_mail.proofs.mailboxes.Mailbox.put_at_last.Goals as goal
use Rattle.hx_mail.proofs.mailboxes.Mailbox.put_at_last.Goals.{in-Ok, in-Err}

pub push_as-requires-clause-rule : goal.push_as-requires-clause-rule
push_as-requires-clause-rule g c = (
  puts (ruled_capacity c.self.inside.queue) c.port.inside.pass.id
      (view c.port.inside.pass) record { port = c.port.inside.name; envelope = c.args.envelope } c.args.self.now.names
      (ap (λ (p : Ported). p.view.of_box) c.port.view_is ∙ c.requires.port.1) c.requires.addressed (sym c.port.invariant.1)
      (own_carried c.port.inside.name c.port.inside.splits (view c.port.inside.pass) (c.port.invariant.1, c.port.invariant.2, c.port.invariant.3)),
  λ items views kept at. (views, _, kept, at),
)

pub invariant_of-port : goal.invariant_of-port
invariant_of-port g c =
    let named : IsNamed c.port.inside.name c.port.inside.splits (view c.port.inside.pass) = (c.port.invariant.1, c.port.invariant.2, c.port.invariant.3) in
    let after : IsNamed c.port.inside.name c.port.inside.splits (view c.push_as.new.pass) = elim c.match-push_as.branch [
      | in-Ok w ↦ put_named _ _ (mailed_of c.args.envelope) (view c.port.inside.pass) _ named w.in-Ok.ensures.rule
      | in-Err w ↦ same_named _ _ (view c.port.inside.pass) _ named w.in-Err.ensures.rule.1
    ] in
    (c.push_as.ensures.queue.2 ∙ c.port.invariant.0, after.0, after.1, after.2)
