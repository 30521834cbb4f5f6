use Rattle.std.proofs.Common.{ap, ◌∙◌}
use Rattle.crossbeam_queue.specs.Passes.{view}
use Rattle.hx_mail.specs.Boxes.{Ported}
use Rattle.hx_mail.proofs.Steps.{splits}
use Rattle.hx_mail.proofs.mailboxes.Mailbox.split.Goals as goal

pub another-pass-requires-clause-rule : goal.another-pass-requires-clause-rule
another-pass-requires-clause-rule g c =
    splits c.port.inside.pass.id (view c.port.inside.pass) c.requires.first.0 (ap (λ (p : Ported). p.view.splits) c.port.view_is ∙ c.requires.first.1)
