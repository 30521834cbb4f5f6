use Rattle.hx_mail.proofs.Keeping.{binds_first}
use Rattle.hx_mail.proofs.Steps.{opens}
use Rattle.hx_mail.proofs.mailboxes.Mailbox.named.Goals as goal

pub ruled-requires-clause-rule : goal.ruled-requires-clause-rule
ruled-requires-clause-rule g c = opens

pub another-spent-requires-clause-rule : goal.another-spent-requires-clause-rule
another-spent-requires-clause-rule g c = binds_first _ _ _ _ c.in_ok-queue.ensures.3 c.requires.names
