use Rattle.hx_outbox.proofs.Outs.{more-refl}
use Rattle.hx_outbox.proofs.outboxes.put_next.Goals as goal

pub returns-in-None-clause-more : goal.returns-in-None-clause-more
returns-in-None-clause-more g c = more-refl _
