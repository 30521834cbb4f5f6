use Rattle.hx_outbox.proofs.Outs.{more-trans}
use Rattle.hx_outbox.proofs.offers.put_twice.Goals as goal

pub returns-clause-more : goal.returns-clause-more
returns-clause-more g c = more-trans _ _ _ c.put_or_keep.ensures.more c.put_or_keep-2.ensures.more
