use Rattle.hx_outbox.proofs.Outs.{more-refl}
use Rattle.hx_outbox.proofs.offers.put_times.Goals as goal

pub returns-in-Lose-clause-more : goal.returns-in-Lose-clause-more
returns-in-Lose-clause-more g c = more-refl _
