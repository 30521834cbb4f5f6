use Rattle.hx_outbox.proofs.Offering.{offered-one}
use Rattle.hx_outbox.proofs.offers.offer_one.Goals as goal

pub returns-clause-offered : goal.returns-clause-offered
returns-clause-offered g c = offered-one _ _ _ _ _ _ _ _ c.choice_for-choice.ensures.choice c.count.ensures.counted c.put_times.ensures.weight
