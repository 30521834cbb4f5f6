use Rattle.hx_driver.proofs.Going.{goes-refl, still-at}
use Rattle.hx_driver.proofs.moves.move_at.Goals as goal

pub returns-in-Some-clause-on : goal.returns-in-Some-clause-on
returns-in-Some-clause-on g c = goes-refl _ _ _ c.args.crew.now _

pub returns-in-Some-clause-moved : goal.returns-in-Some-clause-moved
returns-in-Some-clause-moved g c = still-at _ c.args.to c.args.at c.args.crew.now _ c.in-Some.is
