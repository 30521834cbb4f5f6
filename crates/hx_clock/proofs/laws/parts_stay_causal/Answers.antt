use Rattle.hx_clock.proofs.Orderly.{stays_orderly}
use Rattle.hx_clock.proofs.laws.parts_stay_causal.Goals as goal

pub returns : goal.returns
returns c = stays_orderly
