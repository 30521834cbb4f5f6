use Rattle.hx_service.proofs.Booked.{runs_are_booked}
use Rattle.hx_service.proofs.laws.runs_are_booked.Goals as goal

pub returns : goal.returns
returns c = runs_are_booked
