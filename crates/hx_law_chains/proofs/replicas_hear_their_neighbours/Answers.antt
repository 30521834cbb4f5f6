-- The law from what every run keeps.
use Rattle.hx_law_chains.proofs.Listening.{runs_hear_neighbours}
use Rattle.hx_law_chains.proofs.replicas_hear_their_neighbours.Goals as goal

pub returns : goal.returns
returns c = runs_hear_neighbours
