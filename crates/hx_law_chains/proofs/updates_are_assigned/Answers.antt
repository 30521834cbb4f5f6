-- The law from what every run keeps.
use Rattle.hx_law_chains.proofs.Headline.{runs_assign_updates}
use Rattle.hx_law_chains.proofs.updates_are_assigned.Goals as goal

pub returns : goal.returns
returns c = runs_assign_updates
