-- The law from what every run keeps.
use Rattle.hx_law_chains.proofs.Headline.{runs_keep_what_stands}
use Rattle.hx_law_chains.proofs.replicas_keep_what_stands.Goals as goal

pub returns : goal.returns
returns c = runs_keep_what_stands
