-- The law from what every run keeps.
use Rattle.hx_law_chains.proofs.Headline.{runs_keep_order}
use Rattle.hx_law_chains.proofs.chains_keep_their_order.Goals as goal

pub returns : goal.returns
returns c = runs_keep_order
