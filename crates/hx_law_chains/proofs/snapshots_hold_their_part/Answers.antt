-- The law from what every run keeps.
use Rattle.hx_law_chains.proofs.Headline.{runs_send_parts}
use Rattle.hx_law_chains.proofs.snapshots_hold_their_part.Goals as goal

pub returns : goal.returns
returns c = runs_send_parts
