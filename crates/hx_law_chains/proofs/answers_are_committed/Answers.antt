-- The law from what every run keeps.
use Rattle.hx_law_chains.proofs.Headline.{runs_answer_committed}
use Rattle.hx_law_chains.proofs.answers_are_committed.Goals as goal

pub returns : goal.returns
returns c = runs_answer_committed
