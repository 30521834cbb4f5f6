-- In every run the history of every key is linear.
use Rattle.hx_law_searches.proofs.Headline.{runs_are_linear}
use Rattle.hx_law_searches.proofs.histories_are_linear.Goals as goal

pub returns : goal.returns
returns c = runs_are_linear
