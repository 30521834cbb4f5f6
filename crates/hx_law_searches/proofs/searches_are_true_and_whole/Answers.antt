-- In every run each finished search is true and whole.
use Rattle.hx_law_searches.proofs.Headline.{runs_search_well}
use Rattle.hx_law_searches.proofs.searches_are_true_and_whole.Goals as goal

pub returns : goal.returns
returns c = runs_search_well
