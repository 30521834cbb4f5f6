-- Every run fits its script.
use Rattle.hx_law_searches.proofs.Headline.{runs_fit}
use Rattle.hx_law_searches.proofs.runs_fit_their_scripts.Goals as goal

pub returns : goal.returns
returns c = runs_fit
