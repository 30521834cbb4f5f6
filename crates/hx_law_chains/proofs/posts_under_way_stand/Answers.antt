-- The law from what every run keeps.
use Rattle.hx_law_chains.proofs.Headline.{runs_posts_stand}
use Rattle.hx_law_chains.proofs.posts_under_way_stand.Goals as goal

pub returns : goal.returns
returns c = runs_posts_stand
