-- In every run in whose configurations no region of the space is lost no call is refused or in doubt.
use Rattle.hx_law_causes.proofs.Headline.{runs_answer_all}
use Rattle.hx_law_causes.proofs.present_regions_answer_all.Goals as goal

pub returns : goal.returns
returns c = runs_answer_all
