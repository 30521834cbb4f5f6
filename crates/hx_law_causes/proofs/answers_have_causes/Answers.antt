-- In every run each answer of each call has its cause.
use Rattle.hx_law_causes.proofs.Headline.{runs_have_causes}
use Rattle.hx_law_causes.proofs.answers_have_causes.Goals as goal

pub returns : goal.returns
returns c = runs_have_causes
