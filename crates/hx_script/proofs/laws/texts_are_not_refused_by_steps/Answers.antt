use Rattle.hx_script.proofs.OfText.{never_by_step}
use Rattle.hx_script.proofs.laws.texts_are_not_refused_by_steps.Goals as goal

pub returns : goal.returns
returns c text line = never_by_step text line
