use Rattle.hx_script.proofs.OfBundle.{bundles_never_by_step}
use Rattle.hx_script.proofs.laws.bundles_are_not_refused_by_steps.Goals as goal

pub returns : goal.returns
returns c text line = bundles_never_by_step text line
