use Rattle.hx_script.proofs.OneSpace.{bundle_sound}
use Rattle.hx_script.proofs.laws.bundles_are_valid.Goals as goal

pub returns : goal.returns
returns c = bundle_sound
