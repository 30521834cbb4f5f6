use Rattle.hx_script.proofs.LoneCalls.{lone_fits}
use Rattle.hx_script.proofs.laws.calls_fit_their_space.Goals as goal

pub returns : goal.returns
returns c = lone_fits
