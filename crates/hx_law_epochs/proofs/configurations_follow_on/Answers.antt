-- In every run each configuration follows on the one before, and those that it leaves out have halted.
use Rattle.hx_law_epochs.proofs.Runs.{issued-well}
use Rattle.hx_law_epochs.proofs.configurations_follow_on.Goals as goal

pub returns : goal.returns
returns c = issued-well
