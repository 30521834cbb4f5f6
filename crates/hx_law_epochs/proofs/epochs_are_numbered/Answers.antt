-- In every run the epochs are numbered from 1.
use Rattle.hx_law_epochs.proofs.Runs.{numbered-well}
use Rattle.hx_law_epochs.proofs.epochs_are_numbered.Goals as goal

pub returns : goal.returns
returns c = numbered-well
