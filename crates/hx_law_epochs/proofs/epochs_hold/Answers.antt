-- What holds of epochs after every run.
use Rattle.hx_law_epochs.proofs.Headline.{runs_keep_epochs}
use Rattle.hx_law_epochs.proofs.epochs_hold.Goals as goal

pub returns : goal.returns
returns c = runs_keep_epochs
