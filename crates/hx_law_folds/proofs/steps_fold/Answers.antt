-- The steps of a slot without its past.
use Rattle.hx_law_folds.proofs.Steps.{ack-folds, adopted-folds, call-folds, resumed-posts-fold, update-folds}
use Rattle.hx_law_folds.proofs.steps_fold.Goals as goal

pub returns : goal.returns
returns c = record {
  updates = update-folds;
  acks = ack-folds;
  calls = call-folds;
  adopting = λ context s h. (resumed-posts-fold context s h, adopted-folds context s h);
}
