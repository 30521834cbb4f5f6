-- Bases, snapshots and joiners.
use Rattle.hx_law_folds.proofs.Installing.{installed}
use Rattle.hx_law_folds.proofs.Joining.{joined, joining-posts, joining-state}
use Rattle.hx_law_folds.proofs.Prefixes.{kept-marks-line, kept-touches-line, latest-line, marks-line, object-line, prefix-folded, touches-line}
use Rattle.hx_law_folds.proofs.Snapshots.{sent}
use Rattle.hx_law_folds.proofs.bases_fold.Goals as goal

pub returns : goal.returns
returns c = record {
  lines = λ g line s down h p. record {
    object = object-line g line down s h p;
    latest = latest-line g line down s h p;
    marks = marks-line g line down s h p;
    touches = touches-line g line down s h p;
    kept_marks = kept-marks-line g line down s h p;
    kept_touches = kept-touches-line g line down s h p;
  };
  prefixes = λ g line s down h p. prefix-folded g line down s h p;
  snapshots = sent;
  installs = installed;
  joiners = λ context s h t. record { taken = joined context.region s h t; state = joining-state context s h t; posts = joining-posts context s h t };
}
