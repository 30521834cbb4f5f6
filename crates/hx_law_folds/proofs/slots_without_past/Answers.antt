-- What code without a past has to do.
use Rattle.hx_law_folds.proofs.Bare.{bare-offered, front-folded, kept-over-append}
use Rattle.hx_law_folds.proofs.slots_without_past.Goals as goal

pub returns : goal.returns
returns c = record { offers = bare-offered; commits = front-folded; joined = kept-over-append }
