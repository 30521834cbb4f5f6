-- Servers without their past.
use Rattle.hx_law_folds.proofs.Runs.{lean-of, server-of}
use Rattle.hx_law_folds.proofs.Servers.{server-folds}
use Rattle.hx_law_folds.proofs.Staying.{server-stays}
use Rattle.hx_law_folds.proofs.Sound.{sound-fits}
use Rattle.hx_law_folds.proofs.servers_fold.Goals as goal

pub returns : goal.returns
returns c = record {
  steps = server-folds;
  stay = server-stays;
  traces = λ script s trace f. (server-of script s trace f, lean-of script s trace f);
  sound = sound-fits;
}
