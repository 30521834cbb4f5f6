use Rattle.hx_law_audit.proofs.Kept.{consistent_keeps}
use Rattle.hx_law_audit.proofs.Meant.{yes_means}
use Rattle.hx_law_audit.proofs.yes_means_linear.Goals as goal

pub returns : goal.returns
returns c = λ r valid. (yes_means r, consistent_keeps r valid)
