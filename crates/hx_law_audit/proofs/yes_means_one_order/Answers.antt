use Rattle.hx_law_audit.proofs.Ordering.{one_order}
use Rattle.hx_law_audit.proofs.yes_means_one_order.Goals as goal

pub returns : goal.returns
returns c = one_order
