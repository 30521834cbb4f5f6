use Rattle.hx_spaces.proofs.OneOrder.{entries-have-one-order}
use Rattle.hx_spaces.proofs.laws.entries_have_one_order.Goals as goal

pub returns : goal.returns
returns c = entries-have-one-order
