-- In every finished soak the summary is that of the calls taken one after the other.
use Rattle.hx_law_soak.proofs.Headline.{sums_up}
use Rattle.hx_law_soak.proofs.soaks_sum_up_in_order.Goals as goal

pub returns : goal.returns
returns c = sums_up
