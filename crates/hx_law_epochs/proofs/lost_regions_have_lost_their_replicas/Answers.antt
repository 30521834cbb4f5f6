-- What is lost has lost its replicas.
use Rattle.hx_law_epochs.proofs.Losing.{runs_lose_replicas}
use Rattle.hx_law_epochs.proofs.lost_regions_have_lost_their_replicas.Goals as goal

pub returns : goal.returns
returns c = runs_lose_replicas
