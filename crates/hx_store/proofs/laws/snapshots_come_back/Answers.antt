use Rattle.hx_store.proofs.ComingBack.{comes-back}
use Rattle.hx_store.proofs.laws.snapshots_come_back.Goals as goal

pub returns : goal.returns
returns c = λ g marks states ascend key. comes-back g marks key states ascend
