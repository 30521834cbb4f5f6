use Rattle.hx_service.proofs.Free.{free_sessions_rest}
use Rattle.hx_service.proofs.laws.free_sessions_are_at_rest.Goals as goal

pub returns : goal.returns
returns c = free_sessions_rest
