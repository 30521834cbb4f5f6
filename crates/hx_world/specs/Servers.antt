-- A server of a world before and after one of its entries.
use Rattle.std.specs.Prelude.{◌≡◌, ◌+◌}
use Rattle.hx_model.specs.Types.{Input}
use Rattle.hx_model.specs.ServerSteps.{server_step}
use Rattle.hx_law_folds.specs.Folding.{folded_server}
use Rattle.hx_world.specs.declared.servers.CountedServer.{CountedServer}

-- the server has taken the input, and its slots have no past
pub record HasTaken (old new : CountedServer) (input : Input) : Type 0 where
  pub space : new.server.space ≡ old.server.space
  pub state : new.server.state ≡ folded_server (server_step old.server.space old.server.state input).state
  pub entries : new.entries ≡ old.entries + 1

-- the server is as it was, its room for updates aside
pub record IsSameServer (old new : CountedServer) : Type 0 where
  pub space : new.server.space ≡ old.server.space
  pub state : new.server.state ≡ old.server.state
  pub entries : new.entries ≡ old.entries
