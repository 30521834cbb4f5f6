-- The actors before the first entry.
use Rattle.std.specs.Prelude.{◌≡◌, ℕ, length}
use Rattle.hx_model.specs.Types.{Script, Space}
use Rattle.hx_types.specs.Fitting.{calls_of}
use Rattle.hx_model.specs.CoordinatorSteps.{coordinator_at_start}
use Rattle.hx_model.specs.ServerSteps.{server_at_start}
use Rattle.hx_model.specs.SessionSteps.{session_at_start}
use Rattle.hx_world.specs.declared.actors.Actors.{Actors}
use Rattle.hx_world.specs.declared.coordinators.CountedCoordinator.{CountedCoordinator}
use Rattle.hx_world.specs.declared.servers.CountedServer.{CountedServer}
use Rattle.hx_world.specs.declared.sessions.CountedSession.{CountedSession}
use Rattle.hx_world.specs.Invariant.{AreAt, server_at, session_at}

-- the server of this place at the start
pub record IsNewServer (space : Space) (place : ℕ) (s : CountedServer) : Type 0 where
  pub space_is : s.server.space ≡ space
  pub state : s.server.state ≡ server_at_start space (server_at place)
  pub entries : s.entries ≡ 0

-- the session of this place at the start
pub record IsNewSession (script : Script) (place : ℕ) (s : CountedSession) : Type 0 where
  pub space_is : s.session.space ≡ script.space
  pub state : s.session.state ≡ session_at_start script.space (session_at place) (calls_of script (session_at place))
  pub entries : s.entries ≡ 0

-- the coordinator at the start
pub record IsNewCoordinator (script : Script) (c : CountedCoordinator) : Type 0 where
  pub state : c.coordinator ≡ coordinator_at_start script.space (length script.sessions)
  pub entries : c.entries ≡ 0

pub record HaveStarted (script : Script) (actors : Actors) : Type 0 where
  pub coordinator : IsNewCoordinator script actors.coordinator
  pub servers : AreAt script.space.servers (IsNewServer script.space) actors.servers.items
  pub sessions : AreAt (length script.sessions) (IsNewSession script) actors.sessions.items
