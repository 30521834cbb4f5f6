-- What a world keeps: its fields are the states that the definitions fold from its trace.
use Rattle.std.specs.Prelude.{◌≡◌, ℕ, ◌+◌, List, length, reverse, slice_get, Some}
use Rattle.std.specs.List.{filter}
use Rattle.hx_model.specs.Types.{Coordinator, Entry, Post, PostId, Script, Server, ServerId, Session, SessionId}
use Rattle.hx_types.specs.Fitting.{IsScript}
use Rattle.hx_types.specs.Words.{IsIn}
use Rattle.hx_model.specs.Runs.{IsRun, coordinator_of, post_named, server_of, session_of}
use Rattle.hx_model.specs.Schedule.{entries_of, undelivered}
use Rattle.hx_law_posts.specs.Posts.{EpochsStaySmall, PostsStaySound, VersionsStaySmall}
use Rattle.hx_law_folds.specs.Folding.{IsServerOf as AreInOrder, folded_server}
use Rattle.hx_world.specs.declared.actors.Actors.{Actors}
use Rattle.hx_world.specs.declared.inside.Inside.{Inside}
use Rattle.hx_world.specs.declared.coordinators.CountedCoordinator.{CountedCoordinator}
use Rattle.hx_world.specs.declared.logs.Log.{Log}
use Rattle.hx_world.specs.declared.servers.CountedServer.{CountedServer}
use Rattle.hx_world.specs.declared.sessions.CountedSession.{CountedSession}
use Rattle.hx_world.specs.Names.{AreAscending, can_receive}
use Rattle.hx_world.specs.Worlds.{HasFewEntries}

-- what every run of the script has, so that actors can take their posts
pub record AreSound (script : Script) : Type 0 where
  pub posts : PostsStaySound script
  pub versions : VersionsStaySmall script
  pub epochs : EpochsStaySmall script

-- the list has n items, and each has what belongs to its place
pub record AreAt {A : Type 0} (n : ℕ) (P : ℕ → A → Type 0) (xs : List A) : Type 0 where
  pub count : length xs ≡ n
  pub each : (place : ℕ) (x : A) → slice_get xs place ≡ Some x → P place x

-- servers and sessions are numbered from 1
abbrev pub server_at : ℕ → ServerId
server_at place = record { 0 = place + 1 }

abbrev pub session_at : ℕ → SessionId
session_at place = record { 0 = place + 1 }

-- the server of this place after the trace, without the past of its slots
pub record IsServerAt (script : Script) (trace : List Entry) (place : ℕ) (s : CountedServer) : Type 0 where
  pub space : s.server.space ≡ script.space
  pub state : s.server.state ≡ folded_server (server_of script (server_at place) trace)
  pub in_order : AreInOrder script.space (server_of script (server_at place) trace)
  pub entries : s.entries ≡ entries_of (Server (server_at place)) trace

-- the session of this place after the trace
pub record IsSessionAt (script : Script) (trace : List Entry) (place : ℕ) (s : CountedSession) : Type 0 where
  pub space : s.session.space ≡ script.space
  pub state : s.session.state ≡ session_of script (session_at place) trace
  pub entries : s.entries ≡ entries_of (Session (session_at place)) trace

-- the coordinator after the trace
pub record IsCoordinatorAfter (script : Script) (trace : List Entry) (c : CountedCoordinator) : Type 0 where
  pub state : c.coordinator ≡ coordinator_of script trace
  pub entries : c.entries ≡ entries_of Coordinator trace

-- a run of a valid script in which no actor made too many entries
pub record IsFewRun (script : Script) (trace : List Entry) : Type 0 where
  pub valid : IsScript script
  pub sound : AreSound script
  pub run : IsRun script trace
  pub few : HasFewEntries trace

-- names of posts in ascending order; those whose receivers haven't halted are the undelivered ones of such receivers
pub record IsQueue (script : Script) (trace : List Entry) (waiting : List PostId) : Type 0 where
  pub ascending : AreAscending waiting
  pub named : (id : PostId) → IsIn id waiting → (p : Post) × (post_named id trace ≡ Some p)
  pub same : filter (can_receive script trace) waiting ≡ filter (can_receive script trace) (undelivered trace)

-- what a world keeps, with its trace newest first
pub record IsWorldOf (script : Script) (trace : List Entry) (servers : List CountedServer)
    (sessions : List CountedSession) (coordinator : CountedCoordinator) (waiting : List PostId) : Type 0 where
  pub past : IsFewRun script trace
  pub servers_are : AreAt script.space.servers (IsServerAt script trace) servers
  pub sessions_are : AreAt (length script.sessions) (IsSessionAt script trace) sessions
  pub coordinator_is : IsCoordinatorAfter script trace coordinator
  pub queue : IsQueue script trace waiting

abbrev pub IsWorldOn : Script → Actors → Log → Type 0
IsWorldOn script actors log =
    IsWorldOf script (reverse log.trace) actors.servers.items actors.sessions.items actors.coordinator log.waiting.items

abbrev pub IsWorld : Inside → Type 0
IsWorld inside = IsWorldOn inside.script inside.actors inside.log
