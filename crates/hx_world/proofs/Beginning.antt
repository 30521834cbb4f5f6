-- The world before the first entry.
use Rattle.std.proofs.Common.{◌≡◌, ℕ, ◌+◌, ◌<◌, List, [], length, Option, Some, sym, ap, ◌∙◌, subst, arith, add-one, get_or}
use Rattle.std.specs.Prelude.{slice_get}
use Rattle.std.specs.List.{All}
use Rattle.hx_model.specs.Types.{Op, Script}
use Rattle.hx_types.specs.Fitting.{IsScript, calls_of, numbered}
use Rattle.hx_types.specs.Spaces.{Fits}
use Rattle.hx_types.specs.Words.{when_some}
use Rattle.hx_law_posts.specs.Posts.{EpochsStaySmall, PostsStaySound, VersionsStaySmall}
use Rattle.hx_law_lemmas.proofs.Lemmas.{all-in, in-slice_get}
use Rattle.hx_law_folds.proofs.Lemmas.{lean-of, server-of}
use Rattle.hx_world.specs.declared.actors.Actors.{Actors}
use Rattle.hx_world.specs.declared.logs.Log.{Log}
use Rattle.hx_world.specs.Invariant.{IsServerAt, IsSessionAt, IsWorldOf, IsWorldOn, server_at, session_at}
use Rattle.hx_world.specs.Starting.{HaveStarted, IsNewServer, IsNewSession}
use Rattle.hx_world.specs.declared.sessions.CountedSession.{CountedSession}
use Rattle.hx_model.specs.SessionSteps.{session_at_start}
use Rattle.hx_world.proofs.Queueing.{no_queue}
use Rattle.hx_world.proofs.Seating.{at_each, item_read}

-- the calls of a place are those of its session
pub calls_at : (script : Script) (place : ℕ) (calls : List Op) → slice_get script.sessions place ≡ Some calls → calls_of script (session_at place) ≡ calls
calls_at script place calls e =
    let here : numbered script.sessions (place + 1) ≡ Some calls = rw add-one e in
    ap (λ (o : Option (List Op)). when_some o [] (λ (own : List Op). own)) here

-- the next session has started
pub session_starts : (script : Script) (all : List (List Op)) (place : ℕ) (calls own : List Op) (s : CountedSession)
    → all ≡ script.sessions → place < length all → calls ≡ get_or all place calls → own ≡ calls
    → s.session.space ≡ script.space → s.session.state ≡ session_at_start script.space (session_at place) own → s.entries ≡ 0 → IsNewSession script place s
session_starts script all place calls own s same within read copied space state entries =
    let here : slice_get script.sessions place ≡ Some calls =
    subst (λ (l : List (List Op)). slice_get l place ≡ Some calls) same (item_read all place calls within read) in
    record {
      space_is = space;
      state = state ∙ ap (session_at_start script.space (session_at place)) (copied ∙ sym (calls_at script place calls here));
      entries = entries;
    }

-- where the actors have started
pub world_starts : (script : Script) (actors : Actors) (log : Log) → IsScript script
    → ((x : Script) → IsScript x → PostsStaySound x) → ((x : Script) → IsScript x → VersionsStaySmall x) → ((x : Script) → IsScript x → EpochsStaySmall x)
    → HaveStarted script actors → log.trace ≡ [] → log.waiting.items ≡ []
    → IsWorldOn script actors log
world_starts script actors log valid posts versions epochs started no_entry no_post =
    let at : IsWorldOf script [] actors.servers.items actors.sessions.items actors.coordinator [] =
    record {
      past =
          record {
            valid = valid;
            sound = record { posts = posts script valid; versions = versions script valid; epochs = epochs script valid };
            run = tt;
            few = λ a. omega arith;
          };
      servers_are =
          at_each script.space.servers (IsNewServer script.space) (IsServerAt script []) actors.servers.items started.servers
          (λ place h within new. record {
            space = new.space_is;
            state = new.state ∙ lean-of script (server_at place) [] tt;
            in_order = server-of script (server_at place) [] tt;
            entries = new.entries;
          });
      sessions_are =
          at_each (length script.sessions) (IsNewSession script) (IsSessionAt script []) actors.sessions.items started.sessions
          (λ place s within new. record { space = new.space_is; state = new.state; entries = new.entries });
      coordinator_is = record { state = started.coordinator.state; entries = started.coordinator.entries };
      queue = no_queue script;
    } in
    rw (no_entry, no_post) at
