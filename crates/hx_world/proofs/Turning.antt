-- An actor of a world is given an input, in terms of the world's fields; traces of worlds stand oldest first.
use Rattle.std.proofs.Common.{◌≡◌, ℕ, ◌+◌, ◌-◌, ◌<◌, ◌≤◌, true, false, List, [], ◌∷◌, ◌++◌, length, set, refl, sym, ap, ◌∙◌, subst, arith, get_or, vec_len}
use Rattle.std.specs.Prelude.{Bool, Err, Ok, Result, reverse, ⊤}
use Rattle.std.proofs.lemmas.Bool.{le-leb, lt-leb}
use Rattle.std.proofs.lemmas.List.{reverse-append, length-reverse}
use Rattle.hx_model.specs.Types.{Actor, Coordinator, Entry, Input, PostId, Script, Server, ServerId, Session, SessionId, Space}
use Rattle.hx_types.specs.Posts.{IsSessionOf}
use Rattle.hx_types.specs.Spaces.{IsServerOf}
use Rattle.hx_model.specs.Runs.{MayTake, has_halted, is_actor, made_of, does_something, server_of, session_of}
use Rattle.hx_model.specs.Schedule.{entries_of, entry_by}
use Rattle.hx_model.specs.ServerSteps.{ServerState}
use Rattle.hx_model.specs.SessionSteps.{SessionState}
use Rattle.hx_replica.specs.Servers as server
use Rattle.hx_session.specs.Sessions as session
use Rattle.hx_coord.specs.Coordinators as coordinator
use Rattle.hx_model.specs.CoordinatorSteps.{CoordinatorState}
use Rattle.hx_world.specs.Coordinators as counted_coordinator
use Rattle.hx_world.specs.declared.coordinators.CountedCoordinator.{CountedCoordinator}
use Rattle.hx_law_folds.specs.Folding.{IsServerOf as AreInOrder, folded_server}
use Rattle.hx_world.specs.declared.actors.Actors.{Actors}
use Rattle.hx_world.specs.declared.ends.DrainError.{DrainError}
use Rattle.hx_world.specs.declared.ends.DrainError.TheVariants.{Memory, Worn}
use Rattle.hx_world.specs.declared.servers.CountedServer.{CountedServer}
use Rattle.hx_world.specs.declared.logs.Log.{Log}
use Rattle.hx_world.specs.declared.sessions.CountedSession.{CountedSession}
use Rattle.hx_world.specs.Filing.{Files, IsSameLog, names_after}
use Rattle.hx_world.specs.Servers as counted_server
use Rattle.hx_world.specs.Sessions as counted_session
use Rattle.hx_world.specs.Invariant.{AreAt, IsCoordinatorAfter, IsServerAt, IsSessionAt, IsWorldOf, IsWorldOn, server_at, session_at}
use Rattle.hx_world.specs.Names.{AreAscending}
use Rattle.hx_world.specs.Turns.{FailsTurn, HasTurn, IfMade, IsAdmitted, IsBarred, IsDecided, IsIdleActor, IsTurn, entry_does_something}
use Rattle.hx_world.specs.Worlds.{most_entries}
use Rattle.hx_world.proofs.Advancing.{IsGiven, attended_entry, attended_world, coordinated_entry, coordinated_world, given, served_entry, served_world}
use Rattle.hx_world.proofs.Seating.{at_set, item_read}
use Rattle.hx_world.proofs.Taking.{attends, coordinates, server_exists, server_id, serves, session_exists, session_id}
use Rattle.hx_world.proofs.Tallies.{few_entries}

-- no world makes more entries
pub most_of : (script : Script) (actors : Actors) (log : Log) → IsWorldOn script actors log → length log.trace ≤ most_entries
most_of script actors log w = few_entries script log.trace w.past.valid w.past.run w.past.few

pub ascending : (script : Script) (actors : Actors) (log : Log) → IsWorldOn script actors log → AreAscending log.waiting.items
ascending script actors log w = w.queue.ascending

-- the entry was filed, and the world is that after it
pub record Goes (script : Script) (old : Log) (a : Actor) (input : Input) (actors : Actors) (new : Log) : Type 0 where
  pub world : IsWorldOn script actors new
  pub turn : HasTurn script (reverse old.trace) (reverse new.trace) a input

-- what became of an input: an entry was filed, or the world is as before
pub record Came (script : Script) (old : Log) (a : Actor) (input : Input) (actors : Actors) (new : Log) (result : Result Bool DrainError) : Type 0 where
  pub world : IsWorldOn script actors new
  pub turn : IsTurn script (reverse old.trace) (reverse new.trace) a input result
  pub same : IfMade result ⊤ (new.trace ≡ old.trace)

reverse_push : (trace : List Entry) (e : Entry) → reverse (trace ++ e ∷ []) ≡ e ∷ reverse trace
reverse_push trace e = reverse-append trace (e ∷ [])

-- the names that wait after the entry
names_now : (old new : Log) (e f : Entry) → Files old new e → e ≡ f → new.waiting.items ≡ names_after (length (reverse old.trace)) f old.waiting.items
names_now old new e f files same =
    files.waiting
    ∙ (λ i. names_after (sym (length-reverse old.trace) i) (same i) old.waiting.items)

goes : (script : Script) (old new : Log) (a : Actor) (input : Input) (actors : Actors) (e : Entry)
    → e ≡ entry_by script (reverse old.trace) (given a input) → Files old new e
    → has_halted script (reverse old.trace) a ≡ false
    → does_something input (made_of script (reverse old.trace) a input) ≡ true → entries_of a (reverse old.trace) < 1048576
    → IsWorldOf script (entry_by script (reverse old.trace) (given a input) ∷ reverse old.trace) actors.servers.items
    actors.sessions.items actors.coordinator new.waiting.items
    → Goes script old a input actors new
goes script old new a input actors e is files running enough fresh w =
    let trace : reverse new.trace ≡ entry_by script (reverse old.trace) (given a input) ∷ reverse old.trace =
    ap reverse files.trace ∙ reverse_push old.trace e ∙ ap (λ (x : Entry). x ∷ reverse old.trace) is in
    record {
      world = subst (λ (t : List Entry). IsWorldOf script t actors.servers.items actors.sessions.items actors.coordinator new.waiting.items) (sym trace) w;
      turn = record { running = running; enough = enough; fresh = lt-leb 1048576 (entries_of a (reverse old.trace)) fresh; trace = trace };
    }

-- an entry that is barred is no turn
no_turn : (script : Script) (t : List Entry) (a : Actor) (input : Input) (e : Entry) (n : ℕ) (error : DrainError)
    → e ≡ entry_by script t (given a input) → n ≡ entries_of a t → has_halted script t a ≡ false
    → IsBarred e n error → FailsTurn script t a input error
no_turn script t a input e n Memory is count running b = tt
no_turn script t a input e n (Worn x) is count running b =
    let many = b.many in
    record {
      running = running;
      enough = ap entry_does_something (sym is) ∙ b.enough;
      worn = le-leb 1048576 (entries_of a t) (omega (arith, many, count));
      actor = b.actor ∙ ap (λ (y : Entry). y.actor) is;
    }

-- nor is an entry with nothing in it
idle_turn : (script : Script) (t : List Entry) (a : Actor) (input : Input) (e : Entry) → e ≡ entry_by script t (given a input) → has_halted script t a ≡ false
    → entry_does_something e ≡ false → IsIdleActor script t a input
idle_turn script t a input e is running nothing = record { running = running; nothing = ap entry_does_something (sym is) ∙ nothing }

-- the same log with other actors
world_with : (script : Script) (actors after : Actors) (log same : Log) → IsWorldOn script actors log → IsSameLog log same
    → AreAt script.space.servers (IsServerAt script (reverse log.trace)) after.servers.items
    → AreAt (length script.sessions) (IsSessionAt script (reverse log.trace)) after.sessions.items
    → IsCoordinatorAfter script (reverse log.trace) after.coordinator
    → IsWorldOn script after same
world_with script actors after log same w logs servers sessions coordinator =
    let at : IsWorldOf script (reverse log.trace) after.servers.items after.sessions.items after.coordinator log.waiting.items =
    record { past = w.past; servers_are = servers; sessions_are = sessions; coordinator_is = coordinator; queue = w.queue } in
    subst (λ (t : List Entry). IsWorldOf script t after.servers.items after.sessions.items after.coordinator same.waiting.items) (sym (ap reverse logs.trace))
    (subst (λ (l : List PostId). IsWorldOf script (reverse log.trace) after.servers.items after.sessions.items after.coordinator l) (sym logs.waiting) at)

module _ (script : Script) (actors : Actors) (log : Log) (w : IsWorldOn script actors log) where
  abbrev pub t : List Entry
  t = reverse log.trace

  -- the coordinator
  pub can_coordinate : (input : Input) → MayTake t Coordinator input → coordinator.CanTake actors.coordinator.coordinator input
  can_coordinate input may = subst (λ (c : CoordinatorState). coordinator.CanTake c input) (sym w.coordinator_is.state) (coordinates script t w.past input may)

  module _ (input : Input) where
    coordinated_is : coordinator.coordinator_entry actors.coordinator.coordinator input ≡ entry_by script t (given Coordinator input)
    coordinated_is = coordinated_entry script t actors.servers.items actors.sessions.items actors.coordinator log.waiting.items w input

    -- it took the input
    coordinated : (actors_after : Actors) (after : Log) → MayTake t Coordinator input
        → Files log after (coordinator.coordinator_entry actors.coordinator.coordinator input)
        → IsAdmitted (coordinator.coordinator_entry actors.coordinator.coordinator input) actors.coordinator.entries
        → counted_coordinator.HasTaken actors.coordinator actors_after.coordinator input
        → actors_after.servers.items ≡ actors.servers.items → actors_after.sessions.items ≡ actors.sessions.items
        → Goes script log Coordinator input actors_after after
    coordinated actors_after after may files admitted takes servers sessions =
        let enough : does_something input (made_of script t Coordinator input) ≡ true = ap entry_does_something (sym coordinated_is) ∙ admitted.enough in
        let fresh : entries_of Coordinator t < 1048576 = subst (λ n. n < 1048576) w.coordinator_is.entries admitted.fresh in
        let names = names_now log after (coordinator.coordinator_entry actors.coordinator.coordinator input)
        (entry_by script t (given Coordinator input)) files coordinated_is in
        let g : IsGiven script t Coordinator input = record { actor = refl; running = refl; may = may; enough = enough; fresh = fresh } in
        let at = coordinated_world script t actors.servers.items actors.sessions.items actors.coordinator
        log.waiting.items w input after.waiting.items actors_after.coordinator g takes names in
        goes script log after Coordinator input actors_after
        (coordinator.coordinator_entry actors.coordinator.coordinator input) coordinated_is files refl enough fresh
        (
        subst (λ (l : List CountedServer). IsWorldOf script
        (entry_by script t (given Coordinator input) ∷ t) l actors_after.sessions.items actors_after.coordinator
        after.waiting.items) (sym servers)
        (subst (λ (l : List CountedSession). IsWorldOf script
        (entry_by script t (given Coordinator input) ∷ t) actors.servers.items l actors_after.coordinator
        after.waiting.items) (sym sessions) at)
        )

    -- it may not make the entry
    not_coordinated : (error : DrainError) → IsBarred
        (coordinator.coordinator_entry actors.coordinator.coordinator input) actors.coordinator.entries error
        → FailsTurn script t Coordinator input error
    not_coordinated error b = no_turn script t Coordinator input
        (coordinator.coordinator_entry actors.coordinator.coordinator input) actors.coordinator.entries error
        coordinated_is w.coordinator_is.entries refl b

    -- it is as before
    uncoordinated : (after : Actors) (same : Log) → IsSameLog log same → counted_coordinator.IsSameCoordinator actors.coordinator after.coordinator
        → after.servers.items ≡ actors.servers.items → after.sessions.items ≡ actors.sessions.items → IsWorldOn script after same
    uncoordinated after same logs kept servers sessions =
        world_with script actors after log same w logs
        (subst (λ (l : List CountedServer). AreAt script.space.servers (IsServerAt script t) l) (sym servers) w.servers_are)
        (subst (λ (l : List CountedSession). AreAt (length script.sessions) (IsSessionAt script t) l) (sym sessions) w.sessions_are)
        (record { state = kept.state ∙ w.coordinator_is.state; entries = kept.entries ∙ w.coordinator_is.entries })

    -- what became of the input
    pub came_to_coordinator : (after : Actors) (new : Log) (result : Result Bool DrainError) → MayTake t Coordinator input
        → IsDecided (coordinator.coordinator_entry actors.coordinator.coordinator input) actors.coordinator.entries result
        → IfMade result (Files log new (coordinator.coordinator_entry actors.coordinator.coordinator input)) (IsSameLog log new)
        → IfMade result (counted_coordinator.HasTaken actors.coordinator after.coordinator input)
        (counted_coordinator.IsSameCoordinator actors.coordinator after.coordinator)
        → after.servers.items ≡ actors.servers.items → after.sessions.items ≡ actors.sessions.items → Came script log Coordinator input after new result
    came_to_coordinator after new (Ok true) may d files takes servers sessions =
        let g = coordinated after new may files d takes servers sessions in
        record { world = g.world; turn = g.turn; same = tt }
    came_to_coordinator after new (Ok false) may d logs kept servers sessions = record {
      world = uncoordinated after new logs kept servers sessions;
      turn = idle_turn script t Coordinator input (coordinator.coordinator_entry actors.coordinator.coordinator input) coordinated_is refl d;
      same = logs.trace;
    }
    came_to_coordinator after new (Err error) may d logs kept servers sessions =
        record { world = uncoordinated after new logs kept servers sessions; turn = not_coordinated error d; same = logs.trace }

  -- a server
  module _ (s : ServerId) (actor : is_actor script (Server s) ≡ true) where
    exists_here : IsServerOf script.space s
    exists_here = server_exists script t w.past s actor

    pub server_low : 1 ≤ s.0
    server_low = let h = exists_here in omega (arith, h.0)

    pub server_in : s.0 - 1 < vec_len actors.servers
    server_in = let h = exists_here in let n = w.servers_are.count in omega (arith, h.0, h.1, n, actors.servers.ok.0)

    place_is : server_at (s.0 - 1) ≡ s
    place_is = let low = server_low in let e : s.0 - 1 + 1 ≡ s.0 = omega (arith, low) in λ i. record { 0 = e i }

    server_here : (h : CountedServer) → h ≡ get_or actors.servers.items (s.0 - 1) h → IsServerAt script t (s.0 - 1) h
    server_here h e = w.servers_are.each (s.0 - 1) h
        (item_read actors.servers.items (s.0 - 1) h (let within = server_in in omega (arith, within, actors.servers.ok.0)) e)

    -- it can take the input
    pub can_serve : (h : CountedServer) → h ≡ get_or actors.servers.items (s.0 - 1) h → (input : Input)
        → has_halted script t (Server s) ≡ false → MayTake t (Server s) input → server.CanTake h.server.space h.server.state input
    can_serve h e input running may =
        let at = server_here h e in
        subst (λ (x : Space). server.CanTake x h.server.state input) (sym at.space)
        (
        subst (λ (x : ServerState). server.CanTake script.space x input) (sym (at.state ∙ ap (λ (x : ServerId). folded_server (server_of script x t)) place_is))
        (serves script t w.past s input (subst (λ (x : ServerId). AreInOrder script.space (server_of script x t)) place_is at.in_order) running may)
        )

    -- it has its number
    pub may_serve : (h : CountedServer) → h ≡ get_or actors.servers.items (s.0 - 1) h → (input : Input)
        → MayTake t (Server s) input → MayTake t (Server h.server.state.id) input
    may_serve h e input may =
        let number : h.server.state.id ≡ s = ap (λ (x : ServerState). x.id) (server_here h e).state
        ∙ server_id script t w.past (server_at (s.0 - 1)) ∙ place_is in
        subst (λ (x : ServerId). MayTake t (Server x) input) (sym number) may

    -- whether it has halted
    pub halted_here : (h : CountedServer) → h ≡ get_or actors.servers.items (s.0 - 1) h → h.server.state.halted ≡ has_halted script t (Server s)
    halted_here h e = ap (λ (x : ServerState). x.halted) (server_here h e).state ∙ ap (λ (x : ServerId). has_halted script t (Server x)) place_is

    module _ (h : CountedServer) (read : h ≡ get_or actors.servers.items (s.0 - 1) h) (input : Input)
        (running : has_halted script t (Server s) ≡ false) (may_take : MayTake t (Server s) input) where
      running_at : has_halted script t (Server (server_at (s.0 - 1))) ≡ false
      running_at = subst (λ (x : ServerId). has_halted script t (Server x) ≡ false) (sym place_is) running

      served_is : server.server_entry h.server.space h.server.state input ≡ entry_by script t (given (Server (server_at (s.0 - 1))) input)
      served_is = served_entry script t actors.servers.items actors.sessions.items actors.coordinator
          log.waiting.items w (s.0 - 1) h input (server_here h read)
          (subst (λ (x : ServerId). MayTake t (Server x) input) (sym place_is) may_take)

      served_at : (after_server : CountedServer) (actors_after : Actors) (after : Log)
          → MayTake t (Server (server_at (s.0 - 1))) input → is_actor script (Server (server_at (s.0 - 1))) ≡ true
          → Files log after (server.server_entry h.server.space h.server.state input)
          → counted_server.HasTaken h after_server input
          → IsAdmitted (server.server_entry h.server.space h.server.state input) h.entries
          → actors_after.coordinator ≡ actors.coordinator
          → actors_after.servers.items ≡ set actors.servers.items (s.0 - 1) after_server
          → actors_after.sessions.items ≡ actors.sessions.items
          → Goes script log (Server (server_at (s.0 - 1))) input actors_after after
      served_at after_server actors_after after may here files takes admitted coordinator servers sessions =
          let a : Actor = Server (server_at (s.0 - 1)) in
          let at = server_here h read in
          let enough : does_something input (made_of script t a input) ≡ true = ap entry_does_something (sym served_is) ∙ admitted.enough in
          let fresh : entries_of a t < 1048576 = subst (λ n. n < 1048576) at.entries admitted.fresh in
          let names = names_now log after (server.server_entry h.server.space h.server.state input) (entry_by script t (given a input)) files served_is in
          let g : IsGiven script t a input = record { actor = here; running = running_at; may = may; enough = enough; fresh = fresh } in
          let at_end = served_world script t actors.servers.items actors.sessions.items actors.coordinator
          log.waiting.items w (s.0 - 1) input h after_server actors_after.servers.items after.waiting.items g at
          takes servers names in
          goes script log after a input actors_after (server.server_entry h.server.space h.server.state input) served_is files running_at enough fresh
          (
          subst (λ (l : List CountedSession). IsWorldOf script
          (entry_by script t (given a input) ∷ t) actors_after.servers.items l actors_after.coordinator
          after.waiting.items) (sym sessions)
          (subst (λ (n : CountedCoordinator). IsWorldOf script
          (entry_by script t (given a input) ∷ t) actors_after.servers.items actors.sessions.items n
          after.waiting.items) (sym coordinator) at_end)
          )

      -- it took the input
      pub served : (after_server : CountedServer) (actors_after : Actors) (after : Log)
          → Files log after (server.server_entry h.server.space h.server.state input)
          → counted_server.HasTaken h after_server input
          → IsAdmitted (server.server_entry h.server.space h.server.state input) h.entries
          → actors_after.coordinator ≡ actors.coordinator
          → actors_after.servers.items ≡ set actors.servers.items (s.0 - 1) after_server
          → actors_after.sessions.items ≡ actors.sessions.items
          → Goes script log (Server s) input actors_after after
      served after_server actors_after after files takes admitted coordinator servers sessions =
          subst (λ (x : ServerId). Goes script log (Server x) input actors_after after) place_is
          (
          served_at after_server actors_after after (subst (λ (x : ServerId). MayTake t (Server x) input)
          (sym place_is) may_take) (subst (λ (x : ServerId). is_actor script (Server x) ≡ true) (sym place_is) actor)
          files takes admitted coordinator servers sessions
          )

      -- it may not make the entry
      pub not_served : (error : DrainError) → IsBarred
          (server.server_entry h.server.space h.server.state input) h.entries error → FailsTurn script t (Server s) input error
      not_served error b =
          subst (λ (x : ServerId). FailsTurn script t (Server x) input error) place_is
          (no_turn script t (Server (server_at (s.0 - 1))) input
          (server.server_entry h.server.space h.server.state input) h.entries error served_is
          (server_here h read).entries running_at b)

      -- it is as before
      pub unserved : (after_server : CountedServer) (actors_after : Actors) (same : Log) → counted_server.IsSameServer h after_server → IsSameLog log same
          → actors_after.coordinator ≡ actors.coordinator
          → actors_after.servers.items ≡ set actors.servers.items (s.0 - 1) after_server
          → actors_after.sessions.items ≡ actors.sessions.items
          → IsWorldOn script actors_after same
      unserved after_server actors_after same kept logs coordinator servers sessions =
          let at = server_here h read in
          world_with script actors actors_after log same w logs
          (
          at_set script.space.servers (IsServerAt script t)
          (IsServerAt script t) actors.servers.items actors_after.servers.items (s.0 - 1) after_server w.servers_are servers
          (record { space = kept.space ∙ at.space; state = kept.state ∙ at.state; in_order = at.in_order; entries = kept.entries ∙ at.entries })
          (λ j x differ k. k)
          )
          (subst (λ (l : List CountedSession). AreAt (length script.sessions) (IsSessionAt script t) l) (sym sessions) w.sessions_are)
          (subst (IsCoordinatorAfter script t) (sym coordinator) w.coordinator_is)

      -- what became of the input
      pub came_to_server : (after_server : CountedServer) (after : Actors) (new : Log)
          (result : Result Bool DrainError) → IsDecided (server.server_entry h.server.space h.server.state input) h.entries result
          → IfMade result (Files log new (server.server_entry h.server.space h.server.state input)) (IsSameLog log new)
          → IfMade result (counted_server.HasTaken h after_server input) (counted_server.IsSameServer h after_server)
          → after.coordinator ≡ actors.coordinator → after.servers.items
          ≡ set actors.servers.items (s.0 - 1) after_server → after.sessions.items ≡ actors.sessions.items
          → Came script log (Server s) input after new result
      came_to_server after_server after new (Ok true) d files takes coordinator servers sessions =
          let g = served after_server after new files takes d coordinator servers sessions in
          record { world = g.world; turn = g.turn; same = tt }
      came_to_server after_server after new (Ok false) d logs kept coordinator servers sessions = record {
        world = unserved after_server after new kept logs coordinator servers sessions;
        turn =
            subst (λ (x : ServerId). IsIdleActor script t (Server x) input) place_is
            (idle_turn script t (Server (server_at (s.0 - 1))) input (server.server_entry h.server.space h.server.state input) served_is running_at d);
        same = logs.trace;
      }
      came_to_server after_server after new (Err error) d logs kept coordinator servers sessions =
          record { world = unserved after_server after new kept logs coordinator servers sessions; turn = not_served error d; same = logs.trace }

  -- a session
  module _ (u : SessionId) (actor : is_actor script (Session u) ≡ true) where
    calls_here : IsSessionOf (length script.sessions) u
    calls_here = session_exists script t w.past u actor

    pub session_low : 1 ≤ u.0
    session_low = let h = calls_here in omega (arith, h.0)

    pub session_in : u.0 - 1 < vec_len actors.sessions
    session_in = let h = calls_here in let n = w.sessions_are.count in omega (arith, h.0, h.1, n, actors.sessions.ok.0)

    pub session_is : session_at (u.0 - 1) ≡ u
    session_is = let low = session_low in let e : u.0 - 1 + 1 ≡ u.0 = omega (arith, low) in λ i. record { 0 = e i }

    pub session_here : (x : CountedSession) → x ≡ get_or actors.sessions.items (u.0 - 1) x → IsSessionAt script t (u.0 - 1) x
    session_here x e = w.sessions_are.each (u.0 - 1) x
        (item_read actors.sessions.items (u.0 - 1) x (let within = session_in in omega (arith, within, actors.sessions.ok.0)) e)

    pub session_state : (x : CountedSession) → x ≡ get_or actors.sessions.items (u.0 - 1) x → x.session.state ≡ session_of script u t
    session_state x e = (session_here x e).state ∙ ap (λ (v : SessionId). session_of script v t) session_is

    -- it can take the input
    pub can_attend : (x : CountedSession) → x ≡ get_or actors.sessions.items (u.0 - 1) x → (input : Input)
        → MayTake t (Session u) input → session.CanTake x.session.space x.session.state input
    can_attend x e input may =
        let at = session_here x e in
        subst (λ (y : Space). session.CanTake y x.session.state input) (sym at.space)
        (
        subst (λ (y : SessionState). session.CanTake script.space y input) (sym (at.state ∙ ap (λ (v : SessionId). session_of script v t) session_is))
        (attends script t w.past u input may)
        )

    -- it has its number
    pub session_number : (x : CountedSession) → x ≡ get_or actors.sessions.items (u.0 - 1) x → x.session.state.id ≡ u
    session_number x e = ap (λ (y : SessionState). y.id) (session_here x e).state ∙ session_id script t w.past (session_at (u.0 - 1)) ∙ session_is

    pub may_attend : (x : CountedSession) → x ≡ get_or actors.sessions.items (u.0 - 1) x → (input : Input)
        → MayTake t (Session u) input → MayTake t (Session x.session.state.id) input
    may_attend x e input may = subst (λ (v : SessionId). MayTake t (Session v) input) (sym (session_number x e)) may

    -- it is as before
    pub unattended : (x : CountedSession) → x ≡ get_or actors.sessions.items (u.0 - 1) x
        → (after_session : CountedSession) (actors_after : Actors) (same : Log)
        → counted_session.IsSameSession x after_session → IsSameLog log same
        → actors_after.coordinator ≡ actors.coordinator → actors_after.servers.items ≡ actors.servers.items
        → actors_after.sessions.items ≡ set actors.sessions.items (u.0 - 1) after_session
        → IsWorldOn script actors_after same
    unattended x read after_session actors_after same kept logs coordinator servers sessions =
        let at = session_here x read in
        world_with script actors actors_after log same w logs
        (subst (λ (l : List CountedServer). AreAt script.space.servers (IsServerAt script t) l) (sym servers) w.servers_are)
        (
        at_set (length script.sessions) (IsSessionAt script t)
        (IsSessionAt script t) actors.sessions.items actors_after.sessions.items
        (u.0 - 1) after_session w.sessions_are sessions
        (record { space = kept.space ∙ at.space; state = kept.state ∙ at.state; entries = kept.entries ∙ at.entries })
        (λ j y differ k. k)
        )
        (subst (IsCoordinatorAfter script t) (sym coordinator) w.coordinator_is)

    module _ (x : CountedSession) (read : x ≡ get_or actors.sessions.items (u.0 - 1) x) (input : Input) where
      attended_is : session.session_entry x.session.space x.session.state input ≡ entry_by script t (given (Session (session_at (u.0 - 1))) input)
      attended_is =
          attended_entry script t actors.servers.items actors.sessions.items actors.coordinator log.waiting.items w (u.0 - 1) x input (session_here x read)

      attended_at : (after_session : CountedSession) (actors_after : Actors) (after : Log)
          → MayTake t (Session (session_at (u.0 - 1))) input → is_actor script (Session (session_at (u.0 - 1))) ≡ true
          → Files log after (session.session_entry x.session.space x.session.state input)
          → counted_session.HasTaken x after_session input
          → IsAdmitted (session.session_entry x.session.space x.session.state input) x.entries
          → actors_after.coordinator ≡ actors.coordinator → actors_after.servers.items ≡ actors.servers.items
          → actors_after.sessions.items ≡ set actors.sessions.items (u.0 - 1) after_session
          → Goes script log (Session (session_at (u.0 - 1))) input actors_after after
      attended_at after_session actors_after after may here files takes admitted coordinator servers sessions =
          let a : Actor = Session (session_at (u.0 - 1)) in
          let at = session_here x read in
          let enough : does_something input (made_of script t a input) ≡ true = ap entry_does_something (sym attended_is) ∙ admitted.enough in
          let fresh : entries_of a t < 1048576 = subst (λ n. n < 1048576) at.entries admitted.fresh in
          let names = names_now log after (session.session_entry x.session.space x.session.state input) (entry_by script t (given a input)) files attended_is in
          let g : IsGiven script t a input = record { actor = here; running = refl; may = may; enough = enough; fresh = fresh } in
          let at_end = attended_world script t actors.servers.items actors.sessions.items actors.coordinator
          log.waiting.items w (u.0 - 1) input x after_session actors_after.sessions.items after.waiting.items g at
          takes sessions names in
          goes script log after a input actors_after (session.session_entry x.session.space x.session.state input) attended_is files refl enough fresh
          (
          subst (λ (l : List CountedServer). IsWorldOf script
          (entry_by script t (given a input) ∷ t) l actors_after.sessions.items actors_after.coordinator
          after.waiting.items) (sym servers)
          (subst (λ (n : CountedCoordinator). IsWorldOf script
          (entry_by script t (given a input) ∷ t) actors.servers.items actors_after.sessions.items n
          after.waiting.items) (sym coordinator) at_end)
          )

      -- it took the input
      pub attended : (after_session : CountedSession) (actors_after : Actors) (after : Log) → MayTake t (Session u) input
          → Files log after (session.session_entry x.session.space x.session.state input)
          → counted_session.HasTaken x after_session input
          → IsAdmitted (session.session_entry x.session.space x.session.state input) x.entries
          → actors_after.coordinator ≡ actors.coordinator → actors_after.servers.items ≡ actors.servers.items
          → actors_after.sessions.items ≡ set actors.sessions.items (u.0 - 1) after_session
          → Goes script log (Session u) input actors_after after
      attended after_session actors_after after may files takes admitted coordinator servers sessions =
          subst (λ (v : SessionId). Goes script log (Session v) input actors_after after) session_is
          (
          attended_at after_session actors_after after
          (subst (λ (v : SessionId). MayTake t (Session v) input) (sym session_is) may)
          (subst (λ (v : SessionId). is_actor script (Session v) ≡ true) (sym session_is) actor)
          files takes admitted coordinator servers sessions
          )

      -- it may not make the entry
      pub not_attended : (error : DrainError) → IsBarred
          (session.session_entry x.session.space x.session.state input) x.entries error
          → FailsTurn script t (Session u) input error
      not_attended error b =
          subst (λ (v : SessionId). FailsTurn script t (Session v) input error) session_is
          (no_turn script t (Session (session_at (u.0 - 1))) input
          (session.session_entry x.session.space x.session.state input) x.entries error attended_is
          (session_here x read).entries refl b)

      -- what became of the input
      pub came_to_session : (after_session : CountedSession) (after : Actors) (new : Log) (result : Result Bool DrainError) → MayTake t (Session u) input
          → IsDecided (session.session_entry x.session.space x.session.state input) x.entries result
          → IfMade result (Files log new (session.session_entry x.session.space x.session.state input)) (IsSameLog log new)
          → IfMade result (counted_session.HasTaken x after_session input) (counted_session.IsSameSession x after_session)
          → after.coordinator ≡ actors.coordinator → after.servers.items ≡ actors.servers.items
          → after.sessions.items ≡ set actors.sessions.items (u.0 - 1) after_session
          → Came script log (Session u) input after new result
      came_to_session after_session after new (Ok true) may d files takes coordinator servers sessions =
          let g = attended after_session after new may files takes d coordinator servers sessions in
          record { world = g.world; turn = g.turn; same = tt }
      came_to_session after_session after new (Ok false) may d logs kept coordinator servers sessions = record {
        world = unattended x read after_session after new kept logs coordinator servers sessions;
        turn =
            subst (λ (v : SessionId). IsIdleActor script t (Session v) input) session_is
            (idle_turn script t (Session (session_at (u.0 - 1))) input (session.session_entry x.session.space x.session.state input) attended_is refl d);
        same = logs.trace;
      }
      came_to_session after_session after new (Err error) may d logs kept coordinator servers sessions =
          record { world = unattended x read after_session after new kept logs coordinator servers sessions; turn = not_attended error d; same = logs.trace }
