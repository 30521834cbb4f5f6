-- From a world to the one after an entry.
use Rattle.std.proofs.Common.{◌≡◌, ℕ, ◌+◌, ◌<◌, ◌≤◌, true, false, List, ◌∷◌, length, set, refl, sym, ap, ◌∙◌, subst, arith}
use Rattle.std.proofs.lemmas.Bool.{cond_both, cond-true, cond-false, eqb-true, eq-eqb, ne_eqb}
use Rattle.hx_model.specs.Types.{Actor, Coordinator, Entry, Input, PostId, Script, Server, ServerId, Session, SessionId}
use Rattle.hx_types.specs.Words.{same_actor, same_server, same_session}
use Rattle.hx_model.specs.CoordinatorSteps.{CoordinatorState, coordinator_step}
use Rattle.hx_model.specs.Runs.{MayTake, entry_of, has_halted, is_actor, made_of, does_something, server_of, session_of}
use Rattle.hx_model.specs.Schedule.{Next, entries_of, entry_by}
use Rattle.hx_model.specs.ServerSteps.{ServerStep, server_step}
use Rattle.hx_model.specs.SessionSteps.{session_step}
use Rattle.hx_model.proofs.Lemmas.{entry_by_step}
use Rattle.hx_replica.specs.Servers.{server_entry}
use Rattle.hx_session.specs.Sessions.{session_entry}
use Rattle.hx_coord.specs.Coordinators.{coordinator_entry}
use Rattle.hx_law_folds.specs.Folding.{InputFits, IsServerOf as AreInOrder, folded_server}
use Rattle.hx_law_folds.proofs.Lemmas.{server-folds, server-stays}
use Rattle.hx_world.specs.declared.servers.CountedServer.{CountedServer}
use Rattle.hx_world.specs.declared.sessions.CountedSession.{CountedSession}
use Rattle.hx_world.specs.Servers as counted_server
use Rattle.hx_world.specs.Sessions as counted_session
use Rattle.hx_world.specs.Invariant.{IsFewRun, IsQueue, IsServerAt, IsSessionAt, IsWorldOf, server_at, session_at}
use Rattle.hx_world.specs.Worlds.{HasFewEntries}
use Rattle.hx_world.specs.Coordinators as counted_coordinator
use Rattle.hx_world.specs.declared.coordinators.CountedCoordinator.{CountedCoordinator}
use Rattle.hx_world.specs.Filing.{names_after}
use Rattle.hx_world.proofs.Queueing.{queue_after}
use Rattle.hx_world.proofs.Seating.{at_set}
use Rattle.hx_world.proofs.Taking.{fits_here, server_id, session_id}

abbrev pub given : Actor → Input → Next
given a input = record { actor = a; input = input }

-- the actor is given an input that it may take, and may make the entry
pub record IsGiven (script : Script) (t : List Entry) (a : Actor) (input : Input) : Type 0 where
  pub actor : is_actor script a ≡ true
  pub running : has_halted script t a ≡ false
  pub may : MayTake t a input
  pub enough : does_something input (made_of script t a input) ≡ true
  pub fresh : entries_of a t < 1048576

same_actor_is : (a b : Actor) → same_actor a b ≡ true → a ≡ b
same_actor_is Coordinator Coordinator e = refl
same_actor_is Coordinator (Server s) e = cc
same_actor_is Coordinator (Session u) e = cc
same_actor_is (Server r) Coordinator e = cc
same_actor_is (Server r) (Server s) e = let same = eqb-true r.0 s.0 e in λ i. Server (record { 0 = same i })
same_actor_is (Server r) (Session u) e = cc
same_actor_is (Session v) Coordinator e = cc
same_actor_is (Session v) (Server s) e = cc
same_actor_is (Session v) (Session u) e = let same = eqb-true v.0 u.0 e in λ i. Session (record { 0 = same i })

few_after : (t : List Entry) (x : Entry) → HasFewEntries t → entries_of x.actor t < 1048576 → HasFewEntries (x ∷ t)
few_after t x few fresh a =
    cond_both (same_actor x.actor a) (entries_of a t + 1) (entries_of a t) (λ n. n ≤ 1048576)
    (λ e. let here : entries_of a t < 1048576 = subst (λ (b : Actor). entries_of b t < 1048576) (same_actor_is x.actor a e) fresh in omega (arith, here))
    (λ e. few a)

-- the trace after the entry
pub past_after : (script : Script) (t : List Entry) (a : Actor) (input : Input) → IsFewRun script t
    → IsGiven script t a input → IsFewRun script (entry_by script t (given a input) ∷ t)
past_after script t a input w g = record {
  valid = w.valid;
  sound = w.sound;
  run = (entry_by_step script t (given a input) g.actor g.running g.may g.enough, w.run);
  few = few_after t (entry_by script t (given a input)) w.few g.fresh;
}

-- the queue after it
queue_given : (script : Script) (t : List Entry) (a : Actor) (input : Input) (waiting names : List PostId) → IsGiven script t a input → IsQueue script t waiting
    → names ≡ names_after (length t) (entry_by script t (given a input)) waiting → IsQueue script (entry_by script t (given a input) ∷ t) names
queue_given script t a input waiting names g q e = queue_after script t (entry_by script t (given a input)) g.running waiting names q e

other_server : (s : ServerId) (place : ℕ) → (place + 1 ≡ s.0 → ⊥) → same_server s (server_at place) ≡ false
other_server s place differ = ne_eqb s.0 (place + 1) (λ e. differ (sym e))

other_session : (u : SessionId) (place : ℕ) → (place + 1 ≡ u.0 → ⊥) → same_session u (session_at place) ≡ false
other_session u place differ = ne_eqb u.0 (place + 1) (λ e. differ (sym e))

-- a server of another place keeps its state
server_unmoved : (script : Script) (t : List Entry) (s : ServerId) (input : Input) (place : ℕ) (h : CountedServer) → (place + 1 ≡ s.0 → ⊥)
    → IsServerAt script t place h → IsServerAt script (entry_by script t (given (Server s) input) ∷ t) place h
server_unmoved script t s input place h differ at =
    let other = other_server s place differ in
    record {
      space = at.space;
      state = at.state ∙ ap folded_server (sym (cond-false (same_server s (server_at place))
          (server_step script.space (server_of script (server_at place) t) input).state
          (server_of script (server_at place) t) other));
      in_order = subst (AreInOrder script.space) (sym
          (cond-false (same_server s (server_at place))
          (server_step script.space (server_of script (server_at place) t) input).state
          (server_of script (server_at place) t) other)) at.in_order;
      entries = at.entries ∙ sym (cond-false (same_server s (server_at place))
          (entries_of (Server (server_at place)) t + 1) (entries_of (Server (server_at place)) t) other);
    }

-- and the one that took the input has the next
server_takes : (script : Script) (t : List Entry) (place : ℕ) (input : Input) (old new : CountedServer)
    → IsServerAt script t place old → counted_server.HasTaken old new input → InputFits input
    → IsServerAt script (entry_by script t (given (Server (server_at place)) input) ∷ t) place new
server_takes script t place input old new at takes fits =
    let self : same_server (server_at place) (server_at place) ≡ true = eq-eqb (place + 1) (place + 1) refl in
    record {
      space = takes.space ∙ at.space;
      state =
          takes.state
          ∙ (λ i. folded_server (server_step (at.space i) (at.state i) input).state)
          ∙ ap (λ (x : ServerStep). x.state) (server-folds script.space (server_of script (server_at place) t) at.in_order input fits)
          ∙ ap folded_server (sym (cond-true (same_server (server_at place) (server_at place))
          (server_step script.space (server_of script (server_at place) t) input).state
          (server_of script (server_at place) t) self));
      in_order = subst (AreInOrder script.space) (sym
          (cond-true (same_server (server_at place) (server_at place))
          (server_step script.space (server_of script (server_at place) t) input).state
          (server_of script (server_at place) t) self))
          (server-stays script.space (server_of script (server_at place) t) at.in_order input fits);
      entries =
          takes.entries ∙ ap (λ n. n + 1) at.entries
          ∙ sym (cond-true (same_server (server_at place) (server_at place))
          (entries_of (Server (server_at place)) t + 1) (entries_of (Server (server_at place)) t) self);
    }

-- a session of another place keeps its state
session_unmoved : (script : Script) (t : List Entry) (u : SessionId) (input : Input) (place : ℕ) (s : CountedSession) → (place + 1 ≡ u.0 → ⊥)
    → IsSessionAt script t place s → IsSessionAt script (entry_by script t (given (Session u) input) ∷ t) place s
session_unmoved script t u input place s differ at =
    let other = other_session u place differ in
    record {
      space = at.space;
      state = at.state ∙ sym (cond-false (same_session u (session_at place))
          (session_step script.space (session_of script (session_at place) t) input).state
          (session_of script (session_at place) t) other);
      entries = at.entries ∙ sym (cond-false (same_session u (session_at place))
          (entries_of (Session (session_at place)) t + 1) (entries_of (Session (session_at place)) t) other);
    }

-- and the one that took the input has the next
session_takes : (script : Script) (t : List Entry) (place : ℕ) (input : Input) (old new : CountedSession)
    → IsSessionAt script t place old → counted_session.HasTaken old new input
    → IsSessionAt script (entry_by script t (given (Session (session_at place)) input) ∷ t) place new
session_takes script t place input old new at takes =
    let self : same_session (session_at place) (session_at place) ≡ true = eq-eqb (place + 1) (place + 1) refl in
    record {
      space = takes.space ∙ at.space;
      state =
          takes.state
          ∙ (λ i. (session_step (at.space i) (at.state i) input).state)
          ∙ sym (cond-true (same_session (session_at place) (session_at place))
          (session_step script.space (session_of script (session_at place) t) input).state
          (session_of script (session_at place) t) self);
      entries =
          takes.entries ∙ ap (λ n. n + 1) at.entries
          ∙ sym (cond-true (same_session (session_at place) (session_at place))
          (entries_of (Session (session_at place)) t + 1) (entries_of (Session (session_at place)) t) self);
    }

module _ (script : Script) (t : List Entry) (servers : List CountedServer) (sessions : List CountedSession)
    (coordinator : CountedCoordinator) (waiting : List PostId) (w : IsWorldOf script t servers sessions coordinator waiting) where
  -- after an entry of a server
  pub served_world : (place : ℕ) (input : Input) (old new : CountedServer) (servers_after : List CountedServer) (names : List PostId)
      → IsGiven script t (Server (server_at place)) input → IsServerAt script t place old
      → counted_server.HasTaken old new input → servers_after ≡ set servers place new
      → names ≡ names_after (length t) (entry_by script t (given (Server (server_at place)) input)) waiting
      → IsWorldOf script (entry_by script t (given (Server (server_at place)) input) ∷ t) servers_after sessions coordinator names
  served_world place input old new servers_after names g at takes servers_are names_are =
      let x = entry_by script t (given (Server (server_at place)) input) in
      record {
        past = past_after script t (Server (server_at place)) input w.past g;
        servers_are =
            at_set script.space.servers (IsServerAt script t) (IsServerAt script (x ∷ t)) servers servers_after place new w.servers_are servers_are
            (server_takes script t place input old new at takes (fits_here script t w.past (server_at place) input g.may))
            (λ j h differ k. server_unmoved script t (server_at place) input j h (λ e. differ (omega (arith, e))) k);
        sessions_are = record {
          count = w.sessions_are.count;
          each = λ j s e. (let k = w.sessions_are.each j s e in record { space = k.space; state = k.state; entries = k.entries });
        };
        coordinator_is = record { state = w.coordinator_is.state; entries = w.coordinator_is.entries };
        queue = queue_given script t (Server (server_at place)) input waiting names g w.queue names_are;
      }

  -- after an entry of a session
  pub attended_world : (place : ℕ) (input : Input) (old new : CountedSession) (sessions_after : List CountedSession) (names : List PostId)
      → IsGiven script t (Session (session_at place)) input → IsSessionAt script t place old
      → counted_session.HasTaken old new input → sessions_after ≡ set sessions place new
      → names ≡ names_after (length t) (entry_by script t (given (Session (session_at place)) input)) waiting
      → IsWorldOf script (entry_by script t (given (Session (session_at place)) input) ∷ t) servers sessions_after coordinator names
  attended_world place input old new sessions_after names g at takes sessions_are names_are =
      let x = entry_by script t (given (Session (session_at place)) input) in
      record {
        past = past_after script t (Session (session_at place)) input w.past g;
        servers_are = record {
          count = w.servers_are.count;
          each = λ j h e. (let k = w.servers_are.each j h e in record { space = k.space; state = k.state; in_order = k.in_order; entries = k.entries });
        };
        sessions_are =
            at_set (length script.sessions) (IsSessionAt script t) (IsSessionAt script (x ∷ t)) sessions sessions_after place new w.sessions_are sessions_are
            (session_takes script t place input old new at takes)
            (λ j s differ k. session_unmoved script t (session_at place) input j s (λ e. differ (omega (arith, e))) k);
        coordinator_is = record { state = w.coordinator_is.state; entries = w.coordinator_is.entries };
        queue = queue_given script t (Session (session_at place)) input waiting names g w.queue names_are;
      }

  -- after an entry of the coordinator
  pub coordinated_world : (input : Input) (names : List PostId) (after : CountedCoordinator)
      → IsGiven script t Coordinator input → counted_coordinator.HasTaken coordinator after input
      → names ≡ names_after (length t) (entry_by script t (given Coordinator input)) waiting
      → IsWorldOf script (entry_by script t (given Coordinator input) ∷ t) servers sessions after names
  coordinated_world input names after g takes names_are = record {
    past = past_after script t Coordinator input w.past g;
    servers_are = record {
      count = w.servers_are.count;
      each = λ j h e. (let k = w.servers_are.each j h e in record { space = k.space; state = k.state; in_order = k.in_order; entries = k.entries });
    };
    sessions_are = record {
      count = w.sessions_are.count;
      each = λ j s e. (let k = w.sessions_are.each j s e in record { space = k.space; state = k.state; entries = k.entries });
    };
    coordinator_is = record {
      state = takes.state ∙ ap (λ (c : CoordinatorState). (coordinator_step c input).state) w.coordinator_is.state;
      entries = takes.entries ∙ ap (λ n. n + 1) w.coordinator_is.entries;
    };
    queue = queue_given script t Coordinator input waiting names g w.queue names_are;
  }

  -- what each makes is the entry of its actor
  pub served_entry : (place : ℕ) (h : CountedServer) (input : Input) → IsServerAt script t place h
      → MayTake t (Server (server_at place)) input → server_entry h.server.space h.server.state input
      ≡ entry_by script t (given (Server (server_at place)) input)
  served_entry place h input at may =
      (λ i. server_entry (at.space i) (at.state i) input)
      ∙ ap (λ (x : ServerStep). entry_of (Server (server_of script (server_at place) t).id) input
      (record { posts = x.posts; notes = x.notes }))
      (server-folds script.space (server_of script (server_at place) t) at.in_order input
      (fits_here script t w.past (server_at place) input may))
      ∙ ap (λ (x : ServerId). entry_of (Server x) input (made_of script t (Server (server_at place)) input)) (server_id script t w.past (server_at place))

  pub attended_entry : (place : ℕ) (s : CountedSession) (input : Input) → IsSessionAt script t place s
      → session_entry s.session.space s.session.state input ≡ entry_by script t (given (Session (session_at place)) input)
  attended_entry place s input at =
      (λ i. session_entry (at.space i) (at.state i) input)
      ∙ ap (λ (x : SessionId). entry_of (Session x) input (made_of script t (Session (session_at place)) input)) (session_id script t w.past (session_at place))

  pub coordinated_entry : (input : Input) → coordinator_entry coordinator.coordinator input ≡ entry_by script t (given Coordinator input)
  coordinated_entry input = ap (λ (c : CoordinatorState). coordinator_entry c input) w.coordinator_is.state
