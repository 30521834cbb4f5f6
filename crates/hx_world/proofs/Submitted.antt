-- A world whose script gets one more call is a world of the longer script.
use Rattle.std.proofs.Common.{◌≡◌, ◌≢◌, refl, ℕ, ◌+◌, ◌-◌, ◌<◌, Bool, true, false, not, List, [], ◌∷◌, ◌++◌, length}
use Rattle.std.proofs.Common.{cond, set, Option, None, Some, sym, ap, ◌∙◌, subst, arith, get_or}
use Rattle.std.proofs.lemmas.List.{get_or_default}
use Rattle.std.specs.Prelude.{reverse}
use Rattle.std.specs.List.{filter}
use Rattle.hx_model.specs.Types.{Actor, Coordinator, Entry, Op, Post, PostId, Script, Server, Session, SessionId, Space}
use Rattle.hx_types.specs.Fitting.{IsScript, calls_of}
use Rattle.hx_types.specs.Spaces.{Fits}
use Rattle.hx_types.specs.Words.{when_some}
use Rattle.hx_model.specs.Runs.{has_halted, is_actor, post_named, session_of}
use Rattle.hx_model.specs.Schedule.{undelivered}
use Rattle.hx_model.specs.ServerSteps.{ServerState}
use Rattle.hx_model.specs.SessionSteps.{SessionState}
use Rattle.hx_law_folds.specs.Folding.{IsServerOf as AreInOrder, folded_server}
use Rattle.hx_law_posts.specs.Posts.{EpochsStaySmall, PostsStaySound, VersionsStaySmall}
use Rattle.hx_law_growing.specs.Growing.{AreStates, CallsGrow, HasCallMore, RunsGrow, ScriptsStay, StatesGrow, calls_in, with_call_of, with_calls}
use Rattle.hx_law_growing.proofs.Lemmas.{few_calls_of, numbered_from_1, own_calls}
use Rattle.hx_session.specs.Sessions.{with_call}
use Rattle.hx_world.specs.declared.actors.Actors.{Actors}
use Rattle.hx_world.specs.declared.logs.Log.{Log}
use Rattle.hx_world.specs.declared.sessions.CountedSession.{CountedSession}
use Rattle.hx_world.specs.Invariant.{AreAt, AreSound, IsServerAt, IsSessionAt, IsWorldOf, IsWorldOn, server_at, session_at}
use Rattle.hx_world.specs.Names.{can_receive}
use Rattle.hx_world.specs.Sessions.{HasCall}
use Rattle.hx_world.proofs.Seating.{at_each, at_set}
use Rattle.hx_world.proofs.Turning.{session_here, session_is}

-- tests that agree keep the same items
filter_same : {A : Type 0} (f g : A → Bool) → ((x : A) → f x ≡ g x) → (xs : List A) → filter f xs ≡ filter g xs
filter_same f g same [] = refl
filter_same f g same (x ∷ xs) =
    ap (λ b. cond b (x ∷ filter f xs) (filter f xs)) (same x) ∙ ap (λ l. cond (g x) (x ∷ l) l) (filter_same f g same xs)

-- the script whose list of calls was taken out, got one more, and was put back
pub call_appended : (script : Script) (session : SessionId) (op : Op) → is_actor script (Session session) ≡ true
    → (before after : List (List Op)) (calls more : List Op) → before ≡ script.sessions → calls ≡ get_or before (session.0 - 1) calls → more ≡ calls ++ op ∷ []
    → after ≡ set before (session.0 - 1) more
    → record { space = script.space; sessions = after; steps = script.steps } ≡ with_call_of script session op
call_appended script session op is before after calls more taken read longer put =
    let n = numbered_from_1 script session is in
    let own : calls ≡ calls_of script session =
    read
    ∙ (ap (λ (l : List (List Op)). get_or l (session.0 - 1) calls) taken
    ∙ (get_or_default script.sessions (session.0 - 1) calls [] (omega (arith, n.0, n.1)) ∙ sym (own_calls script session is))) in
    let all : after ≡ set script.sessions (session.0 - 1) (calls_of script session ++ op ∷ []) =
    put
    ∙ (ap (λ (l : List (List Op)). set l (session.0 - 1) more) taken
    ∙ ap (set script.sessions (session.0 - 1)) (longer ∙ ap (λ (l : List Op). l ++ op ∷ []) own)) in
    ap (λ (l : List (List Op)). record { space = script.space; sessions = l; steps = script.steps }) all

module _ (script : Script) (actors : Actors) (log : Log) (w : IsWorldOn script actors log) (u : SessionId) (actor : is_actor script (Session u) ≡ true)
    (x : CountedSession) (read : x ≡ get_or actors.sessions.items (u.0 - 1) x) where
  abbrev t : List Entry
  t = reverse log.trace

  here : IsSessionAt script t (u.0 - 1) x
  here = session_here script actors log w u actor x read

  is : session_at (u.0 - 1) ≡ u
  is = session_is script actors log w u actor

  -- the call fits the session's space
  pub fits_session : (op : Op) → Fits script.space op → Fits x.session.space op
  fits_session op fits = subst (λ (space : Space). Fits space op) (sym here.space) fits

  module _ (op : Op) (runs : RunsGrow) (states : StatesGrow) (calls : CallsGrow) where
    abbrev more : Script
    more = with_call_of script u op

    longer : HasCallMore script more u op
    longer = calls script u op actor

    all_states : AreStates script more t
    all_states = states script more longer.grows t w.past.run

    -- the session has its calls of the script
    pub session_calls : x.session.state.calls ≡ calls_of script u
    session_calls = ap (λ (s : SessionState). s.calls) (here.state ∙ ap (λ (v : SessionId). session_of script v t) is) ∙ all_states.calls u

    pub few_own : calls_in script < 16384 → length x.session.state.calls < 16384
    few_own few =
        let own : length x.session.state.calls ≡ length (calls_of script u) = ap (λ (l : List Op). length l) session_calls in
        let most = few_calls_of script u actor in
        omega (arith, own, most, few)

    -- whoever can receive a post still can
    halted : (a : Actor) → has_halted more t a ≡ has_halted script t a
    halted Coordinator = refl
    halted (Server s) = ap (λ (state : ServerState). state.halted) (all_states.servers s)
    halted (Session v) = refl

    receives : (id : PostId) → can_receive more t id ≡ can_receive script t id
    receives id = by (post_named id t)
      where
        by : (o : Option Post)
            → when_some o false (λ (p : Post). not (has_halted more t p.to)) ≡ when_some o false (λ (p : Post). not (has_halted script t p.to))
        by None = refl
        by (Some p) = ap not (halted p.to)

    -- the session that has the call is that of the longer script
    called : (a b s : SessionState) → b ≡ with_calls (calls_of more u) a → s ≡ a → a.calls ≡ calls_of script u → with_call op s ≡ b
    called a b s e same own =
        ap (with_call op) same
        ∙ (ap (λ (l : List Op). with_calls l a) (ap (λ (l : List Op). l ++ op ∷ []) own ∙ sym longer.here) ∙ sym e)

    -- and so is each other
    other : (v : SessionId) → v ≢ u → session_of script v t ≡ session_of more v t
    other v ne =
        let same : with_calls (calls_of more v) (session_of script v t) ≡ session_of script v t =
        ap (λ (l : List Op). with_calls l (session_of script v t)) (longer.elsewhere v ne ∙ sym (all_states.calls v)) in
        sym (all_states.sessions v ∙ same)

    elsewhere : (j : ℕ) → j ≢ u.0 - 1 → session_at j ≢ u
    elsewhere j ne e = let n : j + 1 ≡ u.0 = ap (λ (v : SessionId). v.0) e in ne (omega (arith, n))

    -- the world with the call
    submitted : IsScript more → AreSound more → (y : CountedSession) → HasCall x y op
        → IsWorldOf more t actors.servers.items (set actors.sessions.items (u.0 - 1) y) actors.coordinator log.waiting.items
    submitted valid sound y has = record {
      past = record { valid = valid; sound = sound; run = runs script more longer.grows t w.past.run; few = w.past.few };
      servers_are =
          at_each script.space.servers (IsServerAt script t) (IsServerAt more t) actors.servers.items w.servers_are
          (λ i s lt at. record {
            space = at.space;
            state = at.state ∙ ap folded_server (sym (all_states.servers (server_at i)));
            in_order = subst (λ (state : ServerState). AreInOrder script.space state) (sym (all_states.servers (server_at i))) at.in_order;
            entries = at.entries;
          });
      sessions_are = subst (λ n. AreAt n (IsSessionAt more t) (set actors.sessions.items (u.0 - 1) y)) (sym longer.grows.sessions)
          (at_set (length script.sessions) (IsSessionAt script t) (IsSessionAt more t) actors.sessions.items (set actors.sessions.items (u.0 - 1) y) (u.0 - 1) y
          w.sessions_are refl
          (record {
            space = has.space ∙ here.space;
            state = has.state
                ∙ called (session_of script u t) (session_of more u t) x.session.state (all_states.sessions u)
                (here.state ∙ ap (λ (v : SessionId). session_of script v t) is) (all_states.calls u)
                ∙ ap (λ (v : SessionId). session_of more v t) (sym is);
            entries = has.entries ∙ here.entries;
          })
          (λ j s ne at. record { space = at.space; state = at.state ∙ other (session_at j) (elsewhere j ne); entries = at.entries }));
      coordinator_is = record { state = w.coordinator_is.state ∙ sym all_states.coordinator; entries = w.coordinator_is.entries };
      queue = record {
        ascending = w.queue.ascending;
        named = w.queue.named;
        same = filter_same (can_receive more t) (can_receive script t) receives log.waiting.items
            ∙ (w.queue.same ∙ sym (filter_same (can_receive more t) (can_receive script t) receives (undelivered t)));
      };
    }

    -- as the caller has it, whose script is equal to that with the call
    pub world_with_call : ScriptsStay
        → ((s : Script) → IsScript s → PostsStaySound s) → ((s : Script) → IsScript s → VersionsStaySmall s) → ((s : Script) → IsScript s → EpochsStaySmall s)
        → Fits script.space op → calls_in script < 16384
        → (after : Script) → after ≡ more → (y : CountedSession) → HasCall x y op
        → IsWorldOf after t actors.servers.items (set actors.sessions.items (u.0 - 1) y) actors.coordinator log.waiting.items
    world_with_call stay posts versions epochs fits few after same y has =
        let valid : IsScript more = stay script u op actor w.past.valid fits few in
        subst (λ (s : Script). IsWorldOf s t actors.servers.items (set actors.sessions.items (u.0 - 1) y) actors.coordinator log.waiting.items) (sym same)
        (submitted valid (record { posts = posts more valid; versions = versions more valid; epochs = epochs more valid }) y has)
