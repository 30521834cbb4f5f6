-- An actor before its first entry.
use Rattle.std.proofs.Common.{◌≡◌, ℕ, ◌+◌, ◌-◌, ◌<◌, ◌≤◌, true, List, [], length, Option, Some, sym, ap, ◌∙◌, subst, arith, add-one, get_or, ltb, leb}
use Rattle.std.specs.Prelude.{slice_get}
use Rattle.std.proofs.lemmas.Bool.{and_parts, leb-true, ltb-true}
use Rattle.std.proofs.lemmas.Option.{slice_get-get_or}
use Rattle.hx_model.specs.Types.{Actor, Op, Script, Server, ServerId, Session, SessionId}
use Rattle.hx_types.specs.Fitting.{calls_of, numbered}
use Rattle.hx_types.specs.Posts.{IsSessionOf}
use Rattle.hx_types.specs.Words.{when_some}
use Rattle.hx_model.specs.Runs.{is_actor}
use Rattle.hx_law_folds.proofs.Lemmas.{lean-of, server-of}
use Rattle.hx_model.specs.ServerSteps.{server_at_start}
use Rattle.hx_model.specs.SessionSteps.{session_at_start}
use Rattle.hx_replica.specs.Servers.{ServerValue}
use Rattle.hx_session.specs.Sessions.{SessionValue}
use Rattle.hx_machine.specs.declared.machines.Machine.TheVariants as a_machine
use Rattle.hx_machine.specs.Machines.{IsMachine}

-- which sessions there are
session_exists : (script : Script) (u : SessionId) → is_actor script (Session u) ≡ true → IsSessionOf (length script.sessions) u
session_exists script u e = let a = and_parts (ltb 0 u.0) (leb u.0 (length script.sessions)) e in
    (ltb-true 0 u.0 a.0, leb-true u.0 (length script.sessions) a.1)

-- the calls at the place of a session are its own
calls_here : (script : Script) (u : SessionId) (calls : List Op) → 1 ≤ u.0 → slice_get script.sessions (u.0 - 1) ≡ Some calls → calls_of script u ≡ calls
calls_here script u calls low e =
    let same : u.0 - 1 + 1 ≡ u.0 = omega (arith, low) in
    let here : numbered script.sessions (u.0 - 1 + 1) ≡ Some calls = rw add-one e in
    ap (λ (o : Option (List Op)). when_some o [] (λ (own : List Op). own)) (subst (λ (n : ℕ). numbered script.sessions n ≡ Some calls) same here)

pub server_starts : (script : Script) (a : Actor) (s : ServerId) (v : ServerValue) → a ≡ Server s
    → v.space ≡ script.space → v.state ≡ server_at_start script.space s → IsMachine script a [] (a_machine.Server v)
server_starts script a s v e space state =
    subst (λ (b : Actor). IsMachine script b [] (a_machine.Server v)) (sym e) (space, state ∙ lean-of script s [] tt, server-of script s [] tt)

pub session_starts : (script : Script) (a : Actor) (u : SessionId) (all : List (List Op)) (calls own : List Op)
    (v : SessionValue) → a ≡ Session u → is_actor script a ≡ true → all ≡ script.sessions
    → calls ≡ get_or all (u.0 - 1) calls → own ≡ calls
    → v.space ≡ script.space → v.state ≡ session_at_start script.space u own → IsMachine script a [] (a_machine.Session v)
session_starts script a u all calls own v e exists same read copied space state =
    let at = session_exists script u (subst (λ (b : Actor). is_actor script b ≡ true) e exists) in
    let within : u.0 - 1 < length all = omega (arith, at.0, at.1, ap length same) in
    let here : slice_get script.sessions (u.0 - 1) ≡ Some calls =
    subst (λ (l : List (List Op)). slice_get l (u.0 - 1) ≡ Some calls) same (slice_get-get_or all (u.0 - 1) calls within ∙ ap Some (sym read)) in
    subst (λ (b : Actor). IsMachine script b [] (a_machine.Session v)) (sym e)
    (space, state ∙ ap (session_at_start script.space u) (copied ∙ sym (calls_here script u calls at.0 here)))
