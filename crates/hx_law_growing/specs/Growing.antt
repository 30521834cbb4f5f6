-- Scripts that grow: calls are appended to those of sessions.
use Rattle.std.specs.Prelude.{◌≡◌, ◌≢◌, ◌⊎◌, ℕ, ◌+◌, ◌-◌, ◌<◌, true, List, [], ◌∷◌, ◌++◌, length, slice_set, sum_by}
use mathlib.Core.List.{IsPrefix}
use Rattle.hx_model.specs.Types.{Entry, Op, Script, ServerId, Session, SessionId}
use Rattle.hx_types.specs.declared.limits.TheConstants.{MOST_CALLS}
use Rattle.hx_types.specs.Fitting.{IsScript, calls_of}
use Rattle.hx_types.specs.Spaces.{Fits}
use Rattle.hx_model.specs.Runs.{IsRun, coordinator_of, is_actor, server_of, session_of}
use Rattle.hx_model.specs.Schedule.{IsQuiet}
use Rattle.hx_model.specs.SessionSteps.{SessionState}

-- the second script has the space and the sessions of the first, and each session's calls begin with those that it has there
pub record GrowsTo (script more : Script) : Type 0 where
  pub space : more.space ≡ script.space
  pub sessions : length more.sessions ≡ length script.sessions
  pub calls : (u : SessionId) → IsPrefix (calls_of script u) (calls_of more u)

-- every run stays one
abbrev pub RunsGrow : Type 0
RunsGrow = (script more : Script) → GrowsTo script more → (trace : List Entry) → IsRun script trace → IsRun more trace

-- a session with these calls in place of its own
abbrev pub with_calls : List Op → SessionState → SessionState
with_calls calls s = record s { calls = calls }

-- the states of all actors after a run
pub record AreStates (script more : Script) (trace : List Entry) : Type 0 where
  pub servers : (s : ServerId) → server_of more s trace ≡ server_of script s trace
  pub coordinator : coordinator_of more trace ≡ coordinator_of script trace
  pub calls : (u : SessionId) → (session_of script u trace).calls ≡ calls_of script u
  pub sessions : (u : SessionId) → session_of more u trace ≡ with_calls (calls_of more u) (session_of script u trace)

abbrev pub StatesGrow : Type 0
StatesGrow = (script more : Script) → GrowsTo script more → (trace : List Entry) → IsRun script trace → AreStates script more trace

-- the session has a call under way, or all calls that the grown script has for it
abbrev pub IsMade : Script → Script → List Entry → SessionId → Type 0
IsMade script more trace u = ((session_of script u trace).under_way ≡ true) ⊎ (calls_of more u ≡ calls_of script u)

-- where nothing is left to do of a script, nothing is left of one that it grows to, if no session has more calls that it can begin
abbrev pub QuietStays : Type 0
QuietStays =
    (script more : Script) → GrowsTo script more
    → (trace : List Entry) → IsRun script trace → IsQuiet script trace
    → ((u : SessionId) → IsMade script more trace u)
    → IsQuiet more trace

-- the script with one more call of the session
abbrev pub with_call_of : Script → SessionId → Op → Script
with_call_of script session op = record script { sessions = slice_set script.sessions (session.0 - 1) (calls_of script session ++ op ∷ []) }

-- how many calls all sessions have together
abbrev pub calls_in : Script → ℕ
calls_in script = sum_by (λ (calls : List Op). length calls) script.sessions

-- the second script has one call more, the last of the session
pub record HasCallMore (script more : Script) (session : SessionId) (op : Op) : Type 0 where
  pub grows : GrowsTo script more
  pub here : calls_of more session ≡ calls_of script session ++ op ∷ []
  pub elsewhere : (u : SessionId) → u ≢ session → calls_of more u ≡ calls_of script u
  pub count : calls_in more ≡ calls_in script + 1

abbrev pub CallsGrow : Type 0
CallsGrow =
    (script : Script) (session : SessionId) (op : Op) → is_actor script (Session session) ≡ true
    → HasCallMore script (with_call_of script session op) session op

-- a script stays within the limits with a call that fits, where it hasn't the most calls
abbrev pub ScriptsStay : Type 0
ScriptsStay =
    (script : Script) (session : SessionId) (op : Op) → is_actor script (Session session) ≡ true
    → IsScript script → Fits script.space op → calls_in script < MOST_CALLS
    → IsScript (with_call_of script session op)
