-- What a session's entries tell of its calls.
use Rattle.std.specs.Prelude.{◌≡◌, ℕ, true, false, List, None, IsSome}
use Rattle.hx_model.specs.Types.{Caller, Entry, Script, Session, SessionId}
use Rattle.hx_types.specs.Fitting.{call_of}
use Rattle.hx_model.specs.Histories.{begin_of, note_of_end}
use Rattle.hx_model.specs.Runs.{session_of, IsRun}
use Rattle.hx_model.specs.Schedule.{is_idle}
use Rattle.hx_law_threads.specs.Own.{IsOwn}

abbrev pub caller_of : SessionId → ℕ → Caller
caller_of u number = record { session = u; number = number }

-- the session has no call under way and none left
pub record IsDone (script : Script) (trace : List Entry) (u : SessionId) : Type 0 where
  pub none_under_way : (session_of script u trace).under_way ≡ false
  pub none_left : is_idle (session_of script u trace) ≡ false

-- each call of a session that is done has ended
abbrev pub CallsOfDoneSessionsEnd : Type 0
CallsOfDoneSessionsEnd =
    (script : Script) (trace : List Entry) → IsRun script trace → (u : SessionId) → IsDone script trace u
    → (number : ℕ) → IsSome (call_of script (caller_of u number)) → IsSome (note_of_end (caller_of u number) trace)

-- the last call that a session began
abbrev pub last_call : Script → SessionId → List Entry → Caller
last_call script u own = caller_of u (session_of script u own).begun

-- the call that a session has under way began and hasn't ended
abbrev pub CallsUnderWayAreOpen : Type 0
CallsUnderWayAreOpen =
    (script : Script) (u : SessionId) (own : List Entry) → IsOwn script (Session u) own → (session_of script u own).under_way ≡ true
    → IsSome (begin_of (last_call script u own) own) × (note_of_end (last_call script u own) own ≡ None)
