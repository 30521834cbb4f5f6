-- One caller alone makes the calls of a script: session after session, each submitted once the schedule has gone on from the one before.
use Rattle.std.specs.Prelude.{◌≡◌, ℕ, ◌+◌, ◌<◌, true, List, [], ◌∷◌, length, replicate, Some, ⊤}
use Rattle.hx_model.specs.Types.{Entry, Op, Script, Session, SessionId}
use Rattle.hx_types.specs.Fitting.{calls_of, numbered}
use Rattle.hx_model.specs.Runs.{IsRun, is_actor}
use Rattle.hx_model.specs.Schedule.{IsQuiet, IsScheduled, scheduled}
use Rattle.hx_law_growing.specs.Growing.{with_call_of}

-- a call that was made, and how many entries the schedule was given for it
pub record Made : Type 0 where
  pub session : SessionId
  pub op : Op
  pub entries : ℕ

-- the space of a script and its sessions, without a call
abbrev pub without_calls : Script → Script
without_calls plan = record { space = plan.space; sessions = replicate (length plan.sessions) []; steps = [] }

-- the script of the calls made, the newest first
abbrev pub script_made : Script → List Made → Script
script_made plan [] = without_calls plan
script_made plan (m ∷ older) = with_call_of (script_made plan older) m.session m.op

-- the trace after the calls made, the newest first
abbrev pub trace_made : Script → List Made → List Entry
trace_made plan [] = []
trace_made plan (m ∷ older) = scheduled (script_made plan (m ∷ older)) (trace_made plan older) m.entries

-- the plan's next call of the lowest session that has one left
pub record IsNextCall (plan : Script) (older : List Made) (m : Made) : Type 0 where
  pub session : is_actor plan (Session m.session) ≡ true
  pub call : numbered (calls_of plan m.session) (length (calls_of (script_made plan older) m.session) + 1) ≡ Some m.op
  pub lower : (u : SessionId) → u.0 < m.session.0 → calls_of (script_made plan older) u ≡ calls_of plan u

-- the calls were made by one caller, and each time the trace is a run
abbrev pub AreAlone : Script → List Made → Type 0
AreAlone plan [] = ⊤
AreAlone plan (m ∷ older) = IsNextCall plan older m × IsRun (script_made plan (m ∷ older)) (trace_made plan (m ∷ older)) × AreAlone plan older

-- once all calls of a script without steps were made and nothing is left to do, the trace is that of its replay
abbrev pub LoneCallersReplay : Type 0
LoneCallersReplay =
    (plan : Script) → plan.steps ≡ [] → (made : List Made) → AreAlone plan made
    → ((u : SessionId) → calls_of (script_made plan made) u ≡ calls_of plan u)
    → IsQuiet (script_made plan made) (trace_made plan made)
    → IsScheduled plan (trace_made plan made)

-- a script has one replay
abbrev pub ReplaysAreOne : Type 0
ReplaysAreOne = (script : Script) (one other : List Entry) → IsScheduled script one → IsScheduled script other → one ≡ other
