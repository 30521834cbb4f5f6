-- What holds of the receipts of every run; traces stand newest first.
use Rattle.std.specs.Prelude.{◌≡◌, ◌↔◌, ℕ, ◌+◌, ◌-◌, false, List, length, map, if◌then◌else◌, None, Some}
use Rattle.hx_model.specs.Types.{Caller, Entry, Script, SessionId}
use Rattle.hx_types.specs.Fitting.{calls_of}
use Rattle.hx_types.specs.Words.{IsIn, below}
use Rattle.hx_model.specs.Histories.{CallEnd, begin_of, note_of_end}
use Rattle.hx_model.specs.Runs.{IsRun, session_of}
use Rattle.hx_model.specs.SessionSteps.{SessionState}
use Rattle.hx_service.specs.declared.progress.Progress.{Progress}
use Rattle.hx_service.specs.declared.receipts.Receipt.{Receipt}
use Rattle.hx_service.specs.Progress.{progress_of}
use Rattle.hx_service.specs.Receipts.{IsFree, IsReceiptOf, caller_of, receipts_by, receipts_of}

-- the numbers from 1 up to n
abbrev pub numbers_to : ℕ → List ℕ
numbers_to n = map (λ place. place + 1) (below n)

-- how many calls of a session in this state have ended
abbrev pub ended_count : SessionState → ℕ
ended_count s = if s.under_way then s.begun - 1 else s.begun

-- how far the session's calls are by its state
abbrev pub progress_by : List Entry → SessionId → SessionState → Progress
progress_by trace u s = record { begun = s.begun; under_way = if s.under_way then begin_of (caller_of u s.begun) trace else None }

-- in every run each receipt is its call's record, those of a session are of its calls 1, 2, 3 and
-- so on up to the last that ended, and each call that ended has one
pub record IsBooked (script : Script) (trace : List Entry) : Type 0 where
  pub each : (r : Receipt) → IsIn r (receipts_of trace) → IsReceiptOf trace r
  pub numbers : (u : SessionId) → map (λ (r : Receipt). r.caller.number) (receipts_by u trace) ≡ numbers_to (ended_count (session_of script u trace))
  pub all : (c : Caller) (e : CallEnd) → note_of_end c trace ≡ Some e → (r : Receipt) × IsIn r (receipts_of trace) × (r.caller ≡ c)

abbrev pub RunsAreBooked : Type 0
RunsAreBooked = (script : Script) (trace : List Entry) → IsRun script trace → IsBooked script trace

-- in every run how far a session's calls are by their notes is how far they are by its state
abbrev pub RunsShowProgress : Type 0
RunsShowProgress =
    (script : Script) (trace : List Entry) → IsRun script trace
    → (u : SessionId) → progress_of u trace ≡ progress_by trace u (session_of script u trace)

-- no call is under way, and all have begun
pub record IsAtRest (script : Script) (trace : List Entry) (u : SessionId) : Type 0 where
  pub ended : (session_of script u trace).under_way ≡ false
  pub begun : (session_of script u trace).begun ≡ length (calls_of script u)

-- in every run a session is free exactly where it is at rest
abbrev pub FreeSessionsRest : Type 0
FreeSessionsRest = (script : Script) (trace : List Entry) → IsRun script trace → (u : SessionId) → IsFree script trace u ↔ IsAtRest script trace u
