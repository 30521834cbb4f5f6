-- A service as contracts see it, and what its calls leave and answer.
use Rattle.std.specs.Prelude.{◌≡◌, ◌⊎◌, ◌<◌, ℕ, List, [], ◌∷◌, ◌++◌, length, replicate, reverse, IsSome, None, Result, Ok, Err}
use mathlib.Core.List.{IsPrefix}
use Rattle.hx_model.specs.Types.{Actor, Entry, Op, Script, SessionId}
use Rattle.hx_types.specs.declared.limits.TheConstants.{MOST_CALLS}
use Rattle.hx_model.specs.Histories.{note_of_end}
use Rattle.hx_model.specs.Schedule.{IsQuiet, next_entry, scheduled}
use Rattle.hx_law_growing.specs.Growing.{GrowsTo, calls_in, with_call_of}
use Rattle.hx_world.specs.declared.ends.DrainError.{DrainError}
use Rattle.hx_world.specs.Worlds.{Fails, IsWornOut, WorldState}
use Rattle.hx_service.specs.declared.errors.ServiceError.{ServiceError}
use Rattle.hx_service.specs.declared.errors.ServiceError.TheVariants as an_error
use Rattle.hx_service.specs.declared.receipts.Receipt.{Receipt}
use Rattle.hx_service.specs.Receipts.{IsReceiptOf, next_caller, receipts_by}

-- the script with the calls that were submitted, and the trace with the oldest entry first
abbrev pub ServiceState : Type 0
ServiceState = WorldState

-- the trace with the newest entry first
abbrev pub newest : ServiceState → List Entry
newest s = reverse s.trace

-- the script without its calls and steps
abbrev pub emptied : Script → Script
emptied script = record { space = script.space; sessions = replicate (length script.sessions) []; steps = [] }

-- calls were appended, and entries
pub record Grows (old new : ServiceState) : Type 0 where
  pub script : GrowsTo old.script new.script
  pub trace : IsPrefix old.trace new.trace

-- the entries that were made are those of the schedule; traces stand newest first
abbrev pub IsDrained : Script → List Entry → List Entry → Type 0
IsDrained script old new = (entries : ℕ) × (new ≡ scheduled script old entries)

-- there is a next entry, and this is why it wasn't made
pub record Stops (script : Script) (trace : List Entry) (e : DrainError) : Type 0 where
  pub waiting : IsSome (next_entry script trace)
  pub fails : Fails script trace e

-- the script has the call too
abbrev pub IsSubmitted : ServiceState → SessionId → Op → ServiceState → Type 0
IsSubmitted old u op new = new.script ≡ with_call_of old.script u op

-- the call was made: its receipt is the one that the session's receipts have more
pub record IsAnswered (old : ServiceState) (u : SessionId) (op : Op) (new : ServiceState) (r : Receipt) : Type 0 where
  pub submitted : IsSubmitted old u op new
  pub quiet : IsQuiet new.script (newest new)
  pub receipt : IsReceiptOf (newest new) r
  pub caller : r.caller ≡ next_caller old.script u
  pub booked : receipts_by u (newest new) ≡ receipts_by u (newest old) ++ r ∷ []

-- the world is quiet, and the call hasn't ended
pub record IsUnanswered (old : ServiceState) (u : SessionId) (op : Op) (new : ServiceState) (number : ℕ) : Type 0 where
  pub submitted : IsSubmitted old u op new
  pub quiet : IsQuiet new.script (newest new)
  pub number_is : number ≡ (next_caller old.script u).number
  pub open_still : note_of_end (next_caller old.script u) (newest new) ≡ None

-- want of memory: before the call was submitted, in the midst of the drain, or for the copy of the answer
pub record IsCutShort (old : ServiceState) (u : SessionId) (op : Op) (new : ServiceState) : Type 0 where
  pub few : calls_in old.script < MOST_CALLS
  pub left : (new ≡ old) ⊎ (IsSubmitted old u op new
      × (IsSome (next_entry new.script (newest new)) ⊎ IsSome (note_of_end (next_caller old.script u) (newest new))))

-- an actor made all its entries
pub record IsWorn (old : ServiceState) (u : SessionId) (op : Op) (new : ServiceState) (a : Actor) : Type 0 where
  pub submitted : IsSubmitted old u op new
  pub worn_out : IsWornOut new.script (newest new) a

-- the script has the most calls, and nothing changes
pub record IsFull (old new : ServiceState) : Type 0 where
  pub most : calls_in old.script ≡ MOST_CALLS
  pub same : new ≡ old

-- what a call leaves, by its answer
abbrev pub Calls : ServiceState → SessionId → Op → ServiceState → Result Receipt ServiceError → Type 0
Calls old u op new (Ok r) = IsAnswered old u op new r × (calls_in old.script < MOST_CALLS)
Calls old u op new (Err an_error.Memory) = IsCutShort old u op new
Calls old u op new (Err an_error.Full) = IsFull old new
Calls old u op new (Err (an_error.Worn a)) = IsWorn old u op new a × (calls_in old.script < MOST_CALLS)
Calls old u op new (Err (an_error.Unanswered n)) = IsUnanswered old u op new n × (calls_in old.script < MOST_CALLS)
