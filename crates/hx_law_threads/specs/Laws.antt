-- The laws on what threads make: the parts of all actors, merged, are a run, and who retries in it.
use Rattle.std.specs.Prelude.{◌≡◌, ℕ, ◌+◌, true, List, Option, Some, slice_get, take}
use Rattle.std.specs.List.{AllByRecursion}
use Rattle.std.specs.Option.{option_map}
use Rattle.hx_model.specs.Types.{Actor, Coordinator, Entry, Input, Post, PostId, Script, Server, ServerId, Session, SessionId}
use Rattle.hx_model.specs.Runs.{coordinator_of, entry_at, has_halted, made_of, post_named, server_of, session_of, IsRun}
use Rattle.hx_types.specs.Words.{IsIn}
use Rattle.hx_clock.specs.declared.parts.Stamped.{Stamped}
use Rattle.hx_clock.specs.Parts.{all_of, Posted}
use Rattle.hx_law_threads.specs.Own.{own_entries, past_of, IsOwn}
use Rattle.hx_law_threads.specs.Cuts.{first_entries, is_retry, is_waiting, own_at, Cut}
use Rattle.hx_law_threads.specs.Pacing.{retries_at}
use Rattle.hx_law_threads.specs.Merged.{parts_in, ActorPart, AreOwnParts, AreWholeParts, HasOwnParts, HasStampsAsPlaces, IsMerged}

-- an actor's state after a trace, and what it makes there, is that after its own entries
pub record IsByOwnEntries (script : Script) (trace : List Entry) : Type 0 where
  pub coordinator : coordinator_of script (own_entries Coordinator trace) ≡ coordinator_of script trace
  pub server : (s : ServerId) → server_of script s (own_entries (Server s) trace) ≡ server_of script s trace
  pub session : (u : SessionId) → session_of script u (own_entries (Session u) trace) ≡ session_of script u trace
  pub halted : (a : Actor) → has_halted script (own_entries a trace) a ≡ has_halted script trace a
  pub made : (a : Actor) (input : Input) → made_of script (own_entries a trace) a input ≡ made_of script trace a input

-- of every trace
abbrev pub StatesAreByOwnEntries : Type 0
StatesAreByOwnEntries = (script : Script) (trace : List Entry) → IsByOwnEntries script trace

-- in a run each actor's entries are its own steps
abbrev pub EntriesOfRunsAreOwn : Type 0
EntriesOfRunsAreOwn = (script : Script) (trace : List Entry) → IsRun script trace → (a : Actor) → IsOwn script a (own_entries a trace)

-- what actors made on their own, merged, is a run in which each actor's entries are its part
pub record IsRunOfParts (script : Script) (whole : List ActorPart) (merged : List Stamped) : Type 0 where
  pub run : IsRun script (past_of merged)
  pub own : HasOwnParts whole (past_of merged)

abbrev pub MergedPartsAreRuns : Type 0
MergedPartsAreRuns =
    (script : Script) (whole : List ActorPart) (merged : List Stamped)
    → AreOwnParts script whole → AreWholeParts (parts_in whole) → IsMerged (parts_in whole) merged
    → IsRunOfParts script whole merged

-- each entry of the trace is one of a part
abbrev pub EntriesAreOfParts : Type 0
EntriesAreOfParts =
    (parts : List (List Stamped)) (merged : List Stamped) → IsMerged parts merged
    → (x : Entry) → IsIn x (past_of merged) → (z : Stamped) × IsIn z (all_of parts) × (x ≡ z.entry)

-- each post of an entry is found in the trace under its name
abbrev pub PostsAreFound : Type 0
PostsAreFound =
    (parts : List (List Stamped)) (merged : List Stamped) → AreWholeParts parts → IsMerged parts merged
    → (z : Stamped) (id : PostId) (p : Post) → IsIn z (all_of parts) → Posted z id p → post_named id (past_of merged) ≡ Some p

-- the merge of whole parts has each entry at the place of its stamp
abbrev pub MergedStampsArePlaces : Type 0
MergedStampsArePlaces = (parts : List (List Stamped)) (merged : List Stamped) → AreWholeParts parts → IsMerged parts merged → HasStampsAsPlaces merged

-- in a run each retry is of an actor that waits after its entries before
abbrev pub RetriesWait : Type 0
RetriesWait =
    (script : Script) (trace : List Entry) → IsRun script trace
    → (a : Actor) (n : ℕ) (x : Entry) → entry_at (n + 1) (own_entries a trace) ≡ Some x → is_retry x ≡ true
    → is_waiting script (first_entries n (own_entries a trace)) a ≡ true

-- so whoever retries first after a cut waited there
abbrev pub RetriersWaited : Type 0
RetriersWaited =
    (script : Script) (trace : List Entry) → IsRun script trace
    → (cut : Cut) (a : Actor) → retries_at cut trace a ≡ true → is_waiting script (own_at cut trace a) a ≡ true

-- the entry of this place in a part, from 0
abbrev pub entry_in : List Stamped → ℕ → Option Entry
entry_in part place = option_map (λ (x : Stamped). x.entry) (slice_get part place)

-- what an actor has made by a cut, and what it makes next, is read in its part
pub record IsReadInPart (trace : List Entry) (p : ActorPart) : Type 0 where
  pub own : (n : ℕ) → first_entries n (own_entries p.actor trace) ≡ past_of (take n p.part)
  pub next : (n : ℕ) → entry_at (n + 1) (own_entries p.actor trace) ≡ entry_in p.part n

abbrev pub CutsAreReadInParts : Type 0
CutsAreReadInParts = (whole : List ActorPart) (trace : List Entry) → HasOwnParts whole trace → AllByRecursion (IsReadInPart trace) whole
