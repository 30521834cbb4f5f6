-- The laws on a run of drivers: its trace is paced.
use Rattle.std.specs.Prelude.{ℕ, ◌≡◌, ◌≢◌, ◌≤◌, Bool, true, List, [], ◌∷◌, ◌++◌, length, map, slice_get, None, Some, IsSome}
use Rattle.std.specs.List.{AllByRecursion}
use Rattle.atomic_table.specs.Seated.{TableId}
use Rattle.hx_model.specs.Types.{Actor, Caller, Entry, Halt, PostId, Script}
use Rattle.hx_types.specs.declared.limits.TheConstants.{MOST_ENTRIES}
use Rattle.hx_types.specs.Fitting.{IsScript, call_of}
use Rattle.hx_types.specs.Words.{IsIn}
use Rattle.hx_model.specs.Histories.{note_of_end}
use Rattle.hx_model.specs.Runs.{entry_at, IsRun}
use Rattle.hx_model.specs.Schedule.{entries_of}
use Rattle.hx_clock.specs.declared.parts.Stamped.{Stamped}
use Rattle.hx_law_threads.specs.Own.{own_entries, past_of}
use Rattle.hx_law_threads.specs.Merged.{parts_in, AreOwnParts, AreWholeParts, IsMerged}
use Rattle.hx_law_threads.specs.Cuts.{times_named}
use Rattle.hx_law_threads.specs.Pacing.{IsPaced, IsPacedToEnd}
use Rattle.hx_mail.specs.declared.views.Mailed.{Mailed}
use Rattle.hx_mail.specs.Boxes.{Boxed}
use Rattle.hx_outbox.specs.Places.{AreBoxes}
use Rattle.hx_driver.specs.declared.desks.Desk.{Desk}
use Rattle.hx_driver.specs.declared.faults.Fault.TheVariants.{Worn}
use Rattle.hx_driver.specs.Desks.{told}
use Rattle.hx_driver.specs.Inboxes.{ins_of}
use Rattle.hx_driver.specs.Told.{told_by}
use Rattle.hx_driver.specs.Turns.{HasMoreToMake}
use Rattle.hx_driver.specs.declared.crews.Crew.{Crew}
use Rattle.hx_driver.specs.Crews.{IsCrew}
use Rattle.hx_law_drivers.specs.Crews.{AreNumbered, HaveAllActors, desks_of, doubled_by, lost_by, parts_of}
use Rattle.hx_law_drivers.specs.Courses.{IsCourse}
use Rattle.hx_law_drivers.specs.Joined.{outs_at, AreInOrder, AreOnce}
use Rattle.hx_law_drivers.specs.Rests.{AreAtRest, HaveAllEnded}

-- drivers that began with no entry, ran, and whose ports were joined
pub record HaveRun (script : Script) (clock : TableId) (boxes : List Boxed) (w : ℕ) (start now : List Crew) : Type 0 where
  pub valid : IsScript script
  pub boxes_are : AreBoxes script clock boxes
  pub new : (d : Desk) → IsIn d (desks_of start) → d.part.items ≡ []
  pub calm : AllByRecursion (λ (c : Crew). c.fault ≡ None) start
  pub actors : HaveAllActors script start
  pub numbered : AreNumbered w start
  pub cuts : List (List Crew)
  pub course : IsCourse script clock boxes w start cuts now
  pub crews : AllByRecursion (IsCrew script clock boxes w) now
  pub order : AreInOrder script now
  pub once : AreOnce now

-- the trace is that of their parts
pub record IsTraceOf (crews : List Crew) (trace : List Entry) : Type 0 where
  pub merged : List Stamped
  pub whole : AreWholeParts (parts_in (parts_of crews))
  pub is : IsMerged (parts_in (parts_of crews)) merged
  pub trace_is : trace ≡ past_of merged

-- what each actor made is its own steps, so that the merged parts are a run
abbrev pub PartsAreOwn : Type 0
PartsAreOwn =
    (script : Script) (clock : TableId) (boxes : List Boxed) (w : ℕ) (start now : List Crew) → HaveRun script clock boxes w start now
    → AreOwnParts script (parts_of now)

-- the trace is a run of the script without halts, in which each actor's entries are those of its desk
pub record ShowsDesks (script : Script) (crews : List Crew) (trace : List Entry) : Type 0 where
  pub run : IsRun script trace
  pub no_halts : AllByRecursion (λ (x : Entry). x.input ≢ Halt) trace
  pub own : (d : Desk) → IsIn d (desks_of crews) → own_entries d.actor trace ≡ past_of d.part.items
  pub counts : (d : Desk) → IsIn d (desks_of crews) → entries_of d.actor trace ≡ length d.part.items

abbrev pub TracesShowDesks : Type 0
TracesShowDesks =
    (script : Script) (clock : TableId) (boxes : List Boxed) (w : ℕ) (start now : List Crew) → HaveRun script clock boxes w start now
    → (trace : List Entry) → IsTraceOf now trace
    → ShowsDesks script now trace

-- the trace of drivers that met a fault, or none, is paced: no more is open at a cut than was lost, and no more came twice than was doubled
abbrev pub RunsArePaced : Type 0
RunsArePaced =
    (script : Script) (clock : TableId) (boxes : List Boxed) (w : ℕ) (start now : List Crew) → HaveRun script clock boxes w start now
    → (trace : List Entry) → IsTraceOf now trace
    → IsPaced script trace (lost_by now) (doubled_by now)

-- an entry that the actor of a desk may make next: no halt, and it delivers, if anything, what was taken for the actor and not delivered
pub record MayComeNext (script : Script) (trace : List Entry) (d : Desk) (x : Entry) : Type 0 where
  pub actor : x.actor ≡ d.actor
  pub no_halt : x.input ≢ Halt
  pub told : told d.part.items ++ told_by d.actor x.input ≡ map (λ s. s.mailed) (ins_of d.inbox)
  pub run : IsRun script (x ∷ trace)

-- a retry of this actor is due: it made nothing since one of the cuts
abbrev pub IsDue : List (List Crew) → Desk → Type 0
IsDue cuts d = (cut : List Crew) × IsIn cut cuts × ((e : Desk) × IsIn e (desks_of cut) × (d.actor ≡ e.actor) × (length e.part.items ≡ length d.part.items))

-- where an actor has one more entry to make, the trace with it is still a run; and it is still paced, where that entry is no retry, or one that is due
abbrev pub TracesGoOn : Type 0
TracesGoOn =
    (script : Script) (clock : TableId) (boxes : List Boxed) (w : ℕ) (start now : List Crew) (run : HaveRun script clock boxes w start now)
    → (d : Desk) → IsIn d (desks_of now) → (retry : Bool) → HasMoreToMake script retry d
    → (trace : List Entry) → IsTraceOf now trace
    → (x : Entry) × MayComeNext script trace d x × ((retry ≡ true → IsDue run.cuts d) → IsPaced script (x ∷ trace) (lost_by now) (doubled_by now))

-- the actor is at one of the driver's desks, made the most entries that it may make and has one more to make, and where that is a retry, it is due
pub record IsWornAt (script : Script) (cuts : List (List Crew)) (c : Crew) (a : Actor) : Type 0 where
  pub desk : Desk
  pub is : IsIn desk c.desks.items
  pub actor : desk.actor ≡ a
  pub most : length desk.part.items ≡ MOST_ENTRIES
  pub retry : Bool
  pub more : HasMoreToMake script retry desk
  pub due : retry ≡ true → IsDue cuts desk

-- so is an actor that a driver met worn
abbrev pub WornActorsAreDue : Type 0
WornActorsAreDue =
    (script : Script) (clock : TableId) (boxes : List Boxed) (w : ℕ) (start now : List Crew) (run : HaveRun script clock boxes w start now)
    → (c : Crew) → IsIn c now → (a : Actor) → c.fault ≡ Some (Worn a)
    → IsWornAt script run.cuts c a

-- the post is one of the trace: an entry of one of the driver's actors made it
pub record IsPostBy (c : Crew) (trace : List Entry) (m : Mailed) : Type 0 where
  pub desk : Desk
  pub is : IsIn desk c.desks.items
  pub entry : Entry
  pub actor : entry.actor ≡ desk.actor
  pub made : entry_at m.id.entry trace ≡ Some entry
  pub post : slice_get entry.outputs m.id.place ≡ Some m.post

-- each of these is such a post, and none of them came more than twice
pub record ArePostsBy (c : Crew) (trace : List Entry) (ms : List Mailed) : Type 0 where
  pub each : (m : Mailed) → IsIn m ms → IsPostBy c trace m
  pub twice : (id : PostId) → times_named id (map (λ (m : Mailed). m.id) ms) ≤ 2

-- whatever a driver put into a box its actors posted
abbrev pub PutsArePosts : Type 0
PutsArePosts =
    (script : Script) (clock : TableId) (boxes : List Boxed) (w : ℕ) (start now : List Crew) → HaveRun script clock boxes w start now
    → (trace : List Entry) → IsTraceOf now trace
    → (c : Crew) → IsIn c now → (n : ℕ) → ArePostsBy c trace (outs_at n c.out.ports.items)

-- where they came to rest it is paced to its end
abbrev pub RestedRunsArePacedToEnd : Type 0
RestedRunsArePacedToEnd =
    (script : Script) (clock : TableId) (boxes : List Boxed) (w : ℕ) (start now : List Crew) → HaveRun script clock boxes w start now
    → AreAtRest script now
    → (trace : List Entry) → IsTraceOf now trace
    → IsPacedToEnd script trace (lost_by now) (doubled_by now)

-- and where every session ended, each call of the script has a note of its end
abbrev pub EndedRunsEndCalls : Type 0
EndedRunsEndCalls =
    (script : Script) (clock : TableId) (boxes : List Boxed) (w : ℕ) (start now : List Crew) → HaveRun script clock boxes w start now
    → HaveAllEnded script now
    → (trace : List Entry) → IsTraceOf now trace
    → (c : Caller) → IsSome (call_of script c) → IsSome (note_of_end c trace)
