-- What a run of drivers answers: a trace, what each driver posted, and the ports of all boxes.
use Rattle.std.specs.Prelude.{ℕ, ◌≡◌, ◌+◌, ◌%◌, ◌≤◌, Bool, true, false, not, cond, eqb, List, [], ◌∷◌, ◌++◌, length}
use Rattle.std.specs.Prelude.{map, reverse, slice_get, Option, None, Some, IsSome}
use Rattle.std.specs.List.{AllByRecursion, flat_map}
use mathlib.Core.List.{IsPrefix}
use Rattle.atomic_table.specs.Seated.{TableId}
use Rattle.hx_types.specs.declared.calls.Caller.{Caller}
use Rattle.hx_types.specs.declared.ids.Actor.{Actor}
use Rattle.hx_types.specs.declared.limits.TheConstants.{MOST_ENTRIES}
use Rattle.hx_types.specs.declared.messages.Post.{Post}
use Rattle.hx_types.specs.declared.messages.PostId.{PostId}
use Rattle.hx_types.specs.declared.totals.Totals.{Totals}
use Rattle.hx_types.specs.declared.traces.Entry.{Entry}
use Rattle.hx_types.specs.declared.traces.Input.{Input}
use Rattle.hx_types.specs.declared.traces.Script.{Script}
use Rattle.hx_types.specs.declared.traces.Input.TheVariants.{Tick, Halt, Deliver}
use Rattle.hx_types.specs.Fitting.{call_of}
use Rattle.hx_types.specs.Words.{first_some, same_actor, IsIn}
use Rattle.hx_model.specs.Histories.{note_of_end}
use Rattle.hx_model.specs.Runs.{entry_at, IsRun}
use Rattle.hx_model.specs.Schedule.{entries_of}
use Rattle.hx_clock.specs.Seats.{Seated}
use Rattle.hx_clock.specs.Views.{one, total}
use Rattle.hx_law_threads.specs.Cuts.{times_named}
use Rattle.hx_law_threads.specs.Pacing.{IsPaced, IsPacedToEnd}
use Rattle.hx_mail.specs.declared.views.BoxNames.{BoxNames}
use Rattle.hx_mail.specs.declared.views.Mailed.{Mailed}
use Rattle.hx_mail.specs.declared.views.PortLists.{PortLists}
use Rattle.hx_mail.specs.declared.views.Sent.{Sent}
use Rattle.hx_mail.specs.Boxes.{Ported}
use Rattle.hx_mail.specs.Ports.{CarriesAll, IsInOrder, IsOnce, TookAlone}
use Rattle.hx_fate.specs.declared.fates.FateState.{FateState}
use Rattle.hx_outbox.specs.Offers.{IsTotal, is_gone, raised_by}
use Rattle.hx_outbox.specs.Places.{place_of}
use Rattle.hx_outbox.specs.Zipped.{Both}
use Rattle.hx_driver.specs.Told.{told_by}
use Rattle.hx_cluster.specs.Everyone.{actors_of}
use Rattle.hx_gather.specs.Gathered.{IsDrawn}

-- ---- traces here have the oldest entry first

abbrev pub is_halt : Input → Bool
is_halt Tick = false
is_halt Halt = true
is_halt (Deliver id from message) = false

-- no entry halts its actor from outside
abbrev pub HasNoHalts : List Entry → Type 0
HasNoHalts trace = AllByRecursion (λ (x : Entry). is_halt x.input ≡ false) trace

-- each call of the script has a note of its end
abbrev pub HaveCallsEnded : Script → List Entry → Type 0
HaveCallsEnded script trace = (c : Caller) → IsSome (call_of script c) → IsSome (note_of_end c (reverse trace))

-- ---- what drivers posted

-- the actor belongs to driver i of w
abbrev pub is_dealt : Script → ℕ → ℕ → Actor → Bool
is_dealt script w i a = eqb (place_of script.space a % w) i

-- how many posts the actors of driver i made, of those of which the test holds
abbrev pub posts_by : (Post → Bool) → Script → ℕ → ℕ → List Entry → ℕ
posts_by test script w i trace =
    total (λ (x : Entry). cond (is_dealt script w i x.actor) (total (λ (p : Post). one (test p)) x.outputs) 0) trace

abbrev pub is_any : Post → Bool
is_any p = true

-- it isn't a server's word that it has halted, which no fate is asked about
abbrev pub is_asked : Post → Bool
is_asked p = not (is_gone p.message)

-- the totals of driver i: they add up, and count each post of its actors once
pub record IsTotalOf (script : Script) (w : ℕ) (trace : List Entry) (i : ℕ) (t : Totals) : Type 0 where
  pub sum : IsTotal t
  pub posts : t.posts ≡ posts_by is_any script w i trace

pub record AreTotalsOf (script : Script) (w : ℕ) (trace : List Entry) (totals : List Totals) : Type 0 where
  pub count : length totals ≡ w
  pub each : (i : ℕ) (t : Totals) → slice_get totals i ≡ Some t → IsTotalOf script w trace i t

-- the counts of driver i's fate rose by what it was asked, and by what it answered, and it is tuned as it was
pub record HasRisen (script : Script) (w : ℕ) (trace : List Entry) (i : ℕ) (t : Totals) (f f' : FateState) : Type 0 where
  pub chosen : f'.chosen ≡ raised_by (posts_by is_asked script w i trace) f.chosen
  pub lost : f'.lost ≡ raised_by t.lose f.lost
  pub doubled : f'.doubled ≡ raised_by t.twice f.doubled
  pub tuning : f'.tuning ≡ f.tuning

abbrev pub lost_in : List Totals → ℕ
lost_in totals = total (λ (t : Totals). t.lose) totals

abbrev pub doubled_in : List Totals → ℕ
doubled_in totals = total (λ (t : Totals). t.twice) totals

-- ---- what went through the boxes

-- the posts that an actor's entries deliver, in order
abbrev pub delivered_to : Actor → List Entry → List Mailed
delivered_to a trace = flat_map (λ (x : Entry). cond (same_actor x.actor a) (told_by a x.input) []) trace

-- what was taken under the name k
abbrev pub taken_under : ℕ → List PortLists → List Sent
taken_under k lists = flat_map (λ (b : PortLists). cond (eqb k b.name) b.taken []) lists

-- a post of the trace, for the actor a: an actor of the driver made it whose ports have this name, which is i + 1 for driver i
pub record IsPostFor (script : Script) (w : ℕ) (trace : List Entry) (a : Actor) (name : ℕ) (m : Mailed) : Type 0 where
  pub entry : Entry
  pub made : entry_at m.id.entry (reverse trace) ≡ Some entry
  pub post : slice_get entry.outputs m.id.place ≡ Some m.post
  pub to : m.post.to ≡ a
  pub driver : ℕ
  pub named : name ≡ driver + 1
  pub dealt : is_dealt script w driver entry.actor ≡ true

-- each of these is such a post, and none of them came more than twice
pub record ArePostsFor (script : Script) (w : ℕ) (trace : List Entry) (a : Actor) (name : ℕ) (ms : List Mailed) : Type 0 where
  pub each : AllByRecursion (IsPostFor script w trace a name) ms
  pub twice : (id : PostId) → times_named id (map (λ (m : Mailed). m.id) ms) ≤ 2

-- the port is of the actor's box, whose letters are of this clock, and carries all its names; what
-- each name put are posts of the trace that its driver's actors made for this one, so that the
-- first name put nothing; what the actor's entries deliver is, in order, a prefix of what was taken
-- under the name 0, and nothing was taken under another; of what each name put, what was taken is,
-- in order, a prefix, and no put was taken twice
pub record IsPortOfActor (script : Script) (w : ℕ) (clock : TableId) (trace : List Entry) (a : Actor) (p : Ported) : Type 0 where
  pub names : BoxNames
  pub of_box : p.view.of_box ≡ Some names
  pub owner : names.owner ≡ a
  pub of_clock : names.clock ≡ clock
  pub all : CarriesAll p.view
  pub put : (b : PortLists) → IsIn b p.view.lists → ArePostsFor script w trace a b.name b.put
  pub alone : TookAlone 0 p.view
  pub delivered : IsPrefix (delivered_to a trace) (map (λ (s : Sent). s.mailed) (taken_under 0 p.view.lists))
  pub order : IsInOrder p.view
  pub once : IsOnce p.view

abbrev pub ArePortsOfActors : Script → ℕ → TableId → List Entry → List Ported → Type 0
ArePortsOfActors script w clock trace ports = Both (IsPortOfActor script w clock trace) (actors_of script) ports

-- ---- all of it

-- with one more entry of the actor, which is no halt, the trace is still a run, and what its
-- entries deliver is still a prefix of what was taken; it is still paced too, so that, where that
-- entry is a retry, it was due
pub record HasOneMore (script : Script) (w : ℕ) (clock : TableId) (trace : List Entry) (totals : List Totals) (ports : List Ported) (a : Actor) : Type 0 where
  pub entry : Entry
  pub actor : entry.actor ≡ a
  pub no_halt : is_halt entry.input ≡ false
  pub run : IsRun script (entry ∷ reverse trace)
  pub paced : IsPaced script (entry ∷ reverse trace) (lost_in totals) (doubled_in totals)
  pub ports_are : ArePortsOfActors script w clock (trace ++ entry ∷ []) ports

-- the actor made all the entries that it may make, and has one more to make
abbrev pub IsWorn : Script → ℕ → TableId → List Entry → List Totals → List Ported → Actor → Type 0
IsWorn script w clock trace totals ports a = (entries_of a (reverse trace) ≡ MOST_ENTRIES) × HasOneMore script w clock trace totals ports a

-- for each driver the actor that it met worn, if it met one: one of its own
pub record HaveMetWorn (script : Script) (w : ℕ) (clock : TableId) (trace : List Entry) (totals : List Totals)
    (ports : List Ported) (met : List (Option Actor)) : Type 0 where
  pub count : length met ≡ w
  pub each : (i : ℕ) (a : Actor) → slice_get met i ≡ Some (Some a) → (is_dealt script w i a ≡ true) × IsWorn script w clock trace totals ports a

-- of several that drivers met, the one of the lowest driver
abbrev pub lowest_of : List (Option Actor) → Option Actor
lowest_of [] = None
lowest_of (worn ∷ later) = first_some worn (lowest_of later)

-- where no actor was worn, every call ended, and the trace is paced to its end; where one was, it is paced up to there
abbrev pub HasEnd : Script → ℕ → TableId → List Entry → List Totals → List Ported → Option Actor → Type 0
HasEnd script w clock trace totals ports None =
    HaveCallsEnded script trace × IsPacedToEnd script (reverse trace) (lost_in totals) (doubled_in totals)
HasEnd script w clock trace totals ports (Some a) =
    IsWorn script w clock trace totals ports a × IsPaced script (reverse trace) (lost_in totals) (doubled_in totals)

-- what drivers of w threads made of a script; no actor made more entries than it may, and the seat
-- of the clock has all entries, each with the stamp that says its place
pub record IsRan (script : Script) (w : ℕ) (trace : List Entry) (seat : Seated) (totals : List Totals)
    (ports : List Ported) (worn : Option Actor) : Type 0 where
  pub run : IsRun script (reverse trace)
  pub no_halts : HasNoHalts trace
  pub few : (a : Actor) → entries_of a (reverse trace) ≤ MOST_ENTRIES
  pub drawn : IsDrawn seat.view trace
  pub end : HasEnd script w seat.clock trace totals ports worn
  pub totals_are : AreTotalsOf script w trace totals
  pub ports_are : ArePortsOfActors script w seat.clock trace ports
