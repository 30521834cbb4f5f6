-- Cuts of a trace, this project's choice of the consistent cuts of Chandy and Lamport: how many of its entries each actor has made.
-- What is open at a cut, and who goes on by itself there.
use Rattle.std.specs.Prelude.{◌≡◌, ℕ, ◌+◌, Bool, true, false, not, ◌&&◌, List, [], ◌∷◌, ◌++◌, length, if◌then◌else◌, nat_lt, ◌==◌, Option, None, IsSome}
use Rattle.std.specs.List.{filter, list_any}
use Rattle.hx_model.specs.Types.{Actor, Caller, Deliver, Entry, Input, Note, Post, PostId, Script, Session, Tick}
use Rattle.hx_types.specs.declared.traces.Note.TheVariants as a_note
use Rattle.hx_types.specs.Words.{provided, when_some}
use Rattle.hx_model.specs.Histories.{begin_of, note_of_end}
use Rattle.hx_model.specs.Runs.{entry_at, has_halted, made_of, does_something, post_named, session_of}
use Rattle.hx_model.specs.Schedule.{entries_of, is_idle, names_from, same_name}
use Rattle.hx_law_threads.specs.Own.{own_entries}

-- how many entries each actor has made
abbrev pub Cut : Type 0
Cut = Actor → ℕ

-- the cut that has all entries of a trace
abbrev pub whole_of : List Entry → Cut
whole_of trace a = entries_of a trace

-- the first n entries
abbrev pub first_entries : ℕ → List Entry → List Entry
first_entries n [] = []
first_entries n (x ∷ older) = if nat_lt (length older) n then x ∷ older else first_entries n older

-- what an actor has made at a cut
abbrev pub own_at : Cut → List Entry → Actor → List Entry
own_at cut trace a = first_entries (cut a) (own_entries a trace)

-- the first entry of an actor after a cut
abbrev pub next_at : Cut → List Entry → Actor → Option Entry
next_at cut trace a = entry_at (cut a + 1) (own_entries a trace)

abbrev pub is_tick : Input → Bool
is_tick Tick = true
is_tick other = false

abbrev pub is_began : Note → Bool
is_began (a_note.Began number) = true
is_began other = false

-- a retry: a tick that begins no call
abbrev pub is_retry : Entry → Bool
is_retry x = is_tick x.input && not (list_any is_began x.notes)

-- the actor is a session that can begin its next call
abbrev pub is_idle_actor : Script → List Entry → Actor → Bool
is_idle_actor script own (Session u) = is_idle (session_of script u own)
is_idle_actor script own other = false

-- after its own entries the actor runs, is no idle session, and a tick makes something: it waits for what may be lost
abbrev pub is_waiting : Script → List Entry → Actor → Bool
is_waiting script own a = not (has_halted script own a) && not (is_idle_actor script own a) && does_something Tick (made_of script own a Tick)

-- the entry of an actor with so many older entries of the trace is in the cut
abbrev pub is_in_cut : Cut → Actor → List Entry → Bool
is_in_cut cut a older = nat_lt (entries_of a older) (cut a)

-- the names of the posts that the entries of a cut made
abbrev pub posted_at : Cut → List Entry → List PostId
posted_at cut [] = []
posted_at cut (x ∷ older) = posted_at cut older ++ provided (is_in_cut cut x.actor older) (names_from (length older + 1) 0 x.outputs)

-- the name of the post that an input delivers
abbrev pub delivered_by : Input → List PostId
delivered_by (Deliver id from message) = id ∷ []
delivered_by other = []

-- the names of the posts that the entries of a cut delivered, as often as they did
abbrev pub delivered_at : Cut → List Entry → List PostId
delivered_at cut [] = []
delivered_at cut (x ∷ older) = delivered_at cut older ++ provided (is_in_cut cut x.actor older) (delivered_by x.input)

-- how often a name stands in a list
abbrev pub times_named : PostId → List PostId → ℕ
times_named id [] = 0
times_named id (x ∷ rest) = if same_name x id then times_named id rest + 1 else times_named id rest

-- the receiver of a post had halted in the cut
abbrev pub is_to_halted : Script → Cut → List Entry → PostId → Bool
is_to_halted script cut trace id = when_some (post_named id trace) false (λ (p : Post). has_halted script (own_at cut trace p.to) p.to)

-- an entry of the cut made the post, none delivered it, and its receiver runs
abbrev pub open_at : Script → Cut → List Entry → List PostId
open_at script cut trace =
    filter (λ (id : PostId). (times_named id (delivered_at cut trace) == 0) && not (is_to_halted script cut trace id)) (posted_at cut trace)

-- the posts that were delivered twice
abbrev pub delivered_twice : List Entry → List PostId
delivered_twice trace =
    filter (λ (id : PostId). times_named id (delivered_at (whole_of trace) trace) == 2) (posted_at (whole_of trace) trace)

-- a call had begun and not ended
abbrev pub HasCallUnderWay : List Entry → Cut → Type 0
HasCallUnderWay trace cut =
    (c : Caller) × IsSome (begin_of c (own_at cut trace (Session c.session))) × (note_of_end c (own_at cut trace (Session c.session)) ≡ None)
