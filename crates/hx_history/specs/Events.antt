-- What the notes of a trace say of keys, and the history of a key by what they say of it. Traces and events stand oldest first here.
use Rattle.hx_model.specs.Lines.{upto}
use Rattle.std.specs.Prelude.{ℕ, zero, suc, unwrap_or, ◌-◌, Bool, List, [], ◌∷◌, ◌++◌, map, fold, filter, slice_get, if◌then◌else◌, Option, None, Some}
use Rattle.std.specs.List.{flat_map}
use Rattle.std.specs.Option.{option_and_then, option_copied, option_map}
use Rattle.std.specs.Borrow.{Bor}
use Rattle.hx_model.specs.Types.{Actor, Answer, Caller, Coordinator, Entry, Get, Item, Note, Op, Script, Server, Session, Update, Value, Version}
use Rattle.hx_types.specs.declared.traces.Note.TheVariants as a_note
use Rattle.hx_types.specs.Words.{list_of, same_text}
use Rattle.hx_types.specs.Fitting.{call_of, is_refused}
use Rattle.hx_model.specs.Histories.{in_place, not_refused, write_item}
use Rattle.hx_history.specs.declared.events.Event.{Event}
use Rattle.hx_history.specs.declared.events.Read.{Read}
use Rattle.hx_history.specs.declared.items.ItemRef.{ItemRef}
use Rattle.hx_history.specs.declared.events.Event.TheVariants as an_event

-- a get that ended and was not refused
pub record ReadEnd : Type 0 where
  pub key : List ℕ
  pub caller : Caller
  pub version : Version
  pub op : Op
  pub answer : Answer

-- what a note says of one key
pub data KeyEvent : Type 0 where
  Write : Update → KeyEvent
  End : ReadEnd → KeyEvent

abbrev pub key_of : KeyEvent → List ℕ
key_of (Write u) = u.key
key_of (End r) = r.key

-- what the code's event points to
abbrev pub read_view : Read → ReadEnd
read_view r = record { key = r.key.now; caller = r.caller; version = r.version; op = r.op.now; answer = r.answer.now }

abbrev pub event_view : Event → KeyEvent
event_view (an_event.Wrote u) = Write u.now
event_view (an_event.Read r) = End (read_view r)

-- the end of a get, unless it was refused
abbrev pub read_at : Caller → Version → Answer → Op → Option ReadEnd
read_at c version answer (Get k) =
    if is_refused answer then None else Some (record { key = k; caller = c; version = version; op = Get k; answer = answer })
read_at c version answer other = None

-- the end of a caller's get
abbrev pub read_of : Script → Caller → Version → Answer → Option ReadEnd
read_of script c version answer = option_and_then (read_at c version answer) (call_of script c)

abbrev pub read_by : Script → Actor → ℕ → Version → Answer → Option ReadEnd
read_by script Coordinator number version answer = None
read_by script (Server s) number version answer = None
read_by script (Session u) number version answer = read_of script (record { session = u; number = number }) version answer

-- what a note in an entry of an actor says of a key
abbrev pub event_of : Script → Actor → Note → Option KeyEvent
event_of script actor (a_note.Began number) = None
event_of script actor (a_note.Ended number version answer) = option_map End (read_by script actor number version answer)
event_of script actor (a_note.Assigned u) = Some (Write u)
event_of script actor (a_note.Issued config) = None

abbrev pub events_in : Script → Actor → List Note → List KeyEvent
events_in script actor notes = flat_map (λ (n : Note). list_of (event_of script actor n)) notes

abbrev pub events_of : Script → List Entry → List KeyEvent
events_of script trace = flat_map (λ (x : Entry). events_in script x.actor x.notes) trace

abbrev pub is_at : List ℕ → KeyEvent → Bool
is_at key e = same_text (key_of e) key

-- the line of a key, newest first, after one more event
abbrev pub lined : List Update → KeyEvent → List Update
lined line (Write u) = u ∷ upto (u.version.0 - 1) line
lined line (End r) = line

-- the line of a key by its events, newest first
abbrev pub line_by : List KeyEvent → List Update
line_by events = fold lined [] events

abbrev pub read_in : KeyEvent → List ReadEnd
read_in (Write u) = []
read_in (End r) = r ∷ []

-- the ended gets of a key by its events
abbrev pub reads_by : List KeyEvent → List ReadEnd
reads_by events = flat_map read_in events

abbrev pub item_on : Option (List Value) → ReadEnd → Item
item_on object r = record { version = r.version; caller = r.caller; op = r.op; answer = r.answer; object = object }

-- the gets that name a version from this one on and below that one
abbrev pub placed : ℕ → Option ℕ → Option (List Value) → List ReadEnd → List Item
placed low high object reads = map (item_on object) (filter (λ (r : ReadEnd). in_place low high r.version.0) reads)

-- each write, the newest of them first in the list, after it the gets that name a version from its own on and below the next one; oldest first
abbrev pub told : Script → List ReadEnd → Option ℕ → List Update → List Item
told script reads high [] = placed 0 high None reads
told script reads high (u ∷ older) =
    told script reads (Some u.version.0) older ++ write_item script u ++ placed u.version.0 high u.object reads

-- the history of a key by its events
abbrev pub history_by : Script → List KeyEvent → List Item
history_by script events = told script (reads_by events) None (not_refused (line_by events))

-- what the code's item points to
abbrev pub item_view : ItemRef → Item
item_view r = record { version = r.version; caller = r.caller; op = r.op.now; answer = r.answer.now; object = option_copied r.object }

-- the updates that references point to
abbrev pub updates_at : List (Bor Update) → List Update
updates_at refs = map (λ (u : Bor Update). u.now) refs

-- the version of the update at a place
abbrev pub version_in : List (Bor Update) → ℕ → Option ℕ
version_in refs place = option_map (λ (u : Bor Update). u.now.version.0) (slice_get refs place)

-- the version of a reference to an update
abbrev pub version_at : Bor Update → ℕ
version_at u = u.now.version.0

-- the first version that belongs to a place: place 0 is before all writes, place p + 1 after write p
abbrev pub low_at : List (Bor Update) → ℕ → ℕ
low_at writes zero = 0
low_at writes (suc p) = unwrap_or (version_in writes p) 0

-- whether a get belongs to a place among the writes
abbrev pub is_in_place : List (Bor Update) → ℕ → Read → Bool
is_in_place writes p r = in_place (low_at writes p) (version_in writes p) r.version.0
