-- What an actor is given: an input that it can take at its desk, and the step that is ready on it.
use Rattle.std.specs.Prelude.{ℕ, ◌≡◌, ◌+◌, ◌*◌, ◌≤◌, ◌<◌, true, List, length, ⊤}
use Rattle.std.specs.List.{AllByRecursion}
use Rattle.std.specs.VecDeque.{deque_len, deque_capacity}
use mathlib.Core.List.{IsPrefix}
use Rattle.hx_types.specs.declared.traces.Input.{Input}
use Rattle.hx_types.specs.declared.traces.Script.{Script}
use Rattle.hx_types.specs.declared.traces.Input.TheVariants.{Tick, Halt, Deliver}
use Rattle.hx_types.specs.Posts.{IsSoundPost}
use Rattle.hx_types.specs.Words.{post}
use Rattle.hx_model.specs.Runs.{entry_of, made_of, does_something}
use Rattle.hx_clock.specs.declared.parts.Stamped.{Stamped}
use Rattle.hx_clock.specs.Rooms.{IsRoomFor}
use Rattle.hx_clock.specs.Views.{Knows}
use Rattle.hx_machine.specs.declared.changes.Change.{Change}
use Rattle.hx_machine.specs.Machines.{CanTake, IsChangeOf}
use Rattle.hx_driver.specs.declared.desks.Desk.{Desk}
use Rattle.hx_driver.specs.Desks.{entries_before, past_of}
use Rattle.hx_driver.specs.Inboxes.{ins_of}

-- the actor can be given the input: a post for it that its seat knows, and that is sound; no driver halts an actor
abbrev pub CanBeGiven : Script → Desk → Input → Type 0
CanBeGiven script d Tick = ⊤
CanBeGiven script d Halt = ⊥
CanBeGiven script d (Deliver id from message) =
    Knows d.seat.view id (post from d.actor message) × IsSoundPost script.space (length script.sessions) id.entry (post from d.actor message)

-- one more can be counted under each name
abbrev pub CanCount : List ℕ → Type 0
CanCount heard = AllByRecursion (λ n. n < 18446744073709551615) heard

-- only what was taken, what was counted and what the seat knows differ
pub record HasTaken (d d' : Desk) : Type 0 where
  pub actor : d'.actor ≡ d.actor
  pub machine : d'.machine ≡ d.machine
  pub part : d'.part.items ≡ d.part.items
  pub kept : d'.kept.items ≡ d.kept.items
  pub ins : IsPrefix (ins_of d.inbox) (ins_of d'.inbox)

-- the actor's step on the input is ready: the desk's lists hold what it posts and notes, and this is what it changes
pub record IsReady (script : Script) (d : Desk) (input : Input) (c : Change) : Type 0 where
  pub change : IsChangeOf script d.actor (entries_before d.part.items) input d.machine c
  pub posts : d.lent.posts ≡ (made_of script (entries_before d.part.items) d.actor input).posts
  pub notes : d.lent.notes ≡ (made_of script (entries_before d.part.items) d.actor input).notes
  pub takes : CanTake script d.actor (past_of d.part.items) input
  pub given : CanBeGiven script d input

-- the entry is the actor's step on the input
abbrev pub IsMadeOf : Script → Desk → Input → Stamped → Type 0
IsMadeOf script d input x = x.entry ≡ entry_of d.actor input (made_of script (entries_before d.part.items) d.actor input)

-- the step that is ready makes something, where it is a tick
abbrev pub MakesEnough : Input → Desk → Type 0
MakesEnough input d = does_something input (record { posts = d.lent.posts; notes = d.lent.notes }) ≡ true

-- there is room for the entry of the step that is ready, and to keep two envelopes for each of its posts
pub record HasPlaces (d : Desk) : Type 0 where
  pub part : IsRoomFor d.part.room (length d.lent.posts) (length d.lent.notes)
  pub kept : deque_len d.kept + 2 * length d.lent.posts ≤ deque_capacity d.kept

-- the same step is ready
pub record IsSameStep (d d' : Desk) : Type 0 where
  pub machine : d'.machine ≡ d.machine
  pub posts : d'.lent.posts ≡ d.lent.posts
  pub notes : d'.lent.notes ≡ d.lent.notes
