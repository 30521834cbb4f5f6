-- An actor at its desk: with its entries, its seat, the port that takes for it, and the envelopes that are kept for it.
use Rattle.std.specs.Prelude.{ℕ, ◌≡◌, ◌+◌, ◌≤◌, true, false, List, [], ◌∷◌, ◌++◌, length, map, reverse, slice_get, Some}
use mathlib.Core.List.{IsPrefix}
use Rattle.atomic_table.specs.Seated.{TableId}
use Rattle.hx_types.specs.declared.limits.TheConstants.{MOST_ENTRIES}
use Rattle.hx_types.specs.declared.traces.Entry.{Entry}
use Rattle.hx_types.specs.declared.traces.Script.{Script}
use Rattle.hx_model.specs.Runs.{has_halted, is_actor}
use Rattle.hx_clock.specs.declared.parts.Stamped.{Stamped}
use Rattle.hx_clock.specs.Views.{Owns}
use Rattle.hx_law_threads.specs.Own.{IsOwn}
use Rattle.hx_law_threads.specs.Cuts.{is_retry, is_waiting}
use Rattle.hx_law_threads.specs.Feeding.{IsFed, entries_in}
use Rattle.hx_machine.specs.Machines.{IsMachine}
use Rattle.hx_mail.specs.declared.views.Mailed.{Mailed}
use Rattle.hx_mail.specs.Boxes.{Boxed}
use Rattle.hx_outbox.specs.Outboxes.{AreGood}
use Rattle.hx_outbox.specs.Offers.{named}
use Rattle.hx_outbox.specs.Places.{place_of}
use Rattle.hx_driver.specs.declared.desks.Desk.{Desk}
use Rattle.hx_driver.specs.Inboxes.{HasInPort, IsHeardFrom, ins_of}
use Rattle.hx_driver.specs.Told.{told_by}

-- the posts that these entries deliver, in order
abbrev pub told : List Stamped → List Mailed
told [] = []
told (x ∷ xs) = told_by x.entry.actor x.entry.input ++ told xs

-- the posts that an entry made, with their names
abbrev pub made_in : Stamped → List Mailed
made_in x = named (x.stamp.0 + 1) 0 x.entry.outputs

abbrev pub made_by : List Stamped → List Mailed
made_by [] = []
made_by (x ∷ xs) = made_in x ++ made_by xs

-- the entries of a part, the newest first
abbrev pub past_of : List Stamped → List Stamped
past_of part = reverse part

abbrev pub entries_before : List Stamped → List Entry
entries_before part = entries_in (past_of part)

-- the actor with the state of its entries; `rest` was taken after what its entries delivered, and wasn't delivered
pub record IsDesk (script : Script) (clock : TableId) (boxes : List Boxed) (w : ℕ) (rest : List Mailed) (d : Desk) : Type 0 where
  pub exists : is_actor script d.actor ≡ true
  pub seat : (d.seat.clock ≡ clock) × Owns d.seat.view (place_of script.space d.actor) d.part.items
  pub machine : IsMachine script d.actor (entries_before d.part.items) d.machine
  pub own : IsOwn script d.actor (entries_before d.part.items)
  pub fed : IsFed script (past_of d.part.items)
  pub inbox : HasInPort w boxes (place_of script.space d.actor) d.inbox
  pub heard : (length d.heard.items ≡ w + 1) × IsHeardFrom 0 d.heard.items (ins_of d.inbox)
  pub told : told d.part.items ++ rest ≡ map (λ s. s.mailed) (ins_of d.inbox)
  pub kept : AreGood script clock d.kept.items
  pub few : length d.part.items ≤ MOST_ENTRIES

-- the same, where only a halted server left something undelivered
pub record IsWholeDesk (script : Script) (clock : TableId) (boxes : List Boxed) (w : ℕ) (d : Desk) : Type 0 where
  pub rest : List Mailed
  pub desk : IsDesk script clock boxes w rest d
  pub delivered : has_halted script (entries_before d.part.items) d.actor ≡ false → rest ≡ []

-- or a fault was met after something was taken
pub record IsBrokenDesk (script : Script) (clock : TableId) (boxes : List Boxed) (w : ℕ) (d : Desk) : Type 0 where
  pub rest : List Mailed
  pub desk : IsDesk script clock boxes w rest d

-- the same actor later
pub record IsLater (d d' : Desk) : Type 0 where
  pub actor : d'.actor ≡ d.actor
  pub part : IsPrefix d.part.items d'.part.items
  pub ins : IsPrefix (ins_of d.inbox) (ins_of d'.inbox)

-- the same desk, but for room and for the lists that it lends
pub record IsSame (d d' : Desk) : Type 0 where
  pub actor : d'.actor ≡ d.actor
  pub part : d'.part.items ≡ d.part.items
  pub seat : d'.seat ≡ d.seat
  pub inbox : d'.inbox ≡ d.inbox
  pub kept : d'.kept.items ≡ d.kept.items
  pub heard : d'.heard.items ≡ d.heard.items

-- none of the entries that came is a retry
abbrev pub HasNoRetry : Desk → Desk → Type 0
HasNoRetry d d' = (n : ℕ) (x : Stamped) → length d.part.items ≤ n → slice_get d'.part.items n ≡ Some x → is_retry x.entry ≡ false

-- one more entry came, and it is a retry
abbrev pub HasOneRetry : Desk → Desk → Type 0
HasOneRetry d d' = (x : Stamped) × (is_retry x.entry ≡ true) × (d'.part.items ≡ d.part.items ++ x ∷ [])

-- the actor retried exactly where it waited, and nothing else came
pub record HasRetried (script : Script) (d d' : Desk) : Type 0 where
  pub waiting : is_waiting script (entries_before d.part.items) d.actor ≡ true → HasOneRetry d d'
  pub other : is_waiting script (entries_before d.part.items) d.actor ≡ false → d'.part.items ≡ d.part.items
