-- The rule of the clock, and what its steps tell.
-- There is one history. The number of stamps drawn is its length, and an entry's stamp is its place in it, from 0.
use Rattle.std.specs.Prelude.{ℕ, suc, ◌≡◌, ◌*◌, ◌<◌, ◌≤◌, cond, eqb, nat_lt, List, [], ◌∷◌, length, slice_get, Option, Some, None, ⊤}
use Rattle.std.specs.List.{AllByRecursion}
use mathlib.Core.Option.{some}
use mathlib.Core.List.{IsPrefix}
use lib.ListN.{get_elem?}
use Rattle.atomic_table.specs.Table.{State, Me}
use Rattle.hx_types.specs.declared.messages.Post.{Post}
use Rattle.hx_types.specs.declared.messages.PostId.{PostId}
use Rattle.hx_types.specs.declared.traces.Entry.{Entry}
use Rattle.hx_types.specs.declared.limits.TheConstants.{MOST_ENTRIES}
use Rattle.hx_clock.specs.declared.limits.TheConstants.{MOST_ENROLLED}
use Rattle.hx_clock.specs.declared.parts.Stamped.{Stamped}
use Rattle.hx_clock.specs.declared.view.View.{View}
use Rattle.hx_clock.specs.Parts.{stamped, Posted, DeliveryMeets, IsCausal, HasStampsBelow}
use Rattle.hx_clock.specs.Views.{acted, enrolling, one, parts_of, times, total, IsAfter, IsWhole}

-- one event of the history: the number of the actor, and its entry
pub record Event : Type 0 where
  pub by : ℕ
  pub entry : Entry

abbrev pub event : ℕ → Entry → Event
event k entry = record { by = k; entry = entry }

-- the part of the number k in a history whose first stamp is n
abbrev pub part_from : ℕ → ℕ → List Event → List Stamped
part_from k n [] = []
part_from k n (e ∷ es) = cond (eqb k e.by) (stamped n e.entry ∷ part_from k (suc n) es) (part_from k (suc n) es)

abbrev pub part_in : ℕ → List Event → List Stamped
part_in k history = part_from k 0 history

-- an event at a place before n made the post
abbrev pub IsPostedIn : List Event → ℕ → PostId → Post → Type 0
IsPostedIn history n id p =
    ∥ ((m : ℕ) × (e : Event) × (m < n) × (slice_get history m ≡ Some e) × Posted (stamped m e.entry) id p) ∥₁

-- each post that is delivered was made before, for the actor that takes it
abbrev pub IsCausalHistory : List Event → Type 0
IsCausalHistory history = (n : ℕ) (e : Event) → slice_get history n ≡ Some e → DeliveryMeets (IsPostedIn history n) e.entry

-- how many counts there are
abbrev pub counts : Option ℕ → ℕ
counts None = 0
counts (Some n) = 1

-- a view fits the history and the number of actors
pub record Fits (history : List Event) (actors : ℕ) (v : View) : Type 0 where
  -- what it carries are whole parts
  pub carried : AllByRecursion (λ p. p.entries ≡ part_in p.number history) v.carried
  -- what it knows are prefixes of parts
  pub known : AllByRecursion (λ p. IsPrefix p.entries (part_in p.number history)) v.known
  -- what it counts are the actors
  pub count : (n : ℕ) → v.count ≡ Some n → n ≡ actors

-- the rule: there are a history and a number of actors that the words tell, and that all views fit
pub record IsKept (s : State ⊤ View) : Type 0 where
  pub history : List Event
  pub actors : ℕ
  pub words : s.words ≡ length history ∷ actors ∷ []
  -- there are few enough of both that no word wraps
  pub few_actors : actors ≤ MOST_ENROLLED
  pub few_entries : (k : ℕ) → length (part_in k history) ≤ MOST_ENTRIES
  -- each event is of an actor that enrolled, and delivers what was posted before
  pub by_actors : AllByRecursion (λ e. e.by < actors) history
  pub causal : IsCausalHistory history
  -- each number that was drawn is carried by one view, once, and no view carries another
  pub carried_once : (k : ℕ) → total (λ v. times k v.carried) s.views ≡ one (nat_lt k actors)
  -- one view has a count
  pub counted_once : total (λ v. counts v.count) s.views ≡ 1
  pub fits : (place : ℕ) (v : View) → get_elem? s.views place ≡ some v → Fits history actors v

-- act: the entry has the number found as its stamp, above each that the seat has
abbrev pub Acts : Entry → Me ⊤ View → ℕ → Me ⊤ View → Type 0
Acts entry m found m' =
    (m' ≡ (acted (stamped found entry) m.0, m.1)) × IsAfter found m.0 × (found < MOST_ENROLLED * MOST_ENTRIES)

-- enrol: the number found was drawn, which is what the seat had counted
abbrev pub Enrols : Me ⊤ View → ℕ → Me ⊤ View → Type 0
Enrols m found m' = (m' ≡ (enrolling found m.0, m.1)) × (m.0.count ≡ Some found)

-- load: the number found is above each stamp that the seat has; what a whole view carries is causal, and its stamps are the numbers below it
abbrev pub Loads : Me ⊤ View → ℕ → Me ⊤ View → Type 0
Loads m found m' =
    (m' ≡ m)
    × (IsWhole m.0 → IsCausal (parts_of m.0) × HasStampsBelow found (parts_of m.0))
    × IsAfter found m.0
    × (found ≤ MOST_ENROLLED * MOST_ENTRIES)
