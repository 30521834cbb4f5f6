-- What is gathered: each actor's part with the seat that carries it.
use Rattle.std.specs.Prelude.{◌≡◌, ℕ, ◌<◌, List, map, Some}
use Rattle.atomic_table.specs.Seated.{TableId}
use Rattle.hx_model.specs.Types.{Entry}
use Rattle.hx_types.specs.Words.{IsIn}
use Rattle.hx_clock.specs.declared.parts.Stamped.{Stamped}
use Rattle.hx_clock.specs.declared.view.View.{View}
use Rattle.hx_clock.specs.Seats.{Seated}
use Rattle.hx_clock.specs.Views as a_view
use Rattle.hx_clock.specs.Views.{IsWhole, Owns}
use Rattle.hx_law_threads.specs.Merged.{ActorPart, HasStampsAsPlaces, IsMerged}
use Rattle.hx_gather.specs.declared.gathering.SeatedPart.{SeatedPart}

-- the part and its actor, without the seat
abbrev pub part_by : SeatedPart → ActorPart
part_by p = record { actor = p.actor; part = p.part }

abbrev pub parts_by : List SeatedPart → List ActorPart
parts_by seated = map part_by seated

abbrev pub parts_of : List SeatedPart → List (List Stamped)
parts_of seated = map (λ (p : SeatedPart). p.part) seated

-- the seat is of the clock and carries the part and nothing else
abbrev pub IsSeated : TableId → SeatedPart → Type 0
IsSeated clock p = (p.seat.clock ≡ clock) × ((k : ℕ) × Owns p.seat.view k p.part)

-- one of the parts is that of the number k
abbrev pub HasNumber : ℕ → List SeatedPart → Type 0
HasNumber k seated = (p : SeatedPart) × IsIn p seated × Owns p.seat.view k p.part

-- the seat counts the actors, and each of them has its part here
abbrev pub CountsAll : Seated → List SeatedPart → Type 0
CountsAll seat seated = (n : ℕ) × (seat.view.count ≡ Some n) × ((k : ℕ) → k < n → HasNumber k seated)

-- the view has all entries of a clock, and the trace has them at the places of their stamps, which are the numbers from 0
pub record IsDrawn (v : View) (trace : List Entry) : Type 0 where
  -- it counts the actors, and carries what each of them made
  pub whole : IsWhole v
  pub merged : List Stamped
  pub is_merged : IsMerged (a_view.parts_of v) merged
  pub places : HasStampsAsPlaces merged
  pub entries : trace ≡ map (λ (x : Stamped). x.entry) merged
