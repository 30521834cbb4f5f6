-- The boxes and the drivers of a script before the first turn.
use Rattle.std.specs.Prelude.{ℕ, ◌≡◌, ◌%◌, List, [], map, slice_get, None, Some, eqb}
use Rattle.std.specs.List.{AllByRecursion, filter}
use Rattle.atomic_table.specs.Seated.{TableId}
use Rattle.hx_types.specs.declared.ids.Actor.{Actor}
use Rattle.hx_types.specs.declared.traces.Script.{Script}
use Rattle.hx_clock.specs.Seats.{Seated}
use Rattle.hx_clock.specs.Views.{Owns}
use Rattle.hx_mail.specs.Boxes.{Boxed}
use Rattle.hx_outbox.specs.Places.{place_of}
use Rattle.hx_driver.specs.declared.desks.Desk.{Desk}
use Rattle.hx_driver.specs.declared.crews.Crew.{Crew}
use Rattle.hx_driver.specs.Crews.{IsCrew, no_totals}
use Rattle.hx_law_drivers.specs.Crews.{AreNumbered, HaveAllActors}
use Rattle.hx_cluster.specs.Everyone.{actors_of}

-- those that belong to driver i of w: each whose place among all, divided by w, leaves i
abbrev pub actors_dealt : Script → ℕ → ℕ → List Actor
actors_dealt script w i = filter (λ (a : Actor). eqb (place_of script.space a % w) i) (actors_of script)

-- the seat carries the number k, with no entry, and is of this clock
abbrev pub IsNewSeat : TableId → ℕ → Seated → Type 0
IsNewSeat clock k s = (s.clock ≡ clock) × Owns s.view k []

-- seats of the numbers from 0
abbrev pub AreNewSeats : TableId → List Seated → Type 0
AreNewSeats clock seats = (k : ℕ) (s : Seated) → slice_get seats k ≡ Some s → IsNewSeat clock k s

-- a crew that has done nothing
pub record IsNewCrew (c : Crew) : Type 0 where
  pub desks : AllByRecursion (λ (d : Desk). (d.part.items ≡ []) × (d.kept.items ≡ [])) c.desks.items
  pub totals : c.totals ≡ no_totals
  pub fault : c.fault ≡ None

-- the drivers of a script before the first turn: each has its actors, in order, and its ports
pub record AreNewCrews (script : Script) (clock : TableId) (boxes : List Boxed) (w : ℕ) (crews : List Crew) : Type 0 where
  pub crews_are : AllByRecursion (IsCrew script clock boxes w) crews
  pub numbered : AreNumbered w crews
  pub dealt : (i : ℕ) (c : Crew) → slice_get crews i ≡ Some c → map (λ (d : Desk). d.actor) c.desks.items ≡ actors_dealt script w i
  pub actors : HaveAllActors script crews
  pub new : AllByRecursion IsNewCrew crews
