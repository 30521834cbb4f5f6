-- What a round of slices or of retries leaves, and how the rounds end.
use Rattle.std.specs.Prelude.{ℕ, ◌≡◌, ◌⊎◌, List, [], ◌∷◌, Option, None}
use Rattle.std.specs.List.{AllByRecursion}
use Rattle.atomic_table.specs.Seated.{TableId}
use Rattle.hx_types.specs.declared.traces.Script.{Script}
use Rattle.hx_types.specs.Words.{first_some}
use Rattle.hx_mail.specs.Boxes.{Boxed}
use Rattle.hx_outbox.specs.Zipped.{Both}
use Rattle.hx_driver.specs.declared.desks.Desk.{Desk}
use Rattle.hx_driver.specs.declared.faults.Fault.{Fault}
use Rattle.hx_driver.specs.Desks.{entries_before}
use Rattle.hx_driver.specs.declared.crews.Crew.{Crew}
use Rattle.hx_driver.specs.Crews.{IsCrew}
use Rattle.hx_machine.specs.Machines.{IsMachine}
use Rattle.hx_law_drivers.specs.Courses.{AreRetried, AreSliced}
use Rattle.hx_law_drivers.specs.Rests.{AreAtRest, HaveAllEnded, SomeGoesOn}

-- the actor has the state of its entries
abbrev pub HasMachine : Script → Desk → Type 0
HasMachine script d = IsMachine script d.actor (entries_before d.part.items) d.machine

abbrev pub HaveMachines : Script → Crew → Type 0
HaveMachines script c = AllByRecursion (HasMachine script) c.desks.items

-- what a crew is it stays
abbrev pub StaysCrew : Script → TableId → List Boxed → Crew → Crew → Type 0
StaysCrew script clock boxes c c' = (w : ℕ) → IsCrew script clock boxes w c → IsCrew script clock boxes w c'

abbrev pub StayCrews : Script → TableId → List Boxed → List Crew → List Crew → Type 0
StayCrews script clock boxes crews crews' = Both (StaysCrew script clock boxes) crews crews'

-- the fault of the lowest driver that has one
abbrev pub first_fault : List Crew → Option Fault
first_fault [] = None
first_fault (c ∷ crews) = first_some c.fault (first_fault crews)

-- one round: slices of all drivers, or a retry of each where they are at rest and a session goes on
abbrev pub Advance : Script → List Crew → List Crew → Type 0
Advance script crews crews' = AreSliced script crews crews' ⊎ (AreAtRest script crews × SomeGoesOn script crews × AreRetried script crews crews')

-- the rounds end with the fault of the lowest driver that has one, or, where none has, with all calls ended and nothing left to do
pub record AreOver (script : Script) (crews : List Crew) (fault : Option Fault) : Type 0 where
  pub first : fault ≡ first_fault crews
  pub rest : fault ≡ None → AreAtRest script crews
  pub ended : fault ≡ None → HaveAllEnded script crews
