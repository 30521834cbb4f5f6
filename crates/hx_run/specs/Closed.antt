-- Drivers whose rounds are over and whose ports are joined, and what is left of them.
use Rattle.std.specs.Prelude.{ℕ, ◌≡◌, ◌⊎◌, ◌+◌, ◌<◌, List, [], map, length, Option, None, Some}
use Rattle.std.specs.List.{AllByRecursion}
use Rattle.atomic_table.specs.Seated.{TableId}
use Rattle.hx_types.specs.declared.ids.Actor.{Actor}
use Rattle.hx_types.specs.declared.totals.Totals.{Totals}
use Rattle.hx_types.specs.declared.traces.Script.{Script}
use Rattle.hx_types.specs.Words.{IsIn}
use Rattle.hx_mail.specs.declared.views.BoxNames.{BoxNames}
use Rattle.hx_mail.specs.declared.views.Mailed.{Mailed}
use Rattle.hx_mail.specs.declared.views.PortLists.{PortLists}
use Rattle.hx_mail.specs.Boxes.{Boxed, Ported}
use Rattle.hx_mail.specs.Ports.{CarriesAll, IsInOrder, IsOnce, TookAlone}
use Rattle.hx_fate.specs.declared.fates.FateState.{FateState}
use Rattle.hx_outbox.specs.Zipped.{Both}
use Rattle.hx_driver.specs.declared.desks.Desk.{Desk}
use Rattle.hx_driver.specs.declared.faults.Fault.{Fault}
use Rattle.hx_driver.specs.declared.faults.Fault.TheVariants.{Memory, Worn}
use Rattle.hx_driver.specs.Inboxes.{ins_of}
use Rattle.hx_driver.specs.declared.crews.Crew.{Crew}
use Rattle.hx_driver.specs.Crews.{IsPosted}
use Rattle.hx_law_drivers.specs.Crews.{desks_of, parts_of}
use Rattle.hx_law_drivers.specs.Joined.{outs_at}
use Rattle.hx_law_drivers.specs.Laws.{HaveRun}
use Rattle.hx_cluster.specs.Clusters.{AreNewCrews, IsNewCrew}
use Rattle.hx_cluster.specs.Everyone.{actors_of}
use Rattle.hx_gather.specs.declared.gathering.SeatedPart.{SeatedPart}
use Rattle.hx_gather.specs.Gathered.{parts_by, HasNumber, IsSeated}
use Rattle.hx_run.specs.declared.joining.OwnedPort.{OwnedPort}
use Rattle.hx_run.specs.Ran.{taken_under}
use Rattle.hx_run.specs.Rounds.{AreOver}

-- these lists of a box are what one of the drivers put there for the actor
pub record HasPut (crews : List Crew) (a : Actor) (b : PortLists) : Type 0 where
  pub crew : Crew
  pub is : IsIn crew crews
  pub name : b.name ≡ crew.out.index + 1
  pub place : ℕ
  pub put : b.put ≡ outs_at place crew.out.ports.items
  pub to : AllByRecursion (λ (m : Mailed). m.post.to ≡ a) b.put

-- the first port of an actor's box took in all others: it has all names, what was taken was taken under the name 0, in order and once
pub record IsFirstPort (clock : TableId) (crews : List Crew) (a : Actor) (p : Ported) : Type 0 where
  pub names : BoxNames
  pub of_box : p.view.of_box ≡ Some names
  pub owner : names.owner ≡ a
  pub of_clock : names.clock ≡ clock
  pub all : CarriesAll p.view
  pub put : (b : PortLists) → IsIn b p.view.lists → (b.put ≡ []) ⊎ HasPut crews a b
  pub alone : TookAlone 0 p.view
  pub order : IsInOrder p.view
  pub once : IsOnce p.view
  pub desk : Desk
  pub is : IsIn desk (desks_of crews)
  pub actor : desk.actor ≡ a
  pub taken : taken_under 0 p.view.lists ≡ ins_of desk.inbox

-- what is left of an actor, and the first port of its box
abbrev pub seated_of : Desk → SeatedPart
seated_of d = record { actor = d.actor; part = d.part.items; seat = d.seat }

abbrev pub owned_port_of : Desk → OwnedPort
owned_port_of d = record { actor = d.actor; inbox = d.inbox }

-- the parts of all actors with their seats, the drivers' totals, and the first ports, in the order of actors
pub record IsLeft (script : Script) (clock : TableId) (crews : List Crew) (actors : List SeatedPart) (totals : List Totals) (ports : List Ported) : Type 0 where
  pub parts : parts_by actors ≡ parts_of crews
  pub seats : AllByRecursion (IsSeated clock) actors
  pub numbers : (k : ℕ) → k < length (actors_of script) → HasNumber k actors
  pub totals_are : totals ≡ map (λ (c : Crew). c.totals) crews
  pub ports_are : Both (IsFirstPort clock crews) (actors_of script) ports

-- drivers that were new ran to their end
pub record AreClosed (script : Script) (clock : TableId) (w : ℕ) (start now : List Crew) (fault : Option Fault) : Type 0 where
  pub boxes : List Boxed
  pub new : AreNewCrews script clock boxes w start
  pub run : HaveRun script clock boxes w start now
  pub over : AreOver script now fault

-- what a new driver posted by now, and its fate's state then and now
pub record HasPosted (c : Crew) (f f' : FateState) : Type 0 where
  pub start : Crew
  pub new : IsNewCrew start
  pub posted : IsPosted start c f f'

-- the fault where this actor, or none, is worn
abbrev pub fault_of : Option Actor → Option Fault
fault_of None = None
fault_of (Some a) = Some (Worn a)

-- the actor that is worn, where that is the fault
abbrev pub worn_in : Option Fault → Option Actor
worn_in None = None
worn_in (Some Memory) = None
worn_in (Some (Worn a)) = Some a
