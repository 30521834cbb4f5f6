-- Drivers at rest: nothing is kept, all that was put was taken, and no session can begin its next call.
use Rattle.std.specs.Prelude.{ℕ, ◌≡◌, ◌+◌, true, false, List, [], slice_get, None, Some}
use Rattle.std.specs.List.{AllByRecursion}
use Rattle.hx_model.specs.Types.{Script}
use Rattle.hx_types.specs.Words.{IsIn}
use Rattle.hx_law_threads.specs.Cuts.{is_idle_actor}
use Rattle.hx_machine.specs.Machines.{has_ended}
use Rattle.hx_outbox.specs.Places.{place_of}
use Rattle.hx_driver.specs.declared.desks.Desk.{Desk}
use Rattle.hx_driver.specs.Desks.{entries_before}
use Rattle.hx_driver.specs.declared.crews.Crew.{Crew}
use Rattle.hx_law_drivers.specs.Crews.{desks_of}

-- as many envelopes of the driver's name were taken for the actor as the driver put for it
pub record HasHeard (script : Script) (d : Desk) (c : Crew) : Type 0 where
  pub count : ℕ
  pub heard : slice_get d.heard.items (c.out.index + 1) ≡ Some count
  pub sent : slice_get c.out.sent.items (place_of script.space d.actor) ≡ Some count

pub record IsRested (script : Script) (crews : List Crew) (d : Desk) : Type 0 where
  pub kept : d.kept.items ≡ []
  pub idle : is_idle_actor script (entries_before d.part.items) d.actor ≡ false
  pub heard : AllByRecursion (HasHeard script d) crews

pub record AreAtRest (script : Script) (crews : List Crew) : Type 0 where
  pub calm : AllByRecursion (λ (c : Crew). c.fault ≡ None) crews
  pub rested : AllByRecursion (IsRested script crews) (desks_of crews)

abbrev pub HasEnded : Script → Desk → Type 0
HasEnded script d = has_ended script (entries_before d.part.items) d.actor ≡ true

abbrev pub HaveAllEnded : Script → List Crew → Type 0
HaveAllEnded script crews = AllByRecursion (HasEnded script) (desks_of crews)

-- a session has a call left or under way
abbrev pub SomeGoesOn : Script → List Crew → Type 0
SomeGoesOn script crews = (d : Desk) × IsIn d (desks_of crews) × (has_ended script (entries_before d.part.items) d.actor ≡ false)
