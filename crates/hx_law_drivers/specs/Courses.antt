-- The course of a run: slices, and at each cut one retry of every driver.
use Rattle.std.specs.Prelude.{ℕ, ◌≡◌, List, [], ◌∷◌, None}
use Rattle.std.specs.List.{AllByRecursion}
use Rattle.atomic_table.specs.Seated.{TableId}
use Rattle.hx_model.specs.Types.{Script}
use Rattle.hx_mail.specs.Boxes.{Boxed}
use Rattle.hx_outbox.specs.Zipped.{Both}
use Rattle.hx_driver.specs.declared.crews.Crew.{Crew}
use Rattle.hx_driver.specs.Crews.{IsCrew}
use Rattle.hx_driver.specs.Desks.{HasRetried}
use Rattle.hx_driver.specs.Slices.{HasFaultSince, HaveNoRetry, IsLaterCrew, MayHaveRetried}
use Rattle.hx_law_drivers.specs.Rests.{AreAtRest, SomeGoesOn}

-- from one moment to a later one no actor retried
pub record IsSliced (script : Script) (c c' : Crew) : Type 0 where
  pub later : IsLaterCrew c c'
  pub retries : HaveNoRetry script c c'

abbrev pub AreSliced : Script → List Crew → List Crew → Type 0
AreSliced script crews crews' = Both (IsSliced script) crews crews'

-- all actors that waited retried, crew by crew; where a fault came, some of them, and where one was found worn, it made nothing and has its retry to make
pub record AreRetried (script : Script) (cut retried : List Crew) : Type 0 where
  pub later : Both IsLaterCrew cut retried
  pub calm : AllByRecursion (λ (c : Crew). c.fault ≡ None) retried → Both (λ (c c' : Crew). Both (HasRetried script) c.desks.items c'.desks.items) cut retried
  pub some : Both (λ (c c' : Crew). Both (MayHaveRetried script) c.desks.items c'.desks.items) cut retried
  pub fault : Both (λ (c c' : Crew). c.fault ≡ None → HasFaultSince script c.desks.items c') cut retried

-- at a cut the drivers are at rest, and a session has a call under way
pub record IsCutAt (script : Script) (clock : TableId) (boxes : List Boxed) (w : ℕ) (crews : List Crew) : Type 0 where
  pub crews_are : AllByRecursion (IsCrew script clock boxes w) crews
  pub rest : AreAtRest script crews
  pub goes_on : SomeGoesOn script crews

-- from the start to now: the moments at which all drivers retried, the latest first, each followed by that retry and by slices
abbrev pub IsCourse : Script → TableId → List Boxed → ℕ → List Crew → List (List Crew) → List Crew → Type 0
IsCourse script clock boxes w start [] now = AreSliced script start now
IsCourse script clock boxes w start (cut ∷ older) now =
    IsCutAt script clock boxes w cut
    × IsCourse script clock boxes w start older cut
    × ((retried : List Crew) × AreRetried script cut retried × AreSliced script retried now)
