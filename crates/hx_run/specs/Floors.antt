-- The crews of drivers on a floor: with its script, its clock and its boxes.
use Rattle.std.specs.Prelude.{ℕ, List}
use Rattle.std.specs.List.{AllByRecursion}
use Rattle.hx_outbox.specs.declared.floors.Floor.{Floor}
use Rattle.hx_driver.specs.declared.crews.Crew.{Crew}
use Rattle.hx_driver.specs.Floors.{IsCrewOn}
use Rattle.hx_run.specs.Rounds.{StayCrews, StaysCrew}

abbrev pub AreCrewsOn : {R G : Type 0} → Floor R G → ℕ → List Crew → Type 0
AreCrewsOn floor w crews = AllByRecursion (IsCrewOn floor w) crews

abbrev pub StaysCrewOn : {R G : Type 0} → Floor R G → Crew → Crew → Type 0
StaysCrewOn floor c c' = StaysCrew floor.script.now floor.clock.now floor.boxes.now c c'

abbrev pub StayCrewsOn : {R G : Type 0} → Floor R G → List Crew → List Crew → Type 0
StayCrewsOn floor crews crews' = StayCrews floor.script.now floor.clock.now floor.boxes.now crews crews'
