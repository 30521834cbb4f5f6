-- An actor at its desk, and a crew, on a floor: with its script, its clock and its boxes.
use Rattle.std.specs.Prelude.{ℕ, List}
use Rattle.hx_mail.specs.declared.views.Mailed.{Mailed}
use Rattle.hx_outbox.specs.declared.floors.Floor.{Floor}
use Rattle.hx_driver.specs.declared.desks.Desk.{Desk}
use Rattle.hx_driver.specs.declared.crews.Crew.{Crew}
use Rattle.hx_driver.specs.Desks.{IsBrokenDesk, IsDesk, IsWholeDesk}
use Rattle.hx_driver.specs.Crews.{IsCrew}

abbrev pub IsDeskOn : {R G : Type 0} → Floor R G → ℕ → List Mailed → Desk → Type 0
IsDeskOn floor w rest d = IsDesk floor.script.now floor.clock.now floor.boxes.now w rest d

abbrev pub IsWholeDeskOn : {R G : Type 0} → Floor R G → ℕ → Desk → Type 0
IsWholeDeskOn floor w d = IsWholeDesk floor.script.now floor.clock.now floor.boxes.now w d

abbrev pub IsBrokenDeskOn : {R G : Type 0} → Floor R G → ℕ → Desk → Type 0
IsBrokenDeskOn floor w d = IsBrokenDesk floor.script.now floor.clock.now floor.boxes.now w d

abbrev pub IsCrewOn : {R G : Type 0} → Floor R G → ℕ → Crew → Type 0
IsCrewOn floor w c = IsCrew floor.script.now floor.clock.now floor.boxes.now w c
