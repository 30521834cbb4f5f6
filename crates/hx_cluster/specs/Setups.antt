-- What is new in a setup: with its script, its clock, its boxes and its number of drivers.
use Rattle.std.specs.Prelude.{ℕ, ◌≡◌, List, [], length}
use Rattle.hx_clock.specs.Seats.{Seated}
use Rattle.hx_mail.specs.Boxes.{Ported}
use Rattle.hx_driver.specs.declared.desks.Desk.{Desk}
use Rattle.hx_driver.specs.declared.crews.Crew.{Crew}
use Rattle.hx_driver.specs.Inboxes.{HasInPort, ins_of}
use Rattle.hx_cluster.specs.declared.setups.Setup.{Setup}
use Rattle.hx_cluster.specs.Clusters.{AreNewCrews, IsNewSeat}
use Rattle.hx_cluster.specs.Dealt.{AreNewDesks, IsNewDesk}
use Rattle.hx_cluster.specs.Everyone.{actors_of}

abbrev pub IsNewSeatIn : Setup → ℕ → Seated → Type 0
IsNewSeatIn setup place seat = IsNewSeat setup.clock.now place seat

-- the first port of the box of this place, of which nothing was taken
abbrev pub IsNewInboxIn : Setup → ℕ → Ported → Type 0
IsNewInboxIn setup place inbox = HasInPort setup.workers setup.boxes.now place inbox × (ins_of inbox ≡ [])

abbrev pub IsNewDeskIn : Setup → Desk → Type 0
IsNewDeskIn setup d = IsNewDesk setup.script.now setup.clock.now setup.boxes.now setup.workers d

-- the desks of those of the first k actors that belong to driver i
abbrev pub AreNewDesksIn : Setup → ℕ → ℕ → List Desk → Type 0
AreNewDesksIn setup k i desks = AreNewDesks setup.script.now setup.clock.now setup.boxes.now setup.workers k i desks

-- the desks of all actors that belong to driver i
abbrev pub AreAllDesksIn : Setup → ℕ → List Desk → Type 0
AreAllDesksIn setup i desks = AreNewDesksIn setup (length (actors_of setup.script.now)) i desks

abbrev pub AreNewCrewsIn : Setup → List Crew → Type 0
AreNewCrewsIn setup crews = AreNewCrews setup.script.now setup.clock.now setup.boxes.now setup.workers crews
