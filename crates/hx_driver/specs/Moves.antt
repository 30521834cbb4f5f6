-- What one move of an actor leaves: a turn, or a retry.
use Rattle.std.specs.Prelude.{ℕ, ◌≡◌, ◌+◌, true, false, List, None}
use Rattle.atomic_table.specs.Seated.{TableId}
use Rattle.hx_types.specs.declared.traces.Script.{Script}
use Rattle.hx_mail.specs.Boxes.{Boxed}
use Rattle.hx_fate.specs.declared.fates.FateState.{FateState}
use Rattle.hx_outbox.specs.declared.floors.Floor.{Floor}
use Rattle.hx_driver.specs.declared.desks.Desk.{Desk}
use Rattle.hx_driver.specs.declared.faults.Fault.{Fault}
use Rattle.hx_driver.specs.Desks.{HasNoRetry, HasRetried}
use Rattle.hx_driver.specs.Turns.{IsFaultOf}
use Rattle.hx_driver.specs.declared.crews.Crew.{Crew}
use Rattle.hx_driver.specs.declared.moves.Move.{Move}
use Rattle.hx_driver.specs.declared.moves.Move.TheVariants.{Turn, Retry}
use Rattle.hx_driver.specs.Crews.{IsCrew, IsPosted}
use Rattle.hx_driver.specs.Slices.{DoneTo, HasFaultSince, HaveNoRetry, IsLaterCrew, MayHaveRetried}

-- the crew goes on: it is a crew still, later, and what it posted meanwhile was offered
pub record GoesOn (script : Script) (clock : TableId) (boxes : List Boxed) (c c' : Crew) (f f' : FateState) : Type 0 where
  pub crew : (w : ℕ) → IsCrew script clock boxes w c → IsCrew script clock boxes w c'
  pub later : IsLaterCrew c c'
  pub posted : IsPosted c c' f f'

abbrev pub GoesOnAt : {R G : Type 0} → Floor R G → Crew → Crew → FateState → FateState → Type 0
GoesOnAt floor c c' f f' = GoesOn floor.script.now floor.clock.now floor.boxes.now c c' f f'

-- an actor did what it was moved to
abbrev pub HasMoved : Script → Move → Desk → Desk → Type 0
HasMoved script Turn d d' = HasNoRetry d d'
HasMoved script Retry d d' = HasRetried script d d'

-- it met this fault: by then it made no retry where it had a turn, and nothing where it was to retry
abbrev pub HasFailed : Script → Move → Desk → Desk → Fault → Type 0
HasFailed script Turn d d' fault = HasNoRetry d d' × IsFaultOf script false d' fault
HasFailed script Retry d d' fault = (d'.part.items ≡ d.part.items) × IsFaultOf script true d' fault

-- the retries of the actors before this place, and that of the actor there
pub record HasRetriedAt (script : Script) (at : ℕ) (c c' : Crew) : Type 0 where
  pub calm : c'.fault ≡ None → (c.fault ≡ None) × ((before : List Desk)
      → DoneTo (HasRetried script) at before c.desks.items → DoneTo (HasRetried script) (at + 1) before c'.desks.items)
  pub some : (before : List Desk) → DoneTo (MayHaveRetried script) at before c.desks.items → DoneTo (MayHaveRetried script) (at + 1) before c'.desks.items
  pub fault : (before : List Desk) → DoneTo (MayHaveRetried script) at before c.desks.items → HasFaultSince script before c → HasFaultSince script before c'

-- the actor at this place was moved, unless a fault had been met
abbrev pub HasMovedAt : Script → Move → ℕ → Crew → Crew → Type 0
HasMovedAt script Turn at c c' = HaveNoRetry script c c'
HasMovedAt script Retry at c c' = HasRetriedAt script at c c'
