-- The puts of a group, without its search.
use Rattle.std.specs.Prelude.{◌≡◌, ◌<◌, true, List, ◌∷◌, ◌++◌, length, map}
use Rattle.hx_model.specs.Types.{Assign, Row, Session, SessionId}
use Rattle.hx_types.specs.Spaces.{AssignsFit}
use Rattle.hx_model.specs.Runs.{is_actor}
use Rattle.hx_model.specs.Schedule.{IsQuiet}
use Rattle.hx_service.specs.declared.errors.ServiceError.{ServiceError}
use Rattle.hx_service.specs.declared.putting.Grouped.{Grouped}
use Rattle.hx_service.specs.declared.receipts.Receipt.{Receipt}
use Rattle.hx_service.specs.Groups.{Counts, FailsAt, HasMade, put_of}
use Rattle.hx_service.specs.Receipts.{IsFree}
use Rattle.hx_service.specs.Services.{Grows, ServiceState, newest}

-- what puts ask: the session is one of the script's, free and at rest, the assignments fit, and there is one
pub record MayPut (old : ServiceState) (u : SessionId) (sets : List Assign) : Type 0 where
  pub session : is_actor old.script (Session u) ≡ true
  pub sets_fit : AssignsFit old.script.space sets
  pub some : 0 < length sets
  pub free : IsFree old.script (newest old) u
  pub quiet : IsQuiet old.script (newest old)

-- the put of each row was made and counted, and more can be made
pub record ArePut (old : ServiceState) (u : SessionId) (sets : List Assign) (rows : List Row) (new : ServiceState) (g : Grouped) : Type 0 where
  pub puts : List Receipt
  pub made : HasMade old u (map (put_of sets) rows) new puts
  pub counts : Counts g puts
  pub may : MayPut new u sets

-- the puts were made up to that of a row
pub record StopPutting (old : ServiceState) (u : SessionId) (sets : List Assign) (rows : List Row) (new : ServiceState) (e : ServiceError) : Type 0 where
  pub before : List Row
  pub row : Row
  pub behind : List Row
  pub rows_are : before ++ row ∷ behind ≡ rows
  pub puts : List Receipt
  pub mid : ServiceState
  pub made : HasMade old u (map (put_of sets) before) mid puts
  pub fails : FailsAt mid u (put_of sets row) new e
  pub grows : Grows mid new
