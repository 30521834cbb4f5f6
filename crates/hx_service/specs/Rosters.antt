-- A service that follows a plan.
use Rattle.std.specs.Prelude.{◌≡◌, ◌⊎◌, Some, None, Option, Result, Ok, Err}
use Rattle.hx_model.specs.Types.{Op, Script, SessionId}
use Rattle.hx_types.specs.Fitting.{IsScript, call_of, calls_of}
use Rattle.hx_law_growing.specs.Growing.{GrowsTo}
use Rattle.hx_service.specs.declared.errors.ServiceError.{ServiceError}
use Rattle.hx_service.specs.declared.errors.ServiceError.TheVariants as an_error
use Rattle.hx_service.specs.declared.receipts.Receipt.{Receipt}
use Rattle.hx_service.specs.Receipts.{IsFree, next_caller}
use Rattle.hx_service.specs.Services.{Calls, ServiceState, newest}

-- the plan is a script, and what was submitted of it grows to it
pub record Follows (plan : Script) (script : Script) : Type 0 where
  pub valid : IsScript plan
  pub grows : GrowsTo script plan

-- no call of the session can be begun: one is open, or none is left
abbrev pub HasNone : Script → ServiceState → SessionId → Type 0
HasNone plan old u = (¬ IsFree old.script (newest old) u) ⊎ (calls_of old.script u ≡ calls_of plan u)

-- the session's next call by the plan
pub record HasNext (plan : Script) (old : ServiceState) (u : SessionId) (op : Op) : Type 0 where
  pub free : IsFree old.script (newest old) u
  pub planned : call_of plan (next_caller old.script u) ≡ Some op

-- the next call was made, or there was no memory for a copy of it
abbrev pub Makes : Script → ServiceState → SessionId → ServiceState → Result Receipt ServiceError → Type 0
Makes plan old u new result = (op : Op) × HasNext plan old u op × (Calls old u op new result ⊎ ((new ≡ old) × (result ≡ Err an_error.Memory)))

-- what is left after the next call was asked for, by the answer
abbrev pub Nexts : Script → ServiceState → SessionId → ServiceState → Result (Option Receipt) ServiceError → Type 0
Nexts plan old u new (Ok None) = HasNone plan old u × (new ≡ old)
Nexts plan old u new (Ok (Some r)) = Makes plan old u new (Ok r)
Nexts plan old u new (Err e) = Makes plan old u new (Err e)
