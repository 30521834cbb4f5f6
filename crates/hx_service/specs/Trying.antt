-- A call that asks nothing of its caller, and why it is refused.
use Rattle.std.specs.Prelude.{◌≡◌, ◌⊎◌, ℕ, true, false, List, Result, Ok, Err}
use Rattle.hx_model.specs.Types.{Op, Session, SessionId}
use Rattle.hx_types.specs.Spaces.{Fits}
use Rattle.hx_model.specs.Runs.{is_actor}
use Rattle.hx_service.specs.declared.errors.ServiceError.TheVariants as an_error
use Rattle.hx_script.specs.LoneCalls.{op_of_line}
use Rattle.hx_service.specs.declared.trying.CallError.{CallError}
use Rattle.hx_service.specs.declared.trying.TextError.{TextError}
use Rattle.hx_service.specs.declared.trying.TextError.TheVariants as an_unread
use Rattle.hx_service.specs.declared.trying.CallError.TheVariants as a_refusal
use Rattle.hx_service.specs.declared.receipts.Receipt.{Receipt}
use Rattle.hx_service.specs.Receipts.{IsFree}
use Rattle.hx_service.specs.Services.{Calls, ServiceState, newest}

-- what a call asks: the session is one of the script's and free, and the operation fits
pub record MayCall (old : ServiceState) (u : SessionId) (op : Op) : Type 0 where
  pub session : is_actor old.script (Session u) ≡ true
  pub fits : Fits old.script.space op
  pub free : IsFree old.script (newest old) u

-- the operation doesn't fit
pub record IsMisfit (old : ServiceState) (u : SessionId) (op : Op) : Type 0 where
  pub session : is_actor old.script (Session u) ≡ true
  pub misfit : ¬ Fits old.script.space op

-- a call of the session hasn't ended
pub record IsBusy (old : ServiceState) (u : SessionId) (op : Op) : Type 0 where
  pub session : is_actor old.script (Session u) ≡ true
  pub fits : Fits old.script.space op
  pub busy : ¬ IsFree old.script (newest old) u

-- what is left, by the answer: what a call leaves, or nothing changed and the first reason that holds
abbrev pub Tries : ServiceState → SessionId → Op → ServiceState → Result Receipt CallError → Type 0
Tries old u op new (Ok r) = MayCall old u op × Calls old u op new (Ok r)
Tries old u op new (Err a_refusal.NoSession) = (is_actor old.script (Session u) ≡ false) × (new ≡ old)
Tries old u op new (Err a_refusal.Misfit) = IsMisfit old u op × (new ≡ old)
Tries old u op new (Err a_refusal.Busy) = IsBusy old u op × (new ≡ old)
Tries old u op new (Err a_refusal.Memory) = MayCall old u op × Calls old u op new (Err an_error.Memory)
Tries old u op new (Err a_refusal.Full) = MayCall old u op × Calls old u op new (Err an_error.Full)
Tries old u op new (Err (a_refusal.Worn a)) = MayCall old u op × Calls old u op new (Err (an_error.Worn a))
Tries old u op new (Err (a_refusal.Unanswered n)) = MayCall old u op × Calls old u op new (Err (an_error.Unanswered n))

-- what is left, by the answer to a line: what the call that it says leaves, or nothing changed
abbrev pub Asks : ServiceState → SessionId → List ℕ → ServiceState → Result Receipt TextError → Type 0
Asks old u line new (Ok r) = (op : Op) × (op_of_line old.script.space line ≡ Ok op) × Tries old u op new (Ok r)
Asks old u line new (Err (an_unread.Unread reason)) = (op_of_line old.script.space line ≡ Err reason) × (new ≡ old)
Asks old u line new (Err (an_unread.Refused e)) =
    ((op : Op) × (op_of_line old.script.space line ≡ Ok op) × Tries old u op new (Err e)) ⊎ ((e ≡ a_refusal.Memory) × (new ≡ old))
