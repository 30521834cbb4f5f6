-- The steps of a script, taken in order up to the first that can't be taken.
use Rattle.std.specs.Prelude.{◌≡◌, ℕ, List, [], ◌∷◌, reverse, ⊤, Option, None, Some, Result, Ok, Err}
use Rattle.std.specs.Option.{option_map}
use Rattle.std.specs.List.{All}
use Rattle.hx_world.specs.Worlds.{IsStepOf}
use Rattle.hx_world.specs.declared.ends.DrainError.{DrainError}
use Rattle.hx_world.specs.declared.ends.DrainError.TheVariants as a_drain_error
use Rattle.hx_world.specs.declared.ends.StepError.{StepError}
use Rattle.hx_world.specs.declared.ends.StepError.TheVariants as an_error
use Rattle.hx_model.specs.Types.{Actor, Entry, Memory, Script, Step}
use Rattle.hx_types.specs.Words.{when_some}
use Rattle.hx_replay.specs.declared.outcomes.Ended.{Ended}
use Rattle.hx_replay.specs.declared.outcomes.Ended.TheVariants as an_end
use Rattle.hx_replay.specs.declared.steps.Stopped.{Stopped}
use Rattle.hx_replay.specs.declared.steps.Stopped.TheVariants as a_stop
use Rattle.hx_model.specs.Schedule.{StepFault, Unsent, Halted, NotServer, Idle, Worn, entry_by, fault_of, step_input, with_entry}

-- the step that can't be taken: its line, why, and the trace before it
pub record Stop : Type 0 where
  pub line : ℕ
  pub fault : StepFault
  pub trace : List Entry

-- the trace after a step
abbrev pub after_step : Script → List Entry → Step → List Entry
after_step script trace s = with_entry trace (option_map (entry_by script trace) (step_input trace s))

-- the first of the steps that can't be taken
abbrev pub stop_of : Script → List Entry → List (ℕ × Step) → Option Stop
stop_of script trace [] = None
stop_of script trace (s ∷ rest) =
    when_some (fault_of script trace s.1) (stop_of script (after_step script trace s.1) rest)
    (λ (fault : StepFault). Some (record { line = s.0; fault = fault; trace = trace }))

-- each step of the script is a delivery, or of one of its actors
abbrev pub HasSteps : Script → Type 0
HasSteps script = All (λ (s : ℕ × Step). IsStepOf script s.1) script.steps

-- each step of the script can be taken
abbrev pub AreTaken : Script → Type 0
AreTaken script = stop_of script [] script.steps ≡ None

-- the step itself is at fault, and not a worn actor
abbrev pub IsRefusal : StepFault → Type 0
IsRefusal Unsent = ⊤
IsRefusal Halted = ⊤
IsRefusal NotServer = ⊤
IsRefusal Idle = ⊤
IsRefusal (Worn a) = ⊥

-- the step on that line is the first that can't be taken, and is refused after this trace
pub record IsRefusedAt (script : Script) (line : ℕ) (trace : List Entry) : Type 0 where
  pub fault : StepFault
  pub stops : stop_of script [] script.steps ≡ Some (record { line = line; fault = fault; trace = reverse trace })
  pub refused : IsRefusal fault

-- the steps end where one asks for a further entry of this actor, which has made all that it may make
pub record IsWornAtStep (script : Script) (trace : List Entry) (a : Actor) : Type 0 where
  pub line : ℕ
  pub stops : stop_of script [] script.steps ≡ Some (record { line = line; fault = Worn a; trace = reverse trace })

-- why the steps stop where the one on this line failed so
abbrev pub stopped_by : StepError → ℕ → Stopped
stopped_by an_error.Memory line = a_stop.Memory
stopped_by an_error.Unsent line = a_stop.Refused line
stopped_by an_error.Halted line = a_stop.Refused line
stopped_by an_error.NotServer line = a_stop.Refused line
stopped_by an_error.Idle line = a_stop.Refused line
stopped_by (an_error.Worn a) line = a_stop.Worn a

-- why the schedule after the steps stops where a drain failed so
abbrev pub stopped_drain : DrainError → Stopped
stopped_drain a_drain_error.Memory = a_stop.Memory
stopped_drain (a_drain_error.Worn a) = a_stop.Worn a

-- what a replay comes to that was stopped so after these traces
abbrev pub ended_by : Stopped → List (List Entry) → Result Ended Memory
ended_by a_stop.Memory traces = Err (record {})
ended_by (a_stop.Refused line) traces = Ok (an_end.Refused line traces)
ended_by (a_stop.Worn a) traces = Ok (an_end.Worn a traces)

-- why one step wasn't taken
abbrev pub StopsAt : Script → List Entry → ℕ → Step → Stopped → Type 0
StopsAt script trace line step a_stop.Memory = ⊤
StopsAt script trace line step (a_stop.Refused at) = (at ≡ line) × ((fault : StepFault) × (fault_of script trace step ≡ Some fault) × IsRefusal fault)
StopsAt script trace line step (a_stop.Worn a) = fault_of script trace step ≡ Some (Worn a)

-- why the steps of a script weren't all taken; the trace stands oldest first
abbrev pub Stops : Script → List Entry → Stopped → Type 0
Stops script trace a_stop.Memory = ⊤
Stops script trace (a_stop.Refused line) = IsRefusedAt script line trace
Stops script trace (a_stop.Worn a) = IsWornAtStep script trace a
