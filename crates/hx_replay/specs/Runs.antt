-- What a replay of a script comes to: one run of it.
use Rattle.std.specs.Prelude.{◌≡◌, ◌⊎◌, Bool, ℕ, List, [], ◌∷◌, map, reverse, Some}
use Rattle.hx_model.specs.Types.{Actor, Caller, Entry, Script, Step}
use Rattle.hx_model.specs.Linear.{IsLinear}
use Rattle.hx_model.specs.Runs.{IsRun}
use Rattle.hx_model.specs.Causes.{HasCauses}
use Rattle.hx_model.specs.Schedule.{IsScheduled, scheduled, stepped}
use Rattle.hx_model.specs.Searching.{FinishedSearch, IsSearchTrue, IsSearchWhole, search_of}
use Rattle.hx_report.specs.Reporting.{IsReport}
use Rattle.hx_law_epochs.specs.Epochs.{LosesReplicas}
use Rattle.hx_law_order.specs.Order.{HasOneOrder}
use Rattle.hx_world.specs.Worlds.{HasFewEntries, IsWornOut}
use Rattle.hx_replay.specs.declared.outcomes.Ended.{Ended}
use Rattle.hx_replay.specs.declared.outcomes.Ended.TheVariants.{Whole, Refused, Worn}
use Rattle.hx_replay.specs.Plans.{plans_text}
use Rattle.hx_replay.specs.Steps.{AreTaken, IsRefusedAt, IsWornAtStep}

-- there is one trace, and this holds of it
pub record IsOfOne (holds : List Entry → Type 0) (traces : List (List Entry)) : Type 0 where
  pub trace : List Entry
  pub traces_are : traces ≡ trace ∷ []
  pub held : holds trace

-- the run that the script's steps and then the schedule give, until there is nothing left to do
pub record IsWholeRun (script : Script) (trace : List Entry) : Type 0 where
  pub run : IsRun script (reverse trace)
  pub taken : AreTaken script
  pub scheduled : IsScheduled script (reverse trace)
  pub few : HasFewEntries (reverse trace)

-- the steps were taken, and the schedule comes to an entry of this actor, which has made 1,048,576 entries
pub record IsWornAfterSteps (script : Script) (trace : List Entry) (a : Actor) : Type 0 where
  pub taken : AreTaken script
  pub entries : ℕ
  pub trace_is : reverse trace ≡ scheduled script (stepped script [] (map (λ (s : ℕ × Step). s.1) script.steps)) entries
  pub worn_out : IsWornOut script (reverse trace) a

-- the run that the steps and the schedule of the script begin with, up to where the next entry is one of this actor, which has made 1,048,576 entries
pub record IsWornRun (script : Script) (trace : List Entry) (a : Actor) : Type 0 where
  pub run : IsRun script (reverse trace)
  pub few : HasFewEntries (reverse trace)
  pub ends : IsWornAtStep script trace a ⊎ IsWornAfterSteps script trace a

-- the finished search holds every match that was committed before it began and not changed
-- meanwhile, and only versions that were committed or under way during it
pub record IsSearchWell (script : Script) (trace : List Entry) (s : FinishedSearch) : Type 0 where
  pub true_rows : IsSearchTrue script trace s
  pub whole : (key : List ℕ) → IsSearchWhole script trace key s

-- each key's history is linear, all of them have one order, each finished search is whole and true,
-- every answer has its cause, and a lost region has lost its replicas
pub record IsLawful (script : Script) (trace : List Entry) : Type 0 where
  pub linear : (key : List ℕ) → IsLinear script (reverse trace) key
  pub one_order : HasOneOrder script (reverse trace)
  pub searches : (c : Caller) (s : FinishedSearch) → search_of script (reverse trace) c ≡ Some s → IsSearchWell script (reverse trace) s
  pub causes : HasCauses script (reverse trace)
  pub lost : LosesReplicas script (reverse trace)

-- the trace is the run of the script that its steps and the schedule give, each key's history is
-- linear, all of them have one order, each finished search is whole and true, every answer has its
-- cause, a lost region has lost its replicas, and the report tells of it
pub record IsWholeReplay (with_trace : Bool) (script : Script) (trace : List Entry) (report : List ℕ) : Type 0 where
  pub run : IsRun script (reverse trace)
  pub taken : AreTaken script
  pub scheduled : IsScheduled script (reverse trace)
  pub few : HasFewEntries (reverse trace)
  pub linear : (key : List ℕ) → IsLinear script (reverse trace) key
  pub one_order : HasOneOrder script (reverse trace)
  pub searches : (c : Caller) (s : FinishedSearch) → search_of script (reverse trace) c ≡ Some s → IsSearchWell script (reverse trace) s
  pub causes : HasCauses script (reverse trace)
  pub lost : LosesReplicas script (reverse trace)
  pub report_is : IsReport script (reverse trace) [] report with_trace

-- the plans of the script's searches, and an empty trace
pub record IsPlanned (script : Script) (traces : List (List Entry)) (plans : List ℕ) : Type 0 where
  pub no_entries : traces ≡ [] ∷ []
  pub plans_are : plans ≡ plans_text script

-- a run of the script that ends where the step on that line is refused
pub record IsCutShort (script : Script) (line : ℕ) (trace : List Entry) : Type 0 where
  pub run : IsRun script (reverse trace)
  pub refused : IsRefusedAt script line trace

-- what a replay makes of a script
abbrev pub ReplayEnds : Bool → Script → Ended → Type 0
ReplayEnds with_trace script (Whole answered) = IsOfOne (λ trace. IsWholeReplay with_trace script trace answered.bytes.items) answered.traces
ReplayEnds with_trace script (Refused line traces) = IsOfOne (IsCutShort script line) traces
ReplayEnds with_trace script (Worn a traces) = IsOfOne (λ trace. IsWornRun script trace a) traces
