-- What a replay of a script comes to that was stopped.
use Rattle.std.proofs.Common.{◌≡◌, ◌∙◌, inl, inr, refl, ℕ, List, [], ◌∷◌, map, reverse, ap, subst, Bool}
use Rattle.std.specs.Prelude.{IfOk, Result, Ok, Err}
use Rattle.hx_model.specs.Types.{Entry, Memory, Script, Step}
use Rattle.hx_model.specs.Runs.{IsRun}
use Rattle.hx_model.specs.Schedule.{scheduled, stepped}
use Rattle.hx_world.specs.Worlds.{DrainFails, HasFewEntries, IsPartOf}
use Rattle.hx_world.specs.declared.ends.DrainError.{DrainError}
use Rattle.hx_world.specs.declared.ends.DrainError.TheVariants as a_drain_error
use Rattle.hx_replay.specs.Runs.{IsOfOne, ReplayEnds}
use Rattle.hx_replay.specs.Steps.{AreTaken, Stops, ended_by, stopped_drain}
use Rattle.hx_replay.specs.declared.outcomes.Ended.{Ended}
use Rattle.hx_replay.specs.declared.steps.Stopped.{Stopped}
use Rattle.hx_replay.specs.declared.steps.Stopped.TheVariants as a_stop

of_one : (holds : List Entry → Type 0) (trace : List Entry) → holds trace → IsOfOne holds (trace ∷ [])
of_one holds trace h = record { trace = trace; traces_are = refl; held = h }

-- what a call gives that hands on, unless memory runs out, what it was given
pub handed_on : (given result : Result Ended Memory) (holds : Ended → Type 0) → IfOk result (λ ended. given ≡ Ok ended) → IfOk given holds → IfOk result holds
handed_on given (Ok ended) holds same h = subst (λ (r : Result Ended Memory). IfOk r holds) same h
handed_on given (Err e) holds same h = tt

-- why the steps stopped
pub alone_stops : (with_trace : Bool) (script : Script) (trace : List Entry) (stopped : Stopped)
    → IsRun script (reverse trace) → HasFewEntries (reverse trace) → Stops script trace stopped
    → IfOk (ended_by stopped (trace ∷ [])) (ReplayEnds with_trace script)
alone_stops with_trace script trace a_stop.Memory run few stops = tt
alone_stops with_trace script trace (a_stop.Refused line) run few stops = of_one _ trace (record { run = run; refused = stops })
alone_stops with_trace script trace (a_stop.Worn a) run few stops = of_one _ trace (record { run = run; few = few; ends = inl stops })

-- why the schedule stopped
pub alone_drained : (with_trace : Bool) (script : Script) (n : ℕ) (before : List Entry) (trace : List Entry) (error : DrainError)
    → AreTaken script → before ≡ stepped script [] (map (λ (s : ℕ × Step). s.1) script.steps)
    → DrainFails script n before (reverse trace) error → IsPartOf script n before (reverse trace)
    → IsRun script (reverse trace) → HasFewEntries (reverse trace)
    → IfOk (ended_by (stopped_drain error) (trace ∷ [])) (ReplayEnds with_trace script)
alone_drained with_trace script n before trace a_drain_error.Memory taken from fails part run few = tt
alone_drained with_trace script n before trace (a_drain_error.Worn a) taken from fails part run few =
    of_one _ trace (record {
      run = run;
      few = few;
      ends = inr (record {
        taken = taken;
        entries = part.0;
        trace_is = part.2 ∙ ap (λ (t : List Entry). scheduled script t part.0) from;
        worn_out = fails.cause;
      });
    })
