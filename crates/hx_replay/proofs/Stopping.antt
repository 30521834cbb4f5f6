-- What a replay of a script comes to that was stopped, by the world that was left.
use Rattle.std.proofs.Common.{◌≡◌, ◌∙◌, ℕ, List, [], ◌∷◌, reverse, sym, ap, subst, Bool}
use Rattle.std.specs.Prelude.{IfOk, Result, Ok}
use Rattle.hx_model.specs.Types.{Entry, Memory, Script}
use Rattle.hx_model.specs.Runs.{IsRun}
use Rattle.hx_world.specs.Worlds.{DrainFails, HasFewEntries, IsPartOf, WorldState}
use Rattle.hx_world.specs.declared.ends.DrainError.{DrainError}
use Rattle.hx_replay.specs.Runs.{ReplayEnds}
use Rattle.hx_replay.specs.Steps.{AreTaken, Stops, ended_by, stopped_drain}
use Rattle.hx_replay.specs.declared.outcomes.Ended.{Ended}
use Rattle.hx_replay.specs.declared.steps.Stopped.{Stopped}
use Rattle.hx_replay.proofs.Ending.{alone_drained, alone_stops, handed_on}
use Rattle.hx_replay.proofs.Scheduling.{after_steps}

module _ (with_trace : Bool) (script : Script) (before after : WorldState) (trace : List Entry) (stopped : Stopped) (result : Result Ended Memory)
    (handed : IfOk result (λ ended. ended_by stopped (trace ∷ []) ≡ Ok ended)) (same : after.script ≡ before.script) (is : trace ≡ after.trace)
    (run : IsRun after.script (reverse trace)) (few : HasFewEntries (reverse trace)) where
  own_run : before.script ≡ script → IsRun script (reverse trace)
  own_run of_script = subst (λ (s : Script). IsRun s (reverse trace)) (same ∙ of_script) run

  -- a step was not taken
  pub stopped_at_step : before ≡ record { script = script; trace = [] } → Stops script after.trace stopped → IfOk result (ReplayEnds with_trace script)
  stopped_at_step started stops =
      handed_on (ended_by stopped (trace ∷ [])) result (ReplayEnds with_trace script) handed
      (alone_stops with_trace script trace stopped (own_run (ap (λ (w : WorldState). w.script) started)) few
      (subst (λ (t : List Entry). Stops script t stopped) (sym is) stops))

  -- the schedule stopped
  pub stopped_after_steps : (n : ℕ) (error : DrainError) → before.script ≡ script → AreTaken script
      → reverse before.trace ≡ after_steps script → stopped ≡ stopped_drain error
      → DrainFails before.script n (reverse before.trace) (reverse after.trace) error → IsPartOf before.script n (reverse before.trace) (reverse after.trace)
      → IfOk result (ReplayEnds with_trace script)
  stopped_after_steps n error of_script taken from by fails part =
      let here : reverse trace ≡ reverse after.trace = ap (λ (t : List Entry). reverse t) is in
      let failed : DrainFails script n (reverse before.trace) (reverse trace) error =
      subst (λ (s : Script). DrainFails s n (reverse before.trace) (reverse trace) error) of_script
      (subst (λ (t : List Entry). DrainFails before.script n (reverse before.trace) t error) (sym here) fails) in
      let made : IsPartOf script n (reverse before.trace) (reverse trace) =
      subst (λ (s : Script). IsPartOf s n (reverse before.trace) (reverse trace)) of_script
      (subst (λ (t : List Entry). IsPartOf before.script n (reverse before.trace) t) (sym here) part) in
      handed_on (ended_by stopped (trace ∷ [])) result (ReplayEnds with_trace script) handed
      (subst (λ (s : Stopped). IfOk (ended_by s (trace ∷ [])) (ReplayEnds with_trace script)) (sym by)
      (alone_drained with_trace script n (reverse before.trace) trace error taken from failed made (own_run of_script) few))
