-- A drained world holds the run of its script that its steps and the schedule give.
use Rattle.std.proofs.Common.{◌≡◌, ◌≤◌, ◌<◌, length, arith, ℕ, List, [], sym, subst, ◌∙◌, ap, reverse, None, map}
use Rattle.std.proofs.lemmas.List.{length-reverse}
use Rattle.hx_model.specs.Types.{Entry, Script, Step}
use Rattle.hx_model.specs.Runs.{IsRun}
use Rattle.hx_model.specs.Schedule.{next_entry, scheduled, stepped}
use Rattle.hx_world.specs.Worlds.{Drains, HasFewEntries, WorldState, most_entries}
use Rattle.hx_world.specs.declared.ends.Drained.{Drained}
use Rattle.hx_world.specs.declared.ends.Drained.TheVariants.{Quiet, Spent}
use Rattle.hx_replay.specs.Runs.{IsWholeRun}
use Rattle.hx_replay.specs.Steps.{AreTaken}

-- the trace after all steps of the script
abbrev pub after_steps : Script → List Entry
after_steps script = stepped script [] (map (λ (s : ℕ × Step). s.1) script.steps)

-- a world that was drained from its script's steps on until it was quiet
pub whole_run :
    (script : Script) (before after : WorldState) (trace : List Entry) (n : ℕ)
    → AreTaken script
    → before.script ≡ script
    → reverse before.trace ≡ after_steps script
    → Drains before.script n (reverse before.trace) (reverse after.trace) Quiet
    → trace ≡ after.trace
    → after.script ≡ before.script
    → IsRun after.script (reverse trace)
    → HasFewEntries (reverse trace)
    → IsWholeRun script trace
whole_run script before after trace n taken script_is from drains is same run few =
    let here : reverse trace ≡ reverse after.trace = ap (λ (t : List Entry). reverse t) is in
    let made : reverse trace ≡ scheduled script (after_steps script) n =
    here ∙ drains.trace ∙ ap (λ (s : Script). scheduled s (reverse before.trace) n) script_is ∙ ap (λ (t : List Entry). scheduled script t n) from in
    let quiet : next_entry script (reverse trace) ≡ None =
    subst (λ (t : List Entry). next_entry script t ≡ None) (sym here)
    (subst (λ (s : Script). next_entry s (reverse after.trace) ≡ None) script_is drains.ends) in
    record {
      run = subst (λ (s : Script). IsRun s (reverse trace)) (same ∙ script_is) run;
      taken = taken;
      scheduled = record { entries = n; trace_is = made; quiet = quiet };
      few = few;
    }

-- a world never makes so many entries
pub never_spent :
    (script : Script) (n : ℕ) (old : List Entry) (trace : List Entry) (drained : Drained)
    → Drains script n old (reverse trace) drained
    → drained ≡ Spent
    → length trace ≤ most_entries
    → most_entries < n
    → ⊥
never_spent script n old trace drained drains spent few many =
    let ends : Drains script n old (reverse trace) Spent = subst (λ (d : Drained). Drains script n old (reverse trace) d) spent drains in
    omega (arith, ends.ends.made, length-reverse trace)

-- a drain that ended quietly
pub quietly :
    (script : Script) (n : ℕ) (old new : List Entry) (drained : Drained)
    → Drains script n old new drained
    → drained ≡ Quiet
    → Drains script n old new Quiet
quietly script n old new drained drains quiet = subst (λ (d : Drained). Drains script n old new d) quiet drains
