-- A trace that is made of steps is a run, where each step may be taken when it comes: a delivery of what was posted, or a tick that makes something.
use Rattle.std.proofs.Common.{◌≡◌, Bool, true, false, not, ◌&&◌, List, [], ◌∷◌, Option, Some, None, refl}
use Rattle.std.specs.Option.{option_map}
use Rattle.std.proofs.lemmas.Bool.{and_parts, false≢true}
use Rattle.hx_model.specs.Types.{Entry, Post, PostId, Script, Step, Tick}
use Rattle.hx_types.specs.declared.traces.Step.TheVariants as a_step
use Rattle.hx_types.specs.Words.{when_some}
use Rattle.hx_model.specs.Runs.{IsRun, MayTake, does_something, has_halted, is_actor, made_of, post_named}
use Rattle.hx_model.specs.Schedule.{Next, delivery_of, entry_by, step_input, stepped, with_entry}

-- the actor is the script's, runs, and makes something of the input
abbrev acts : Script → List Entry → Next → Bool
acts script older next =
    is_actor script next.actor && (not (has_halted script older next.actor) && does_something next.input (made_of script older next.actor next.input))

-- the step, other than a halt, can be taken
abbrev goes_on : Script → List Entry → Step → Bool
goes_on script older (a_step.Halt a) = false
goes_on script older step = when_some (step_input older step) false (acts script older)

-- each of the steps can, after those before it
abbrev pub go_on : Script → List Entry → List Step → Bool
go_on script older [] = true
go_on script older (step ∷ rest) =
    goes_on script older step && go_on script (with_entry older (option_map (entry_by script older) (step_input older step))) rest

runs : (b : Bool) → not b ≡ true → b ≡ false
runs true e = absurd (false≢true e)
runs false e = refl

-- the entry of an input that may be taken
entered : (script : Script) (older : List Entry) → IsRun script older → (next : Next)
    → MayTake older next.actor next.input → acts script older next ≡ true → IsRun script (entry_by script older next ∷ older)
entered script older run next may e =
    let a = and_parts (is_actor script next.actor) _ e in
    let b = and_parts (not (has_halted script older next.actor)) (does_something next.input (made_of script older next.actor next.input)) a.1 in
    (record { actor = a.0; running = runs (has_halted script older next.actor) b.0; input = may; made = refl; enough = b.1 }, run)

-- a delivery of a post that is there
delivered : (script : Script) (older : List Entry) → IsRun script older → (id : PostId) (o : Option Post) → post_named id older ≡ o
    → when_some (option_map (delivery_of id) o) false (acts script older) ≡ true
    → IsRun script (with_entry older (option_map (entry_by script older) (option_map (delivery_of id) o)))
delivered script older run id None q e = absurd (false≢true e)
delivered script older run id (Some p) q e = entered script older run (delivery_of id p) q e

-- a step that can be taken
taken : (script : Script) (older : List Entry) → IsRun script older → (step : Step) → goes_on script older step ≡ true
    → IsRun script (with_entry older (option_map (entry_by script older) (step_input older step)))
taken script older run (a_step.Deliver id) e = delivered script older run id (post_named id older) refl e
taken script older run (a_step.Tick a) e = entered script older run (record { actor = a; input = Tick }) tt e
taken script older run (a_step.Halt a) e = absurd (false≢true e)

-- all of them
pub stepped_run : (script : Script) (older : List Entry) → IsRun script older → (steps : List Step)
    → go_on script older steps ≡ true → IsRun script (stepped script older steps)
stepped_run script older run [] e = run
stepped_run script older run (step ∷ rest) e =
    let h = and_parts (goes_on script older step) _ e in
    stepped_run script (with_entry older (option_map (entry_by script older) (step_input older step))) (taken script older run step h.0) rest h.1
