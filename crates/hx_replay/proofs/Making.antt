-- What a command makes of a text, by what it makes of its script.
use Rattle.std.proofs.Common.{◌≡◌, ◌≤◌, ◌⊎◌, inl, inr, Bool, ℕ, List, Option, refl, sym, subst, length}
use Rattle.std.specs.Prelude.{Ok}
use Rattle.std.specs.declared.string.String.{String}
use Rattle.std.specs.declared.alloc.Global.{Global}
use Rattle.hx_bundle.specs.declared.bundles.Bundle.{Bundle}
use Rattle.hx_model.specs.Types.{Actor, Entry, Script}
use Rattle.hx_script.specs.declared.errors.Reason.{Reason}
use Rattle.hx_script.specs.declared.errors.Reason.TheVariants as a_reason
use Rattle.hx_replay.specs.Causes.{CommandEnds, CommandMakes, EndsAtStep, EndsWorn, IsJudged, IsRefusedStep}
use Rattle.hx_replay.specs.Causes.{IsSteppable, IsStopped, IsTaken, IsWorn, ReadsText, Replays, ScriptedEnds, limit}
use Rattle.hx_replay.specs.Causes.{outcome_of}
use Rattle.hx_words.specs.Saying.{Says}
use Rattle.hx_replay.specs.Courses.{IsRefusedIn, IsWornAfterBundleSteps, IsWornAtBundleStep, IsWornCourse}
use Rattle.hx_replay.specs.Runs.{IsWornAfterSteps, IsWornRun}
use Rattle.hx_replay.specs.Steps.{IsRefusedAt, IsWornAtStep}
use Rattle.hx_replay.specs.Texts.{IsRefused, scripted_of}
use Rattle.hx_replay.specs.declared.outcomes.Ended.{Ended}
use Rattle.hx_replay.specs.declared.outcomes.Ended.TheVariants.{Whole, Refused, Worn}
use Rattle.hx_replay.specs.declared.outcomes.Outcome.{Outcome}
use Rattle.hx_replay.specs.declared.outcomes.Outcome.TheVariants as an_outcome
use Rattle.hx_replay.specs.declared.texts.Scripted.{Scripted}
use Rattle.hx_replay.specs.declared.texts.Scripted.TheVariants.{One, Several}
use Rattle.hx_words.specs.declared.commands.Command.{Command}
use Rattle.hx_words.specs.declared.commands.Command.TheVariants.{Replay, Plan}
use Rattle.hx_replay.proofs.Stepping.{all-taken-not-refused, taken-not-refused, worn-not-refused, worn-step-not-refused}

pub made_of_replay : (with_trace : Bool) (text : List ℕ) (scripted : Scripted) (made : Ended)
    → scripted_of text ≡ Ok scripted → ScriptedEnds with_trace scripted made → CommandEnds (Replay with_trace) text made
made_of_replay with_trace text (One script) (Whole answered) is replayed = record { scripted = One script; text_is = is; made = replayed }
made_of_replay with_trace text (One script) (Refused line traces) is stopped = (tt, record { scripted = One script; text_is = is; stopped = stopped })
made_of_replay with_trace text (One script) (Worn a traces) is worn = (tt, record { scripted = One script; text_is = is; worn = worn })
made_of_replay with_trace text (Several bundle) (Whole answered) is replayed = record { scripted = Several bundle; text_is = is; made = replayed }
made_of_replay with_trace text (Several bundle) (Refused line traces) is stopped = (tt, record { scripted = Several bundle; text_is = is; stopped = stopped })
made_of_replay with_trace text (Several bundle) (Worn a traces) is worn = (tt, record { scripted = Several bundle; text_is = is; worn = worn })

-- no step is refused of a script that has an answer
answered-steppable : (command : Command) (scripted : Scripted) (traces : List (List Entry)) (bytes : List ℕ)
    → CommandMakes command scripted traces bytes → IsSteppable command scripted
answered-steppable (Replay with_trace) (One script) traces bytes made =
    λ line before refused. taken-not-refused script made.held.taken line refused.trace refused.held
answered-steppable (Replay with_trace) (Several bundle) traces bytes made =
    λ line before refused. all-taken-not-refused bundle made.is_whole.taken line before refused
answered-steppable Plan scripted traces bytes made = tt

worn-run-steppable : (script : Script) (trace : List Entry) (a : Actor) → IsWornRun script trace a → (line : ℕ) (t : List Entry) → IsRefusedAt script line t → ⊥
worn-run-steppable script trace a worn = by worn.ends
  where
    by : IsWornAtStep script trace a ⊎ IsWornAfterSteps script trace a → (line : ℕ) (t : List Entry) → IsRefusedAt script line t → ⊥
    by (inl at) = worn-not-refused script trace a at
    by (inr after) = taken-not-refused script after.taken

worn-course-steppable : (bundle : Bundle) (traces : List (List Entry)) (a : Actor) → IsWornCourse bundle traces a
    → (line : ℕ) (before : List (List Entry)) → IsRefusedIn bundle line before → ⊥
worn-course-steppable bundle traces a worn = by worn.ends
  where
    by : IsWornAtBundleStep bundle worn.course a ⊎ IsWornAfterBundleSteps bundle worn.course a
        → (line : ℕ) (before : List (List Entry)) → IsRefusedIn bundle line before → ⊥
    by (inl at) = worn-step-not-refused bundle worn.course a at
    by (inr after) = all-taken-not-refused bundle after.taken

pub worn-steppable : (scripted : Scripted) (traces : List (List Entry)) (a : Actor) → EndsWorn scripted traces a
    → (line : ℕ) (before : List (List Entry)) → IsRefusedStep scripted line before → ⊥
worn-steppable (One script) traces a worn line before refused = worn-run-steppable script worn.trace a worn.held line refused.trace refused.held
worn-steppable (Several bundle) traces a worn line before refused = worn-course-steppable bundle traces a worn line before refused

-- a run that is cut short ends at a step that is refused
pub stopped-refused : (scripted : Scripted) (line : ℕ) (traces : List (List Entry)) → EndsAtStep scripted line traces → IsRefusedStep scripted line traces
stopped-refused (One script) line traces stopped = record { trace = stopped.trace; traces_are = stopped.traces_are; held = stopped.held.refused }
stopped-refused (Several bundle) line traces stopped = stopped.refused

-- a command that replays takes a text of a script of which no step is refused
worn-taken : (command : Command) (text : List ℕ) (scripted : Scripted) → Replays command
    → scripted_of text ≡ Ok scripted → ((line : ℕ) (before : List (List Entry)) → IsRefusedStep scripted line before
    → ⊥) → IsTaken command text
worn-taken (Replay with_trace) text scripted replays is steppable = record { scripted = scripted; text_is = is; steppable = steppable }
worn-taken Plan text scripted replays is steppable = absurd replays

-- what a command makes of a text judges its outcome
pub made_is_judged : (command : Command) (text : List ℕ) (made : Ended) → length text ≤ limit
    → CommandEnds command text made → IsJudged command text (outcome_of made)
made_is_judged command text (Whole answered) short made = (
  short,
  record {
    scripted = made.scripted;
    text_is = made.text_is;
    steppable = answered-steppable command made.scripted answered.traces answered.bytes.items made.made;
  },
)
made_is_judged command text (Refused line traces) short made = (
  short,
  inr (record {
    replays = made.0;
    by_step = refl;
    scripted = made.1.scripted;
    text_is = made.1.text_is;
    traces = traces;
    refused = stopped-refused made.1.scripted line traces made.1.stopped;
  }),
)
made_is_judged command text (Worn a traces) short made =
    (short, worn-taken command text made.1.scripted made.0 made.1.text_is (worn-steppable made.1.scripted traces a made.1.worn))

-- what is told where a worn actor ended the replay
pub told_worn :
    (words : List (String Global)) (before after : Option (List ℕ)) (command : Command) (made : Ended)
    (traces given : List (List Entry)) (outcome : Outcome) (actor a : Actor)
    → Says words command
    → ((text : List ℕ) × ReadsText before after text × CommandEnds command text made)
    → made ≡ Worn actor traces
    → given ≡ traces
    → outcome ≡ an_outcome.Worn actor
    → outcome ≡ an_outcome.Worn a
    → (text : List ℕ) × ((own : Command) × Says words own × Replays own) × ReadsText before after text × IsWorn text given a
told_worn words before after command made traces given outcome actor a says read is same ends told =
    let worn : CommandEnds command read.0 (Worn actor traces) = subst (λ (m : Ended). CommandEnds command read.0 m) is read.2 in
    let same_actor : actor ≡ a = cc in (
      read.0,
      (command, says, worn.0),
      read.1,
      subst (λ (t : List (List Entry)). IsWorn read.0 t a) (sym same) (subst (λ (b : Actor). IsWorn read.0 traces b) same_actor worn.1),
    )

-- what is told where a step was refused
pub told_refused :
    (words : List (String Global)) (before after : Option (List ℕ)) (command : Command) (made : Ended)
    (traces given : List (List Entry)) (outcome : Outcome) (at line : ℕ) (reason : Reason)
    → Says words command
    → ((text : List ℕ) × ReadsText before after text × CommandEnds command text made)
    → made ≡ Refused at traces
    → given ≡ traces
    → outcome ≡ an_outcome.Refused at a_reason.Step
    → outcome ≡ an_outcome.Refused line reason
    → (text : List ℕ) × ReadsText before after text
    × (IsRefused text line reason ⊎ ((reason ≡ a_reason.Step) × ((own : Command) × Says words own × Replays own)
    × IsStopped text line given))
told_refused words before after command made traces given outcome at line reason says read is same ends told =
    let stopped : CommandEnds command read.0 (Refused at traces) = subst (λ (m : Ended). CommandEnds command read.0 m) is read.2 in
    let same_line : at ≡ line = cc in
    let same_reason : reason ≡ a_reason.Step = cc in (
      read.0,
      read.1,
      inr (
        same_reason,
        (command, says, stopped.0),
        subst (λ (t : List (List Entry)). IsStopped read.0 line t) (sym same) (subst (λ n. IsStopped read.0 n traces) same_line stopped.1),
      ),
    )
