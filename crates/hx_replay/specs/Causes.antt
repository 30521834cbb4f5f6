-- What made the program end as it did.
use Rattle.std.specs.Prelude.{◌≡◌, ◌⊎◌, Bool, ℕ, ◌+◌, ◌<◌, ◌≤◌, List, length, Option, Result, Ok, Err, ⊤}
use Rattle.std.specs.Io.KnownBytes.{Consumes, IsAtEnd}
use Rattle.hx_types.specs.declared.limits.TheConstants.{LONGEST_SCRIPT}
use Rattle.hx_io.specs.Causes.{Rose}
use Rattle.hx_io.specs.Pieces.{ConsumesExactly}
use Rattle.hx_io.specs.declared.errors.ReadError.{ReadError}
use Rattle.hx_io.specs.declared.errors.ReadError.TheVariants as a_read_error
use Rattle.hx_model.specs.Types.{Actor, Entry}
use Rattle.hx_script.specs.declared.errors.Reason.{Reason}
use Rattle.hx_script.specs.declared.errors.Reason.TheVariants as a_reason
use Rattle.hx_script.specs.declared.errors.ScriptError.{ScriptError}
use Rattle.hx_script.specs.declared.errors.ScriptError.TheVariants as a_script_error
use Rattle.hx_replay.specs.declared.outcomes.Ended.{Ended}
use Rattle.hx_replay.specs.declared.outcomes.Ended.TheVariants.{Whole, Refused, Worn}
use Rattle.hx_replay.specs.declared.outcomes.Outcome.{Outcome}
use Rattle.hx_replay.specs.declared.outcomes.Outcome.TheVariants as an_outcome
use Rattle.hx_replay.specs.declared.texts.Scripted.{Scripted}
use Rattle.hx_replay.specs.declared.texts.Scripted.TheVariants.{One, Several}
use Rattle.hx_words.specs.declared.commands.Command.{Command}
use Rattle.hx_words.specs.declared.commands.Command.TheVariants as a_command
use Rattle.hx_replay.specs.Courses.{BundleEnds, IsCourseCutShort, IsPlannedBundle, IsRefusedIn, IsWholeCourse, IsWornCourse}
use Rattle.hx_replay.specs.Runs.{IsCutShort, IsOfOne, IsPlanned, IsWholeReplay, IsWornRun, ReplayEnds}
use Rattle.hx_replay.specs.Steps.{IsRefusedAt}
use Rattle.hx_replay.specs.Texts.{IsRefused, scripted_of}

-- how many bytes a text may have
abbrev pub limit : ℕ
limit = LONGEST_SCRIPT

abbrev pub outcome_of_reading : ReadError → Outcome
outcome_of_reading a_read_error.Memory = an_outcome.Memory
outcome_of_reading a_read_error.ReadFault = an_outcome.ReadFault
outcome_of_reading a_read_error.TooLarge = an_outcome.TooLarge

abbrev pub outcome_of_script : ScriptError → Outcome
outcome_of_script a_script_error.Memory = an_outcome.Memory
outcome_of_script (a_script_error.Refused line reason) = an_outcome.Refused line reason

-- the source was read to its end, and gave this text
pub record ReadsText (before after : Option (List ℕ)) (text : List ℕ) : Type 0 where
  pub consumed : Consumes before after text
  pub end : IsAtEnd after
  pub small : length text ≤ limit

-- the command runs the script
abbrev pub Replays : Command → Type 0
Replays (a_command.Replay with_trace) = ⊤
Replays a_command.Plan = ⊥

-- the step on that line is the first that can't be taken, and is refused after these traces
abbrev pub IsRefusedStep : Scripted → ℕ → List (List Entry) → Type 0
IsRefusedStep (One script) line traces = IsOfOne (IsRefusedAt script line) traces
IsRefusedStep (Several bundle) line traces = IsRefusedIn bundle line traces

-- no step of the script is refused; `plan` takes none
abbrev pub IsSteppable : Command → Scripted → Type 0
IsSteppable (a_command.Replay with_trace) scripted = (line : ℕ) (traces : List (List Entry)) → ¬ IsRefusedStep scripted line traces
IsSteppable a_command.Plan scripted = ⊤

-- the text is that of a script, of one space or several, and no step of it is refused
pub record IsTaken (command : Command) (text : List ℕ) : Type 0 where
  pub scripted : Scripted
  pub text_is : scripted_of text ≡ Ok scripted
  pub steppable : IsSteppable command scripted

-- `replay` refuses the step of the text's script that stands on that line
pub record IsRefusedByStep (command : Command) (text : List ℕ) (line : ℕ) (reason : Reason) : Type 0 where
  pub replays : Replays command
  pub by_step : reason ≡ a_reason.Step
  pub scripted : Scripted
  pub text_is : scripted_of text ≡ Ok scripted
  pub traces : List (List Entry)
  pub refused : IsRefusedStep scripted line traces

-- the text is refused at that line, or the step that stands there
abbrev pub IsRefusedUnder : Command → List ℕ → ℕ → Reason → Type 0
IsRefusedUnder command text line reason = IsRefused text line reason ⊎ IsRefusedByStep command text line reason

-- the traces and the bytes that a command makes of a script
abbrev pub CommandMakes : Command → Scripted → List (List Entry) → List ℕ → Type 0
CommandMakes (a_command.Replay with_trace) (One script) traces bytes = IsOfOne (λ trace. IsWholeReplay with_trace script trace bytes) traces
CommandMakes (a_command.Replay with_trace) (Several bundle) traces bytes = IsWholeCourse with_trace bundle traces bytes
CommandMakes a_command.Plan (One script) traces bytes = IsPlanned script traces bytes
CommandMakes a_command.Plan (Several bundle) traces bytes = IsPlannedBundle bundle traces bytes

-- the text is that of a script, of one space or several, and the traces, one for each space, and the bytes are what the command makes of it
pub record IsAnswer (command : Command) (text : List ℕ) (traces : List (List Entry)) (bytes : List ℕ) : Type 0 where
  pub scripted : Scripted
  pub text_is : scripted_of text ≡ Ok scripted
  pub made : CommandMakes command scripted traces bytes

-- the traces are those of the replay that ends where this actor has made all its entries
abbrev pub EndsWorn : Scripted → List (List Entry) → Actor → Type 0
EndsWorn (One script) traces a = IsOfOne (λ trace. IsWornRun script trace a) traces
EndsWorn (Several bundle) traces a = IsWornCourse bundle traces a

-- the text is that of a script, and the traces are those of its replay that ends where this actor has made all its entries
pub record IsWorn (text : List ℕ) (traces : List (List Entry)) (a : Actor) : Type 0 where
  pub scripted : Scripted
  pub text_is : scripted_of text ≡ Ok scripted
  pub worn : EndsWorn scripted traces a

-- the traces are those of the replay that ends where the step on that line is refused
abbrev pub EndsAtStep : Scripted → ℕ → List (List Entry) → Type 0
EndsAtStep (One script) line traces = IsOfOne (IsCutShort script line) traces
EndsAtStep (Several bundle) line traces = IsCourseCutShort bundle line traces

-- the text is that of a script, and the traces are those of its replay that ends where the step on that line is refused
pub record IsStopped (text : List ℕ) (line : ℕ) (traces : List (List Entry)) : Type 0 where
  pub scripted : Scripted
  pub text_is : scripted_of text ≡ Ok scripted
  pub stopped : EndsAtStep scripted line traces

-- what a replay makes of a script, of one space or several
abbrev pub ScriptedEnds : Bool → Scripted → Ended → Type 0
ScriptedEnds with_trace (One script) ended = ReplayEnds with_trace script ended
ScriptedEnds with_trace (Several bundle) ended = BundleEnds with_trace bundle ended

-- what a command makes of a text: an answer, or under `replay` what was done before a step that is refused or where an actor is worn
abbrev pub CommandEnds : Command → List ℕ → Ended → Type 0
CommandEnds command text (Whole answered) = IsAnswer command text answered.traces answered.bytes.items
CommandEnds command text (Refused line traces) = Replays command × IsStopped text line traces
CommandEnds command text (Worn a traces) = Replays command × IsWorn text traces a

-- what a source that tells its bytes says of each outcome
abbrev pub IsJudged : Command → List ℕ → Outcome → Type 0
IsJudged command text an_outcome.Fine = (length text ≤ limit) × IsTaken command text
IsJudged command text an_outcome.Usage = ⊥
IsJudged command text (an_outcome.Refused line reason) = (length text ≤ limit) × IsRefusedUnder command text line reason
IsJudged command text an_outcome.TooLarge = limit < length text
IsJudged command text an_outcome.ReadFault = ⊤
IsJudged command text an_outcome.WriteFault = (length text ≤ limit) × IsTaken command text
IsJudged command text an_outcome.Memory = ⊤
IsJudged command text (an_outcome.Worn a) = (length text ≤ limit) × IsTaken command text
IsJudged command text (an_outcome.Wrong line clause) = ⊥

-- why a text that a source holds has no answer from the command
abbrev pub IsFaulty : Command → List ℕ → Outcome → Type 0
IsFaulty command text an_outcome.Fine = ⊥
IsFaulty command text an_outcome.Usage = ⊥
IsFaulty command text (an_outcome.Refused line reason) = (length text ≤ limit) × IsRefusedUnder command text line reason
IsFaulty command text an_outcome.TooLarge = limit < length text
IsFaulty command text an_outcome.ReadFault = ⊥
IsFaulty command text an_outcome.WriteFault = ⊥
IsFaulty command text an_outcome.Memory = ⊥
IsFaulty command text (an_outcome.Worn a) = ⊥
IsFaulty command text (an_outcome.Wrong line clause) = ⊥

-- what made a text have no answer
abbrev pub IsTextCause : Command → List ℕ → Outcome → Type 0
IsTextCause command text an_outcome.Fine = ⊥
IsTextCause command text an_outcome.Usage = ⊥
IsTextCause command text (an_outcome.Refused line reason) = IsRefused text line reason
IsTextCause command text an_outcome.TooLarge = ⊥
IsTextCause command text an_outcome.ReadFault = ⊥
IsTextCause command text an_outcome.WriteFault = ⊥
IsTextCause command text an_outcome.Memory = ⊤
IsTextCause command text (an_outcome.Worn a) = ⊥
IsTextCause command text (an_outcome.Wrong line clause) = ⊥

-- what made reading a source and answering its text end without an answer
abbrev pub IsCause : Command → Option (List ℕ) → Option (List ℕ) → ℕ → ℕ → Outcome → Type 0
IsCause command before after faults_before faults_after an_outcome.Fine = ⊥
IsCause command before after faults_before faults_after an_outcome.Usage = ⊥
IsCause command before after faults_before faults_after (an_outcome.Refused line reason) =
    (text : List ℕ) × ReadsText before after text × IsRefused text line reason
IsCause command before after faults_before faults_after an_outcome.TooLarge = ConsumesExactly before after (limit + 1)
IsCause command before after faults_before faults_after an_outcome.ReadFault = Rose faults_before faults_after
IsCause command before after faults_before faults_after an_outcome.WriteFault = ⊥
IsCause command before after faults_before faults_after an_outcome.Memory = ⊤
IsCause command before after faults_before faults_after (an_outcome.Worn a) = ⊥
IsCause command before after faults_before faults_after (an_outcome.Wrong line clause) = ⊥

-- the outcome with which a made value ends, faults of writing aside
abbrev pub outcome_of : Ended → Outcome
outcome_of (Whole answered) = an_outcome.Fine
outcome_of (Refused line traces) = an_outcome.Refused line a_reason.Step
outcome_of (Worn a traces) = an_outcome.Worn a

-- the outcome of a call that made a value, or ended before
abbrev pub IsJudgedResult : Command → List ℕ → Result Ended Outcome → Type 0
IsJudgedResult command text (Ok made) = IsJudged command text (outcome_of made)
IsJudgedResult command text (Err outcome) = IsJudged command text outcome
