-- What the program tells of a call, whichever words it has.
use Rattle.std.specs.Prelude.{◌≡◌, ◌⊎◌, ℕ, List}
use Rattle.std.specs.Io.KnownBytes.{Appends}
use Rattle.std.specs.declared.string.String.{String}
use Rattle.std.specs.declared.alloc.Global.{Global}
use Rattle.hx_io.specs.Causes.{Rose}
use Rattle.hx_io.specs.Pieces.{AppendsPrefix}
use Rattle.hx_types.specs.declared.ids.Actor.{Actor}
use Rattle.hx_types.specs.declared.traces.Script.{Script}
use Rattle.hx_words.specs.declared.commands.Run.{Run}
use Rattle.hx_words.specs.declared.commands.Share.{Share}
use Rattle.hx_words.specs.declared.commands.Soak.{Soak}
use Rattle.hx_words.specs.Saying.{SaysRun, SaysShare, SaysSoak}
use Rattle.hx_replay.specs.declared.texts.Scripted.{Scripted}
use Rattle.hx_replay.specs.declared.outcomes.Outcome.{Outcome}
use Rattle.hx_replay.specs.declared.outcomes.Outcome.TheVariants as an_outcome
use Rattle.hx_replay.specs.Calling.{Ends, EndsAudit, Shows, Writes}
use Rattle.hx_words.specs.Saying.{Asks, SaysAudit}
use Rattle.hx_replay.specs.Streams.{Stream}
use Rattle.hx_words.specs.declared.commands.Question.{Question}
use Rattle.hx_command.specs.Showing.{shown_text}
use Rattle.hx_command.specs.Threads.{EndsRun, EndsShare, EndsSoak, Handed, IsDecided, IsUnthreaded, any_version, version_1}

-- the answer to words that start no threads was written
pub record AnswersAlone (words : List (String Global)) (source sink : Stream) (h : Handed) : Type 0 where
  pub unthreaded : IsUnthreaded words
  pub writes : Writes words source sink h.traces

-- the report that was read breaks no clause, and `audit yes` was written
pub record AnswersAudit (words : List (String Global)) (source sink : Stream) : Type 0 where
  pub says : SaysAudit words
  pub ends : EndsAudit source sink an_outcome.Fine

-- the report of a run on threads was written
pub record AnswersRun (words : List (String Global)) (source sink : Stream) (h : Handed) : Type 0 where
  pub command : Run
  pub says : SaysRun words command
  pub scripted : Scripted
  pub ends : EndsRun command scripted source sink h an_outcome.Fine

-- the summary of a soak was written
pub record AnswersSoak (words : List (String Global)) (sink : Stream) (h : Handed) : Type 0 where
  pub command : Soak
  pub says : SaysSoak words command
  pub ends : EndsSoak command sink h an_outcome.Fine

-- the report of a script that callers shared was written
pub record AnswersShare (words : List (String Global)) (source sink : Stream) (h : Handed) : Type 0 where
  pub command : Share
  pub says : SaysShare words command
  pub script : Script
  pub ends : EndsShare script source sink h an_outcome.Fine

-- the answer to the words was written
abbrev pub Answers : List (String Global) → Stream → Stream → Handed → Type 0
Answers words source sink h = AnswersAlone words source sink h
    ⊎ (AnswersAudit words source sink ⊎ (AnswersRun words source sink h
    ⊎ (AnswersSoak words sink h ⊎ AnswersShare words source sink h)))

-- how a call ends, by its words; some value is handed back
pub record Told (words : List (String Global)) (source sink : Stream) (outcome : Outcome) : Type 0 where
  pub h : Handed
  pub alone : IsUnthreaded words → (outcome ≡ an_outcome.Memory) ⊎ Ends words source sink outcome h.traces
  pub run : (command : Run) → SaysRun words command → (scripted : Scripted) × EndsRun command scripted source sink h outcome
  pub decided : (command : Run) → SaysRun words command → IsDecided any_version source sink outcome
  pub soak : (command : Soak) → SaysSoak words command → EndsSoak command sink h outcome
  pub soaked : (command : Soak) → SaysSoak words command → ¬ Rose sink.faults_before sink.faults_after
      → (outcome ≡ an_outcome.Fine) ⊎ (outcome ≡ an_outcome.Memory) ⊎ ((a : Actor) × (outcome ≡ an_outcome.Worn a))
  pub share : (command : Share) → SaysShare words command → (script : Script) × EndsShare script source sink h outcome
  pub share_decided : (command : Share) → SaysShare words command → IsDecided version_1 source sink outcome

-- how the program ends with these words: what was asked was shown, or the call ended as its words have it
pub record EndsProgram (words : List (String Global)) (source sink : Stream) (outcome : Outcome) : Type 0 where
  pub asked : (question : Question) → Asks words question → Shows sink (shown_text question) outcome
  pub called : ((question : Question) → ¬ Asks words question) → Told words source sink outcome

-- the words of the process couldn't be read: one of them is no text, or memory was wanting
abbrev pub IsUnread : Outcome → Type 0
IsUnread outcome = (outcome ≡ an_outcome.Memory) ⊎ (outcome ≡ an_outcome.Usage)

-- the line was printed, or a prefix of it and a fault rose, or there was no room to make it and nothing was
abbrev pub Prints : Stream → List ℕ → Type 0
Prints errors line =
    Appends errors.before errors.after line
    ⊎ (Rose errors.faults_before errors.faults_after × AppendsPrefix errors.before errors.after line ⊎ (errors.after ≡ errors.before))
