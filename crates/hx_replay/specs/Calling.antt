-- What the program makes of its words, its source and its sink.
use Rattle.std.specs.Prelude.{◌≡◌, ◌↔◌, ◌⊎◌, ℕ, ◌+◌, ◌<◌, ◌≤◌, List, [], length, Some, IfSome, ⊤}
use Rattle.std.specs.declared.string.String.{String}
use Rattle.std.specs.declared.alloc.Global.{Global}
use Rattle.std.specs.Io.KnownBytes.{Appends}
use Rattle.hx_io.specs.Causes.{Rose}
use Rattle.hx_io.specs.Pieces.{AppendsPrefix, ConsumesExactly}
use Rattle.hx_model.specs.Types.{Actor, Entry}
use Rattle.hx_script.specs.declared.errors.Reason.{Reason}
use Rattle.hx_script.specs.declared.errors.Reason.TheVariants as a_reason
use Rattle.hx_replay.specs.declared.outcomes.Outcome.{Outcome}
use Rattle.hx_replay.specs.declared.outcomes.Outcome.TheVariants as an_outcome
use Rattle.hx_words.specs.declared.commands.Command.{Command}
use Rattle.hx_replay.specs.Causes.{IsAnswer, IsFaulty, IsJudged, IsStopped, IsTaken, IsWorn, ReadsText, Replays, limit}
use Rattle.hx_replay.specs.Texts.{IsRefused}
use Rattle.hx_words.specs.Saying.{Says, SaysAudit}
use Rattle.hx_replay.specs.Audits.{IsAudited, IsAuditJudged, yes_line}
use Rattle.hx_replay.specs.Streams.{Stream}
use Rattle.hx_audit.specs.declared.verdicts.Clause.{Clause}
use Rattle.hx_audit.specs.declared.verdicts.Verdict.TheVariants.{Yes, No}
use Rattle.hx_report_lines.specs.Printed.{text_of}
use Rattle.hx_report_lines.specs.Unread.{IsUnreadAt}
use Rattle.hx_report_lines.specs.Values.{IsReportValue, ReportValue}

-- the text was written, or a prefix of it and a fault rose
abbrev pub Shows : Stream → List ℕ → Outcome → Type 0
Shows sink text outcome =
    ((outcome ≡ an_outcome.Fine) × Appends sink.before sink.after text)
    ⊎ ((outcome ≡ an_outcome.WriteFault) × Rose sink.faults_before sink.faults_after × AppendsPrefix sink.before sink.after text)

-- the source was read, and the answer to its text was written
pub record Writes (words : List (String Global)) (source sink : Stream) (traces : List (List Entry)) : Type 0 where
  pub command : Command
  pub text : List ℕ
  pub bytes : List ℕ
  pub says : Says words command
  pub reads : ReadsText source.before source.after text
  pub answer : IsAnswer command text traces bytes
  pub written : Appends sink.before sink.after bytes

-- the source was read, and a prefix of the answer to its text was written
pub record WritesPrefix (words : List (String Global)) (source sink : Stream) (traces : List (List Entry)) : Type 0 where
  pub command : Command
  pub text : List ℕ
  pub bytes : List ℕ
  pub says : Says words command
  pub reads : ReadsText source.before source.after text
  pub answer : IsAnswer command text traces bytes
  pub written : AppendsPrefix sink.before sink.after bytes

-- how an audit ends: the source was read, and no clause of its report is broken and `audit yes` was written, or one is, or no report has the text
abbrev pub EndsAudit : Stream → Stream → Outcome → Type 0
EndsAudit source sink an_outcome.Fine =
    (text : List ℕ) × ReadsText source.before source.after text × IsAudited text Yes × Appends sink.before sink.after yes_line
EndsAudit source sink an_outcome.Usage = ⊥
EndsAudit source sink (an_outcome.Refused line reason) =
    (text : List ℕ) × ReadsText source.before source.after text × (reason ≡ a_reason.Order) × IsUnreadAt text line
EndsAudit source sink an_outcome.TooLarge = ConsumesExactly source.before source.after (limit + 1)
EndsAudit source sink an_outcome.ReadFault = Rose source.faults_before source.faults_after
EndsAudit source sink an_outcome.WriteFault =
    (text : List ℕ) × ReadsText source.before source.after text × IsAudited text Yes
    × Rose sink.faults_before sink.faults_after × AppendsPrefix sink.before sink.after yes_line
EndsAudit source sink an_outcome.Memory = ⊤
EndsAudit source sink (an_outcome.Worn a) = ⊥
EndsAudit source sink (an_outcome.Wrong line clause) =
    (text : List ℕ) × ReadsText source.before source.after text × IsAudited text (No line clause)

-- for a source that tells its bytes these alone decide an audit, but for faults and want of memory
pub record IsAuditDecided (source sink : Stream) (outcome : Outcome) : Type 0 where
  pub judged : IfSome source.before (λ text. IsAuditJudged text outcome)
  pub too_large : (text : List ℕ) → source.before ≡ Some text → limit < length text
      → ¬ Rose source.faults_before source.faults_after
      → (outcome ≡ an_outcome.TooLarge) ⊎ (outcome ≡ an_outcome.Memory)
  pub unread : (text : List ℕ) → source.before ≡ Some text → length text ≤ limit → ((report : ReportValue) → IsReportValue report → ¬ (text_of report ≡ text))
      → ¬ Rose source.faults_before source.faults_after
      → ((line : ℕ) × (outcome ≡ an_outcome.Refused line a_reason.Order)) ⊎ (outcome ≡ an_outcome.Memory)
  pub complete : (text : List ℕ) (report : ReportValue) → IsReportValue report → source.before ≡ Some text → length text ≤ limit → text_of report ≡ text
      → ¬ Rose source.faults_before source.faults_after
      → ¬ Rose sink.faults_before sink.faults_after
      → (outcome ≡ an_outcome.Fine) ⊎ (outcome ≡ an_outcome.Memory)
      ⊎ ((line : ℕ) × (clause : Clause) × (outcome ≡ an_outcome.Wrong line clause))

-- the text that the source gave is refused, or its replay ended before the step on that line, which can't be taken
abbrev pub Refuses : List (String Global) → Stream → ℕ → Reason → List (List Entry) → Type 0
Refuses words source line reason traces =
    (text : List ℕ)
    × ReadsText source.before source.after text
    × (IsRefused text line reason
    ⊎ ((reason ≡ a_reason.Step) × ((command : Command) × Says words command × Replays command) × IsStopped text line traces))

-- the replay of the text that the source gave ended where this actor is worn
abbrev pub WearsOut : List (String Global) → Stream → List (List Entry) → Actor → Type 0
WearsOut words source traces a =
    (text : List ℕ)
    × ((command : Command) × Says words command × Replays command)
    × ReadsText source.before source.after text
    × IsWorn text traces a

-- for a source that tells its bytes these alone decide a command, but for faults and want of memory;
-- where the text's script has a run that ends at a worn actor, so does the call
pub record IsCommandDecided (words : List (String Global)) (source sink : Stream) (outcome : Outcome) : Type 0 where
  pub judged : (command : Command) → Says words command → IfSome source.before (λ text. IsJudged command text outcome)
  pub faulty : (command : Command) (text : List ℕ) (wanted : Outcome) → Says words command
      → source.before ≡ Some text → IsFaulty command text wanted
      → ¬ Rose source.faults_before source.faults_after
      → (outcome ≡ wanted) ⊎ (outcome ≡ an_outcome.Memory)
  pub complete : (command : Command) (text : List ℕ) → Says words command
      → source.before ≡ Some text → length text ≤ limit → IsTaken command text
      → ¬ Rose source.faults_before source.faults_after
      → ¬ Rose sink.faults_before sink.faults_after
      → (outcome ≡ an_outcome.Fine) ⊎ (outcome ≡ an_outcome.Memory)
      ⊎ ((a : Actor) × (outcome ≡ an_outcome.Worn a))
  pub wears : (command : Command) (text : List ℕ) (worn : List (List Entry)) (a : Actor) → Says words command → Replays command
      → source.before ≡ Some text → length text ≤ limit → IsWorn text worn a
      → ¬ Rose source.faults_before source.faults_after
      → (outcome ≡ an_outcome.Worn a) ⊎ (outcome ≡ an_outcome.Memory)

-- a call with the words of a command, with `audit`, or with words that are neither, ends so with these traces
pub record Ends (words : List (String Global)) (source sink : Stream) (outcome : Outcome) (traces : List (List Entry)) : Type 0 where
  pub fine : outcome ≡ an_outcome.Fine → SaysAudit words ⊎ Writes words source sink traces
  pub usage : (outcome ≡ an_outcome.Usage) ↔ (((command : Command) → ¬ Says words command) × ¬ SaysAudit words)
  pub refused : (line : ℕ) (reason : Reason) → outcome ≡ an_outcome.Refused line reason → SaysAudit words ⊎ Refuses words source line reason traces
  pub too_large : outcome ≡ an_outcome.TooLarge → ConsumesExactly source.before source.after (limit + 1)
  pub read_fault : outcome ≡ an_outcome.ReadFault → Rose source.faults_before source.faults_after
  pub write_fault : outcome ≡ an_outcome.WriteFault → Rose sink.faults_before sink.faults_after × (SaysAudit words ⊎ WritesPrefix words source sink traces)
  pub worn : (a : Actor) → outcome ≡ an_outcome.Worn a → WearsOut words source traces a
  pub decided : IsCommandDecided words source sink outcome
  pub audited : SaysAudit words → EndsAudit source sink outcome
  pub audit_decided : SaysAudit words → IsAuditDecided source sink outcome
  pub audit_traces : SaysAudit words → traces ≡ []
