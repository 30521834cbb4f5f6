-- What decides an audit whose source tells its bytes; and words that say a command aren't `audit`.
use Rattle.std.proofs.Common.{◌≡◌, ◌⊎◌, inl, inr, ℕ, ◌<◌, ◌≤◌, List, length, Option, Some, refl, sym, ap, ◌∙◌, subst, arith}
use Rattle.std.specs.Prelude.{IfSome}
use Rattle.std.specs.declared.string.String.{String}
use Rattle.std.specs.declared.alloc.Global.{Global}
use Rattle.hx_io.specs.Causes.{Rose}
use Rattle.hx_audit.specs.declared.verdicts.Clause.{Clause}
use Rattle.hx_report_lines.specs.Printed.{text_of}
use Rattle.hx_report_lines.specs.Values.{IsReportValue, ReportValue}
use Rattle.hx_script.specs.declared.errors.Reason.TheVariants.{Order}
use Rattle.hx_replay.specs.Audits.{IsAuditJudged}
use Rattle.hx_replay.specs.Calling.{EndsAudit, IsAuditDecided, IsCommandDecided}
use Rattle.hx_model.specs.Types.{Actor, Entry}
use Rattle.hx_replay.specs.Causes.{IsFaulty, IsJudged, IsTaken, IsWorn, Replays, limit}
use Rattle.hx_words.specs.Saying.{Says, SaysAudit}
use Rattle.hx_words.specs.declared.commands.Request.TheVariants as a_request
use Rattle.hx_words.proofs.Lemmas.{one_request}
use Rattle.hx_replay.specs.Streams.{Stream}
use Rattle.hx_replay.specs.declared.outcomes.Outcome.{Outcome}
use Rattle.hx_replay.specs.declared.outcomes.Outcome.TheVariants.{Fine, Usage, Refused, TooLarge, ReadFault, WriteFault, Memory, Worn, Wrong}
use Rattle.hx_words.specs.declared.commands.Command.{Command}

module _ (source sink : Stream) (text : List ℕ) (still : Rose source.faults_before source.faults_after → ⊥) where
  larger : (outcome : Outcome) → IsAuditJudged text outcome → EndsAudit source sink outcome → limit < length text → (outcome ≡ TooLarge) ⊎ (outcome ≡ Memory)
  larger Fine judged ends large = absurd (omega (arith, judged.0, large))
  larger Usage judged ends large = absurd judged
  larger (Refused line reason) judged ends large = absurd (omega (arith, judged.0, large))
  larger TooLarge judged ends large = inl refl
  larger ReadFault judged ends large = absurd (still ends)
  larger WriteFault judged ends large = absurd (omega (arith, judged.0, large))
  larger Memory judged ends large = inr refl
  larger (Worn a) judged ends large = absurd judged
  larger (Wrong line clause) judged ends large = absurd (omega (arith, judged.0, large))

  no_report : (outcome : Outcome) → IsAuditJudged text outcome → EndsAudit source sink outcome → length text ≤ limit
      → ((report : ReportValue) → IsReportValue report → text_of report ≡ text → ⊥)
      → ((line : ℕ) × (outcome ≡ Refused line Order)) ⊎ (outcome ≡ Memory)
  no_report Fine judged ends short none = absurd (none judged.1.report judged.1.sound judged.1.text_is)
  no_report Usage judged ends short none = absurd judged
  no_report (Refused line reason) judged ends short none = inl (line, ap (λ r. Refused line r) judged.1)
  no_report TooLarge judged ends short none = absurd (omega (arith, short, judged))
  no_report ReadFault judged ends short none = absurd (still ends)
  no_report WriteFault judged ends short none = absurd (none judged.1.report judged.1.sound judged.1.text_is)
  no_report Memory judged ends short none = inr refl
  no_report (Worn a) judged ends short none = absurd judged
  no_report (Wrong line clause) judged ends short none = absurd (none judged.1.report judged.1.sound judged.1.text_is)

  a_report : (outcome : Outcome) → IsAuditJudged text outcome → EndsAudit source sink outcome → length text ≤ limit
      → (report : ReportValue) → IsReportValue report → text_of report ≡ text
      → (Rose sink.faults_before sink.faults_after → ⊥)
      → (outcome ≡ Fine) ⊎ (outcome ≡ Memory) ⊎ ((line : ℕ) × (clause : Clause) × (outcome ≡ Wrong line clause))
  a_report Fine judged ends short report sound is well = inl refl
  a_report Usage judged ends short report sound is well = absurd judged
  a_report (Refused line reason) judged ends short report sound is well = absurd (judged.2.no_report report sound is)
  a_report TooLarge judged ends short report sound is well = absurd (omega (arith, short, judged))
  a_report ReadFault judged ends short report sound is well = absurd (still ends)
  a_report WriteFault judged ends short report sound is well = absurd (well ends.3)
  a_report Memory judged ends short report sound is well = inr (inl refl)
  a_report (Worn a) judged ends short report sound is well = absurd judged
  a_report (Wrong line clause) judged ends short report sound is well = inr (inr (line, clause, refl))

-- an audit whose outcome is judged by the bytes is decided by them
pub decided : (source sink : Stream) (outcome : Outcome) → IfSome source.before (λ text. IsAuditJudged text outcome)
    → EndsAudit source sink outcome → IsAuditDecided source sink outcome
decided source sink outcome judged ends =
    record {
      judged = judged;
      too_large = λ text told large still. larger source sink text still outcome (at text told) ends large;
      unread = λ text told short none still. no_report source sink text still outcome (at text told) ends short none;
      complete = λ text report sound told short is still well. a_report source sink text still outcome (at text told) ends short report sound is well;
    }
  where
    at : (text : List ℕ) → source.before ≡ Some text → IsAuditJudged text outcome
    at text told = subst (λ (o : Option (List ℕ)). IfSome o (λ t. IsAuditJudged t outcome)) told judged

-- no command is said by the word `audit`
pub not_both : (words : List (String Global)) (command : Command) → Says words command → SaysAudit words → ⊥
not_both words command says audit = let same = one_request words (a_request.Command command) a_request.Audit says audit in absurd (cc)

same_command : (words : List (String Global)) (command own : Command) → Says words command → Says words own → command ≡ own
same_command words command own says also = let same = one_request words (a_request.Command command) (a_request.Command own) says also in cc

-- words that say no command have none to decide
pub none_decided : (words : List (String Global)) (source sink : Stream) (outcome : Outcome)
    → ((command : Command) → Says words command → ⊥) → IsCommandDecided words source sink outcome
none_decided words source sink outcome none =
    record {
      judged = λ command says. absurd (none command says);
      faulty = λ command text wanted says left faulty still. absurd (none command says);
      complete = λ command text says left short taken still well. absurd (none command says);
      wears = λ command text worn a says replays left short is still. absurd (none command says);
    }

-- what is decided by the words of a command is decided by it
pub command_decided :
    (words : List (String Global)) (source sink : Stream) (outcome : Outcome) (command : Command)
    → Says words command
    → IfSome source.before (λ text. IsJudged command text outcome)
    → ((text : List ℕ) (wanted : Outcome) → source.before ≡ Some text → IsFaulty command text wanted
    → (Rose source.faults_before source.faults_after → ⊥)
    → (outcome ≡ wanted) ⊎ (outcome ≡ Memory))
    → ((text : List ℕ) → source.before ≡ Some text → length text ≤ limit → IsTaken command text
    → (Rose source.faults_before source.faults_after → ⊥)
    → (Rose sink.faults_before sink.faults_after → ⊥)
    → (outcome ≡ Fine) ⊎ (outcome ≡ Memory) ⊎ ((a : Actor) × (outcome ≡ Worn a)))
    → ((text : List ℕ) (worn : List (List Entry)) (a : Actor) → Replays command → source.before ≡ Some text → length text ≤ limit → IsWorn text worn a
    → (Rose source.faults_before source.faults_after → ⊥)
    → (outcome ≡ Worn a) ⊎ (outcome ≡ Memory))
    → IsCommandDecided words source sink outcome
command_decided words source sink outcome command says judged faulty complete wears =
    record {
      judged = λ own said. subst (λ (c : Command). IfSome source.before (λ text. IsJudged c text outcome)) (same own said) judged;
      faulty = λ own text wanted said left is still. faulty text wanted left (subst (λ (c : Command). IsFaulty c text wanted) (sym (same own said)) is) still;
      complete = λ own text said left short is still well. complete text left short
          (subst (λ (c : Command). IsTaken c text) (sym (same own said)) is) still well;
      wears = λ own text worn a said replays left short is still. wears text worn a (subst Replays (sym (same own said)) replays) left short is still;
    }
  where
    same : (own : Command) → Says words own → command ≡ own
    same own said = same_command words command own says said

-- how an audit ends whose outcome is told
pub ends_at : (source sink : Stream) (outcome shown wanted : Outcome) → shown ≡ outcome → shown ≡ wanted
    → EndsAudit source sink outcome → EndsAudit source sink wanted
ends_at source sink outcome shown wanted same is ends = subst (λ (o : Outcome). EndsAudit source sink o) (sym same ∙ is) ends
