-- What an audit makes of a text.
use Rattle.std.specs.Prelude.{◌≡◌, ℕ, ◌<◌, ◌≤◌, List, length, codes, ⊤}
use Rattle.hx_audit.specs.declared.verdicts.Verdict.{Verdict}
use Rattle.hx_audit.specs.declared.verdicts.Verdict.TheVariants.{Yes, No}
use Rattle.hx_audit.specs.Verdicts.{IsVerdict}
use Rattle.hx_report_lines.specs.declared.errors.AuditError.{AuditError}
use Rattle.hx_report_lines.specs.declared.errors.AuditError.TheVariants as an_audit_error
use Rattle.hx_report_lines.specs.Printed.{text_of}
use Rattle.hx_report_lines.specs.Unread.{IsUnreadAt}
use Rattle.hx_report_lines.specs.Values.{IsReportValue, ReportValue}
use Rattle.hx_script.specs.declared.errors.Reason.TheVariants as a_reason
use Rattle.hx_replay.specs.Causes.{limit}
use Rattle.hx_replay.specs.declared.outcomes.Outcome.{Outcome}
use Rattle.hx_replay.specs.declared.outcomes.Outcome.TheVariants as an_outcome

abbrev pub outcome_of_audit : AuditError → Outcome
outcome_of_audit an_audit_error.Memory = an_outcome.Memory
outcome_of_audit (an_audit_error.Unread line) = an_outcome.Refused line a_reason.Order

-- what is written where no clause is broken
abbrev pub yes_line : List ℕ
yes_line = codes "audit yes\n"

-- the text is that of a report, and this the verdict on it
pub record IsAudited (text : List ℕ) (verdict : Verdict) : Type 0 where
  pub report : ReportValue
  pub sound : IsReportValue report
  pub text_is : text_of report ≡ text
  pub verdict_is : IsVerdict report verdict

-- the text is that of no report, and this the first line with which none begins; the reason is always the same
abbrev pub IsNoReport : List ℕ → Outcome → Type 0
IsNoReport text an_outcome.Fine = ⊥
IsNoReport text an_outcome.Usage = ⊥
IsNoReport text (an_outcome.Refused line reason) = (reason ≡ a_reason.Order) × IsUnreadAt text line
IsNoReport text an_outcome.TooLarge = ⊥
IsNoReport text an_outcome.ReadFault = ⊥
IsNoReport text an_outcome.WriteFault = ⊥
IsNoReport text an_outcome.Memory = ⊤
IsNoReport text (an_outcome.Worn a) = ⊥
IsNoReport text (an_outcome.Wrong line clause) = ⊥

-- what a source that tells its bytes says of each outcome of an audit
abbrev pub IsAuditJudged : List ℕ → Outcome → Type 0
IsAuditJudged text an_outcome.Fine = (length text ≤ limit) × IsAudited text Yes
IsAuditJudged text an_outcome.Usage = ⊥
IsAuditJudged text (an_outcome.Refused line reason) = (length text ≤ limit) × (reason ≡ a_reason.Order) × IsUnreadAt text line
IsAuditJudged text an_outcome.TooLarge = limit < length text
IsAuditJudged text an_outcome.ReadFault = ⊤
IsAuditJudged text an_outcome.WriteFault = (length text ≤ limit) × IsAudited text Yes
IsAuditJudged text an_outcome.Memory = ⊤
IsAuditJudged text (an_outcome.Worn a) = ⊥
IsAuditJudged text (an_outcome.Wrong line clause) = (length text ≤ limit) × IsAudited text (No line clause)
