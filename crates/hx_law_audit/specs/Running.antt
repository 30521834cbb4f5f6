-- What the report of a run is: a report's text that breaks nothing.
use Rattle.std.specs.Prelude.{◌≡◌, ℕ, ◌+◌, ◌<◌, ◌^◌, Bool, List, length}
use Rattle.std.specs.List.{All}
use Rattle.hx_model.specs.Types.{Entry, Script, Totals}
use Rattle.hx_types.specs.Fitting.{IsScript}
use Rattle.hx_model.specs.Runs.{IsRun}
use Rattle.hx_law_texts.specs.Sayable.{IsSayableScript}
use Rattle.hx_report.specs.Reporting.{IsReport}
use Rattle.hx_report_lines.specs.Printed.{text_of}
use Rattle.hx_report_lines.specs.Values.{Is64, IsReportValue, ReportValue}
use Rattle.hx_audit.specs.declared.verdicts.Verdict.TheVariants as verdicts
use Rattle.hx_audit.specs.Verdicts.{IsVerdict}

-- numbers of 64 bits, of so many drivers as a number of 32 bits counts
pub record TotalsAreSayable (totals : List Totals) : Type 0 where
  pub few : length totals + 1 < 2 ^ 32
  pub posts : All (λ (t : Totals). Is64 t.posts) totals
  pub deliver : All (λ (t : Totals). Is64 t.deliver) totals
  pub lose : All (λ (t : Totals). Is64 t.lose) totals
  pub twice : All (λ (t : Totals). Is64 t.twice) totals

-- the text is that of a report, on which the verdict is yes
pub record BreaksNothing (bytes : List ℕ) : Type 0 where
  pub report : ReportValue
  pub valid : IsReportValue report
  pub text : text_of report ≡ bytes
  pub verdict : IsVerdict report verdicts.Yes

-- the report of a run of a valid script that the language can say breaks nothing, with and without
-- the lines of its trace, where its entries are numbered with 64 bits
abbrev pub RunsBreakNothing : Type 0
RunsBreakNothing =
    (script : Script) → IsScript script → IsSayableScript script
    → (trace : List Entry) → IsRun script trace → length trace + 1 < 2 ^ 64
    → (totals : List Totals) → TotalsAreSayable totals
    → (bytes : List ℕ) (with_trace : Bool) → IsReport script trace totals bytes with_trace
    → BreaksNothing bytes
