-- Where a text is refused, and what stands before that line.
use Rattle.std.specs.Prelude.{◌≡◌, ◌≢◌, ℕ, ◌+◌, ◌-◌, ◌≤◌, ◌⊎◌, List, ◌++◌, length, take}
use Rattle.hx_script.specs.Texts.{lines_of}
use Rattle.hx_report_lines.specs.Printed.{text_of}
use Rattle.hx_report_lines.specs.Values.{IsReportValue, ReportValue}

-- the lines of a report, one by one, without their newlines
abbrev pub report_lines : ReportValue → List (List ℕ)
report_lines r = lines_of (text_of r)

-- some report begins with these lines
abbrev pub Begins : List (List ℕ) → Type 0
Begins lines = (r : ReportValue) × IsReportValue r × ((rest : List (List ℕ)) × (report_lines r ≡ lines ++ rest))

-- No report has the text, and the line, from 1, is the first at which the lines so far begin no report's text, or the one
-- after the last. So a last piece without its newline is a line: where that makes it a whole line of a report, the one after it
-- is meant.
pub record IsUnreadAt (text : List ℕ) (line : ℕ) : Type 0 where
  pub no_report : (report : ReportValue) → IsReportValue report → text_of report ≢ text
  pub within : (1 ≤ line) × (line ≤ length (lines_of text) + 1)
  pub before : Begins (take (line - 1) (lines_of text))
  pub first : ((line ≤ length (lines_of text)) × ¬ Begins (take line (lines_of text))) ⊎ (line ≡ length (lines_of text) + 1)
