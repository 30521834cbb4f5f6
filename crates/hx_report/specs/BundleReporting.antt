-- The text of a report of several spaces: for each in turn the lines that a report of it alone has between its first and its last; traces stand newest first.
use Rattle.std.specs.Prelude.{◌≡◌, ℕ, Bool, List, ◌++◌, codes, map}
use Rattle.std.specs.List.{All, flat_map}
use Rattle.hx_bundle.specs.declared.bundles.Bundle.{Bundle}
use Rattle.hx_model.specs.Types.{Entry, Script, Totals}
use Rattle.hx_model.specs.Histories.{records_of}
use Rattle.hx_print.specs.Printing.{space_text}
use Rattle.hx_history.specs.declared.key_histories.KeyHistory.{KeyHistory}
use Rattle.hx_history.specs.Listed.{AreHistories}
use Rattle.hx_report.specs.Driving.{drivers_text}
use Rattle.hx_report.specs.Reporting.{epochs_text, history_lines, record_lines}
use Rattle.hx_report.specs.Tracing.{trace_text}

-- the lines of a space: its own, those of the begun calls, of the histories, of the epochs, of the trace where they are wanted, and of the drivers
unfoldable pub block_text : Script → List Entry → List KeyHistory → List Totals → Bool → List ℕ
block_text script trace listed totals with_trace =
    space_text script.space
    ++ flat_map (record_lines script) (records_of script trace)
    ++ flat_map (history_lines script.space) listed
    ++ epochs_text script trace
    ++ trace_text with_trace trace
    ++ drivers_text 1 totals

-- the lines of a space were appended, with all histories of its trace
pub record AddsBlock (script : Script) (trace : List Entry) (totals : List Totals) (with_trace : Bool) (out more : List ℕ) : Type 0 where
  pub listed : List KeyHistory
  pub histories : AreHistories script trace listed
  pub text : more ≡ out ++ block_text script trace listed totals with_trace

-- what a report says of a space
pub record SpaceReport : Type 0 where
  pub script : Script
  pub trace : List Entry
  pub listed : List KeyHistory
  pub totals : List Totals

abbrev pub space_report_text : Bool → SpaceReport → List ℕ
space_report_text with_trace r = block_text r.script r.trace r.listed r.totals with_trace

-- a report for each of these scripts in order, with its trace, all histories of this, and its drivers
pub record AreReported (scripts : List Script) (traces : List (List Entry)) (totals : List (List Totals)) (spaces : List SpaceReport) : Type 0 where
  pub scripts_are : map (λ (r : SpaceReport). r.script) spaces ≡ scripts
  pub traces_are : map (λ (r : SpaceReport). r.trace) spaces ≡ traces
  pub totals_are : map (λ (r : SpaceReport). r.totals) spaces ≡ totals
  pub histories : All (λ (r : SpaceReport). AreHistories r.script r.trace r.listed) spaces

-- the lines of several spaces were appended, one space after the other
pub record AddsBlocks (scripts : List Script) (traces : List (List Entry)) (totals : List (List Totals)) (with_trace : Bool) (out more : List ℕ) : Type 0 where
  pub spaces : List SpaceReport
  pub reported : AreReported scripts traces totals spaces
  pub text : more ≡ out ++ flat_map (space_report_text with_trace) spaces

-- the report of these spaces
unfoldable pub bundle_report_text : Bool → List SpaceReport → List ℕ
bundle_report_text with_trace spaces = codes "report 2\n" ++ flat_map (space_report_text with_trace) spaces ++ codes "end\n"

-- the bytes are the report of the spaces of a bundle, each with its trace, all histories of this, and its drivers
pub record IsBundleReport (bundle : Bundle) (traces : List (List Entry)) (totals : List (List Totals)) (bytes : List ℕ) (with_trace : Bool) : Type 0 where
  pub spaces : List SpaceReport
  pub reported : AreReported bundle.spaces traces totals spaces
  pub text : bytes ≡ bundle_report_text with_trace spaces
