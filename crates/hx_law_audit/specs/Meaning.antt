-- What a verdict says of a report.
use Rattle.std.specs.Prelude.{◌≡◌, ℕ, ◌≤◌, ◌↔◌, List, Some}
use Rattle.std.specs.Option.{option_map}
use Rattle.hx_model.specs.Types.{Entry, Item, Script}
use Rattle.hx_types.specs.Fitting.{call_of}
use Rattle.hx_types.specs.Words.{IsIn}
use Rattle.hx_model.specs.Histories.{CallEnd, begin_of, end_of, history_of}
use Rattle.hx_model.specs.Linear.{IsLinear}
use Rattle.hx_model.specs.Searching.{FinishedSearch, IsSearchTrue, IsSearchWhole}
use Rattle.hx_law_order.specs.Order.{IsOneOrder, Keyed, Times}
use Rattle.hx_report_lines.specs.declared.blocks.Block.{Block}
use Rattle.hx_report_lines.specs.declared.calls.CallLine.{CallLine}
use Rattle.hx_report_lines.specs.Values.{IsReportValue, ReportValue}
use Rattle.hx_audit.specs.declared.verdicts.Verdict.{Verdict}
use Rattle.hx_audit.specs.declared.verdicts.Verdict.TheVariants as verdicts
use Rattle.hx_audit.specs.Accounts.{Account, IsLinearBy, IsSearchTrueBy, IsSearchWholeBy}
use Rattle.hx_audit.specs.Told.{account_of, search_told}
use Rattle.hx_audit.specs.Verdicts.{IsVerdict}

-- two verdicts on one report are equal
abbrev pub VerdictsAreUnique : Type 0
VerdictsAreUnique = (r : ReportValue) (v w : Verdict) → IsVerdict r v → IsVerdict r w → v ≡ w

-- by what a block tells, each key's history is linear, and each finished search is whole and true
pub record IsConsistent (b : Block) : Type 0 where
  pub linear : (key : List ℕ) → IsLinearBy (account_of b) b.space key
  pub whole : (l : CallLine) (s : FinishedSearch) → IsIn l b.calls → search_told l ≡ Some s → (key : List ℕ) → IsSearchWholeBy (account_of b) key s
  pub true_rows : (l : CallLine) (s : FinishedSearch) → IsIn l b.calls → search_told l ≡ Some s → IsSearchTrueBy (account_of b) s

-- the verdict is yes exactly where each block is consistent
abbrev pub YesMeansLinear : Type 0
YesMeansLinear = (r : ReportValue) → IsReportValue r → IsVerdict r verdicts.Yes ↔ ((b : Block) → IsIn b r.blocks → IsConsistent b)

-- when the calls of items began and ended, as a block tells it
abbrev pub times_told : Block → Times Item
times_told b =
    record {
      begin = λ (x : Item). (account_of b).begin_of x.caller;
      end = λ (x : Item). option_map (λ (e : CallEnd). e.entry) ((account_of b).end_of x.caller);
    }

-- no call of the block ended before it began
abbrev pub EndsFollow : Block → Type 0
EndsFollow b = (l : CallLine) (n : ℕ) → IsIn l b.calls → l.end ≡ Some n → l.begin ≤ n

-- where the verdict is yes, and no call ended before it began, the items of all keys of a block have one order
abbrev pub YesMeansOneOrder : Type 0
YesMeansOneOrder =
    (r : ReportValue) → IsReportValue r → IsVerdict r verdicts.Yes → (b : Block) → IsIn b r.blocks → EndsFollow b
    → (order : List (Keyed Item)) × IsOneOrder (times_told b) (λ key. (account_of b).history_of key) order

-- what a run of a script tells of calls and histories
abbrev pub run_account : Script → List Entry → Account
run_account script trace =
    record {
      op_of = call_of script;
      begin_of = λ c. begin_of c trace;
      end_of = λ c. end_of c trace;
      history_of = λ key. history_of script key trace;
    }

-- by what a run tells, linear histories are linear, and the same searches are whole and true
pub record Agrees (script : Script) (trace : List Entry) : Type 0 where
  pub linear : (key : List ℕ) → IsLinear script trace key → IsLinearBy (run_account script trace) script.space key
  pub whole : (key : List ℕ) (s : FinishedSearch) → IsSearchWhole script trace key s ↔ IsSearchWholeBy (run_account script trace) key s
  pub true_search : (s : FinishedSearch) → IsSearchTrue script trace s ↔ IsSearchTrueBy (run_account script trace) s

abbrev pub AccountsAgree : Type 0
AccountsAgree = (script : Script) (trace : List Entry) → Agrees script trace
