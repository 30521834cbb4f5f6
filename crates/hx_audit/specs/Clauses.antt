-- What each clause asks for at the lines of a report: at an item of a history, at a call, and at a row below it.
use Rattle.std.specs.Prelude.{◌≡◌, ℕ, zero, suc, Bool, true, false, not, ◌&&◌, List, map, reverse, take, slice_get, IfSome, ⊤, Option, None, Some}
use Rattle.std.specs.List.{list_any}
use Rattle.hx_model.specs.Types.{Answer, Caller, Op, Row}
use Rattle.hx_types.specs.Words.{IsIn, same_text, text_below, when_some}
use Rattle.hx_types.specs.Effects.{key_of}
use Rattle.hx_types.specs.Fitting.{is_refused}
use Rattle.hx_model.specs.Histories.{CallEnd}
use Rattle.hx_model.specs.Legal.{IsEffect, object_now}
use Rattle.hx_model.specs.Searching.{FinishedSearch}
use Rattle.hx_report_lines.specs.declared.blocks.Block.{Block}
use Rattle.hx_report_lines.specs.declared.calls.CallLine.{CallLine}
use Rattle.hx_report_lines.specs.declared.histories.HistoryLines.{HistoryLines}
use Rattle.hx_report_lines.specs.declared.histories.ItemLine.{ItemLine}
use Rattle.hx_audit.specs.declared.verdicts.Clause.{Clause}
use Rattle.hx_audit.specs.declared.verdicts.Clause.TheVariants as clauses
use Rattle.hx_audit.specs.Accounts.{Account, IsSearchWholeBy, IsTrueRowBy, ended_before}
use Rattle.hx_audit.specs.Told.{account_of, answer_told, call_at, end_told, item_told, items_at, same_caller, search_told}

-- the operation is on the key
abbrev pub is_on : List ℕ → Op → Bool
is_on key op = when_some (key_of op) false (λ k. same_text k key)

-- the call was answered Refused
abbrev pub is_refused_call : CallLine → Bool
is_refused_call l = when_some l.answer false is_refused

-- the item's caller has a call on the key, which wasn't refused, and doesn't stand above it
abbrev pub is_known : List CallLine → List ℕ → List ItemLine → ItemLine → Bool
is_known calls key above x =
    when_some (call_at calls x.caller) false (λ (l : CallLine). is_on key l.op && not (is_refused_call l))
    && not (list_any (λ (y : ItemLine). same_caller y.caller x.caller) above)

-- the caller's call ended before the other's began
abbrev pub ended_before_begin : Account → Caller → Caller → Bool
ended_before_begin account x y = when_some (account.begin_of y) false (ended_before account x)

-- no item above it is of a call that began after this item's had ended
abbrev pub is_in_time : Account → List ItemLine → ItemLine → Bool
is_in_time account above x = not (list_any (λ (y : ItemLine). ended_before_begin account x.caller y.caller) above)

abbrev pub IsKnown : Block → HistoryLines → ℕ → Type 0
IsKnown b h place = IfSome (slice_get h.items place) (λ (x : ItemLine). is_known b.calls h.key (take place h.items) x ≡ true)

-- the item is the effect of its call's operation on the object after the item above it
abbrev pub IsEffectOfCall : Block → HistoryLines → ℕ → Type 0
IsEffectOfCall b h place =
    let items = map (item_told b.calls) h.items in
    IfSome (slice_get items place) (IsEffect b.space (object_now (reverse (take place items))))

abbrev pub IsInTime : Block → HistoryLines → ℕ → Type 0
IsInTime b h place = IfSome (slice_get h.items place) (λ (x : ItemLine). is_in_time (account_of b) (take place h.items) x ≡ true)

-- an item of the caller with this answer stands in the history of the key
pub record IsItemOfCall (b : Block) (key : List ℕ) (c : Caller) (answer : Answer) : Type 0 where
  pub item : ItemLine
  pub stands : IsIn item (items_at b.histories key)
  pub of_caller : item.caller ≡ c
  pub answered : answer_told item.word item.object ≡ answer

-- a call on a key that ended and wasn't refused has its item
abbrev pub HasItem : Block → CallLine → Type 0
HasItem b l = (key : List ℕ) (e : CallEnd) → key_of l.op ≡ Some key → end_told l ≡ Some e → is_refused e.answer ≡ false → IsItemOfCall b key l.caller e.answer

-- a finished search is whole at every key
abbrev pub IsWhole : Block → CallLine → Type 0
IsWhole b l = (key : List ℕ) (s : FinishedSearch) → search_told l ≡ Some s → IsSearchWholeBy (account_of b) key s

-- the row above a row
abbrev pub row_above : List Row → ℕ → Option Row
row_above rows zero = None
row_above rows (suc place) = slice_get rows place

-- the key stands above that of a row, if there is one
abbrev pub is_above : Option Row → List ℕ → Bool
is_above above key = when_some above true (λ (r : Row). text_below r.key key)

-- the row is true of the search, and its key above that of the row above
pub record IsRowOf (account : Account) (s : FinishedSearch) (above : Option Row) (r : Row) : Type 0 where
  pub true_row : IsTrueRowBy account s r
  pub in_order : is_above above r.key ≡ true

abbrev pub IsTrueAt : Block → CallLine → ℕ → Type 0
IsTrueAt b l place = (s : FinishedSearch) → search_told l ≡ Some s → IfSome (slice_get s.rows place) (IsRowOf (account_of b) s (row_above s.rows place))

-- a condition on the first of the lines of a call, or on those after it
abbrev pub AtFirst : Type 0 → ℕ → Type 0
AtFirst P zero = P
AtFirst P (suc place) = ⊤

abbrev pub AfterFirst : (ℕ → Type 0) → ℕ → Type 0
AfterFirst P zero = ⊤
AfterFirst P (suc place) = P place

-- the clause is kept at this one of the lines of a history, the first of which tells its key
abbrev pub KeepsInHistory : Clause → Block → HistoryLines → ℕ → Type 0
KeepsInHistory clauses.Foreign b h place = AfterFirst (IsKnown b h) place
KeepsInHistory clauses.Legal b h place = AfterFirst (IsEffectOfCall b h) place
KeepsInHistory clauses.Missing b h place = ⊤
KeepsInHistory clauses.Order b h place = AfterFirst (IsInTime b h) place
KeepsInHistory clauses.Whole b h place = ⊤
KeepsInHistory clauses.True b h place = ⊤

-- the clause is kept at this one of the lines of a call, the first of which is its own and the others its rows
abbrev pub KeepsInCall : Clause → Block → CallLine → ℕ → Type 0
KeepsInCall clauses.Foreign b l place = ⊤
KeepsInCall clauses.Legal b l place = ⊤
KeepsInCall clauses.Missing b l place = AtFirst (HasItem b l) place
KeepsInCall clauses.Order b l place = ⊤
KeepsInCall clauses.Whole b l place = AtFirst (IsWhole b l) place
KeepsInCall clauses.True b l place = AfterFirst (IsTrueAt b l) place
