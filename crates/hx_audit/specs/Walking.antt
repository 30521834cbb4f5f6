-- What the functions of the audit find on their way: the place of a caller's call, and the first line at which a clause isn't kept.
use Rattle.std.specs.Prelude.{◌≡◌, ℕ, suc, ◌+◌, ◌<◌, ◌⊎◌, Bool, true, ◌&&◌, ⊤, List, [], ◌∷◌, map, reverse, if◌then◌else◌, Option, None, Some}
use Rattle.std.specs.List.{list_any}
use Rattle.std.specs.Option.{option_map}
use Rattle.hx_model.specs.Types.{Caller, Item, Row, Value, Version}
use Rattle.hx_model.specs.Matching.{matches}
use Rattle.hx_types.specs.Words.{IsIn, text_below}
use Rattle.hx_model.specs.Searching.{FinishedSearch, ItemWithNewer, changes_object, items_with_newer}
use Rattle.hx_report_lines.specs.declared.blocks.Block.{Block}
use Rattle.hx_report_lines.specs.declared.calls.CallLine.{CallLine}
use Rattle.hx_report_lines.specs.declared.histories.HistoryLines.{HistoryLines}
use Rattle.hx_report_lines.specs.declared.histories.ItemLine.{ItemLine}
use Rattle.hx_report_lines.specs.Values.{Ascends, caller_below}
use Rattle.hx_audit.specs.declared.verdicts.Clause.{Clause}
use Rattle.hx_audit.specs.Accounts.{Account, IsChangeShownBy, began_before, ended_before, last_change, no_change_before}
use Rattle.hx_audit.specs.Told.{account_of, item_told, same_caller}
use Rattle.hx_audit.specs.Verdicts.{KeepsInPiece, Placed}

-- calls ascend by caller
abbrev pub CallsAscend : List CallLine → Type 0
CallsAscend calls = Ascends caller_below (map (λ (l : CallLine). l.caller) calls)

-- the place of the first that passes a test, from 0
abbrev pub place_where : {A : Type 0} → (A → Bool) → List A → Option ℕ
place_where test [] = None
place_where test (x ∷ rest) = if test x then Some 0 else option_map (λ n. suc n) (place_where test rest)

-- the place of a caller's call
abbrev pub place_at : List CallLine → Caller → Option ℕ
place_at calls c = place_where (λ (l : CallLine). same_caller l.caller c) calls

-- the first place at which something isn't so, if there is one
abbrev pub IsFirstNot : (ℕ → Type 0) → Option ℕ → Type 0
IsFirstNot P None = (place : ℕ) → P place
IsFirstNot P (Some place) = (¬ P place) × ((k : ℕ) → k < place → P k)

-- the first line of a piece at which the clause is broken
pub record IsFirstIn (clause : Clause) (p : Placed) (r : Option ℕ) : Type 0 where
  pub place : ℕ
  pub line : r ≡ Some (p.line + place)
  pub broken : ¬ KeepsInPiece clause p.block p.piece place
  pub before : (k : ℕ) → k < place → KeepsInPiece clause p.block p.piece k

-- the first line of these pieces at which the clause is broken, if there is one
abbrev pub IsFirstOf : Clause → List Placed → Option ℕ → Type 0
IsFirstOf clause [] r = r ≡ None
IsFirstOf clause (p ∷ rest) r =
    (((place : ℕ) → KeepsInPiece clause p.block p.piece place) × IsFirstOf clause rest r) ⊎ IsFirstIn clause p r

-- histories ascend by key
abbrev pub HistoriesAscend : List HistoryLines → Type 0
HistoriesAscend histories = Ascends text_below (map (λ (h : HistoryLines). h.key) histories)

-- calls ascend by caller, and histories by key
pub record IsOrdered (b : Block) : Type 0 where
  pub calls : CallsAscend b.calls
  pub histories : HistoriesAscend b.histories

-- something of which P holds stands in the list
pub record HasIn {A : Type 0} (P : A → Type 0) (xs : List A) : Type 0 where
  pub item : A
  pub stands : IsIn item xs
  pub is : P item

-- the last change in the history of a key, where it has to be shown, is shown
abbrev pub IsShownAt : Block → FinishedSearch → HistoryLines → Type 0
IsShownAt b s h = IsChangeShownBy (account_of b) s h.key (last_change (account_of b) s.end [] (reverse (map (item_told b.calls) h.items)))

-- the same in each of these histories
abbrev pub AllShown : Block → FinishedSearch → List HistoryLines → Type 0
AllShown b s histories = (h : HistoryLines) → IsIn h histories → IsShownAt b s h

abbrev pub row_with : List ℕ → Version → List Value → Row
row_with key version object = record { key = key; version = version; object = object }

-- an object of this version is among the rows, if it matches
abbrev pub IsObjectShown : FinishedSearch → List ℕ → Version → Option (List Value) → Type 0
IsObjectShown s key version None = ⊤
IsObjectShown s key version (Some object) = matches s.terms key object ≡ true → IsIn (row_with key version object) s.rows

-- the item is the change that a row shows, and began before the search ended
pub record IsChangeOf (b : Block) (s : FinishedSearch) (r : Row) (x : ItemLine) : Type 0 where
  pub changes : changes_object (item_told b.calls x) ≡ true
  pub version : x.version ≡ r.version
  pub object : x.object ≡ Some r.object
  pub began : began_before (account_of b) x.caller s.end ≡ true

-- a changing item that has the row's version and object, began in time and wasn't followed by a change that ended before the search began
pub record IsCutOf (account : Account) (s : FinishedSearch) (r : Row) (cut : ItemWithNewer) : Type 0 where
  pub changes : changes_object cut.item ≡ true
  pub version : cut.item.version ≡ r.version
  pub object : cut.item.object ≡ Some r.object
  pub began : began_before account cut.item.caller s.end ≡ true
  pub newest : no_change_before account s.begin cut.newer ≡ true

-- such an item stands in a history, which has these newer items
pub record HasCut (account : Account) (s : FinishedSearch) (r : Row) (newer items : List Item) : Type 0 where
  pub cut : ItemWithNewer
  pub stands : IsIn cut (items_with_newer newer items)
  pub is : IsCutOf account s r cut

-- a walk down a history, newest first: what is left of it decides, and whether a change above ended before the search began
pub record IsCutFrom (b : Block) (s : FinishedSearch) (r : Row) (items rest : List ItemLine) (over : Bool) : Type 0 where
  pub newer : List Item
  pub over_is : over ≡ list_any (λ (x : Item). changes_object x && ended_before (account_of b) x.caller s.begin) newer
  pub into : HasCut (account_of b) s r newer (reverse (map (item_told b.calls) rest)) → HasCut (account_of b) s r [] (reverse (map (item_told b.calls) items))
  pub back : HasCut (account_of b) s r [] (reverse (map (item_told b.calls) items)) → HasCut (account_of b) s r newer (reverse (map (item_told b.calls) rest))
