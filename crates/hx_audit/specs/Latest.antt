-- The changes of a key that began before all later ones, and what a search has to show of them.
use Rattle.std.specs.Prelude.{◌≡◌, ℕ, ◌-◌, ⊤, Bool, true, List, [], ◌∷◌, map, reverse, nat_lt, Option, None, Some}
use Rattle.std.specs.Borrow.{Bor}
use Rattle.std.specs.List.{All, find, list_any}
use Rattle.std.specs.List.Sorted.{IsNonDecreasingBy}
use Rattle.hx_model.specs.Types.{Item}
use Rattle.hx_model.specs.Searching.{FinishedSearch, ItemWithNewer}
use Rattle.hx_report_lines.specs.declared.blocks.Block.{Block}
use Rattle.hx_report_lines.specs.declared.histories.HistoryLines.{HistoryLines}
use Rattle.hx_report_lines.specs.declared.histories.ItemLine.{ItemLine}
use Rattle.hx_audit.specs.declared.latest.LatestChange.{LatestChange}
use Rattle.hx_audit.specs.declared.latest.LatestChanges.{LatestChanges}
use Rattle.hx_audit.specs.declared.verdicts.Clause.{Clause}
use Rattle.hx_audit.specs.declared.verdicts.Clause.TheVariants as clauses
use Rattle.hx_audit.specs.Accounts.{ended_before, last_change}
use Rattle.hx_audit.specs.Moments.{is_late}
use Rattle.hx_audit.specs.Told.{account_of, item_told}
use Rattle.hx_audit.specs.Walking.{IsObjectShown}

-- the change began before a time
abbrev pub is_begun : ℕ → LatestChange → Bool
is_begun time c = nat_lt c.begin time

-- none began later than the one in front of it: whatever the time, none was begun for longer at it than those behind it
abbrev pub Falls : List LatestChange → Type 0
Falls changes = (time : ℕ) → IsNonDecreasingBy (λ (c : LatestChange). time - c.begin) changes

abbrev pub AllFall : List LatestChanges → Type 0
AllFall histories = All (λ (latest : LatestChanges). Falls latest.changes.items) histories

-- the item as a change, if it began so
abbrev pub change_of : Bor ItemLine → Option ℕ → Option ℕ → List LatestChange
change_of item None over = []
change_of item (Some begin) over = record { item = item; begin = begin; over = over } ∷ []

-- the change is of this item, and tells whether that or a newer one ended before a time
pub record IsLatest (b : Block) (c : LatestChange) (w : ItemWithNewer) : Type 0 where
  pub item : item_told b.calls c.item.now ≡ w.item
  pub over : (time : ℕ) → is_late c.over (Some time) ≡ list_any (λ (x : Item). ended_before (account_of b) x.caller time) (w.item ∷ w.newer)

-- there is such a change where there is such an item
abbrev pub AreSame : Block → Option LatestChange → Option ItemWithNewer → Type 0
AreSame b None None = ⊤
AreSame b (Some c) (Some w) = IsLatest b c w
AreSame b None (Some w) = ⊥
AreSame b (Some c) None = ⊥

-- the last change of a history that began before a time is the first of these that did
pub record AreLatestOf (b : Block) (h : HistoryLines) (changes : List LatestChange) : Type 0 where
  pub falls : Falls changes
  pub last : (time : ℕ) → AreSame b (find (is_begun time) changes) (last_change (account_of b) time [] (reverse (map (item_told b.calls) h.items)))

abbrev pub IsLatestIn : Block → LatestChanges → Type 0
IsLatestIn b latest = AreLatestOf b latest.history.now latest.changes.items

-- so it is in each history
pub record AreLatest (b : Block) (histories : List LatestChanges) : Type 0 where
  pub histories_are : map (λ (latest : LatestChanges). latest.history.now) histories ≡ b.histories
  pub each : All (IsLatestIn b) histories

-- the change is shown, if there is one and it or a newer item of its history ended before the search began
abbrev pub IsLatestShown : FinishedSearch → List ℕ → Option LatestChange → Type 0
IsLatestShown s key None = ⊤
IsLatestShown s key (Some c) = is_late c.over (Some s.begin) ≡ true → IsObjectShown s key c.item.now.version c.item.now.object

-- so the first change is that began before the search ended
abbrev pub ShowsLatest : FinishedSearch → LatestChanges → Type 0
ShowsLatest s latest = IsLatestShown s latest.history.now.key (find (is_begun s.end) latest.changes.items)

-- what the clause asks for was noted of the block
abbrev pub AreLatestFor : Clause → Block → List LatestChanges → Type 0
AreLatestFor clauses.Whole b histories = AreLatest b histories
AreLatestFor other b histories = ⊤
