-- Linear histories and searches that are whole and true, said of any account of calls and
-- histories, as the model says them of a run; histories stand newest first.
use Rattle.std.specs.Prelude.{◌≡◌, ◌≢◌, ℕ, Bool, true, false, not, ◌&&◌, List, [], ◌∷◌, map, if◌then◌else◌, nat_lt, IsSome, ⊤, Option, None, Some}
use Rattle.std.specs.List.{list_any}
use Rattle.hx_model.specs.Types.{Answer, Caller, Item, Op, Row, Space, Version}
use Rattle.hx_types.specs.Words.{IsIn, when_some}
use Rattle.hx_types.specs.Effects.{key_of}
use Rattle.hx_types.specs.Fitting.{is_refused}
use Rattle.hx_types.specs.Posts.{keys_ascend}
use Rattle.hx_model.specs.Histories.{CallEnd}
use Rattle.hx_model.specs.Legal.{IsLegal}
use Rattle.hx_model.specs.Linear.{EachOnce, StandsBefore}
use Rattle.hx_model.specs.Matching.{matches}
use Rattle.hx_model.specs.Searching.{FinishedSearch, IsShown, ItemWithNewer, changes_object, items_with_newer}

-- what the definitions need to know of calls and histories, wherever these stand
pub record Account : Type 0 where
  pub op_of : Caller → Option Op
  pub begin_of : Caller → Option ℕ
  pub end_of : Caller → Option CallEnd
  pub history_of : List ℕ → List Item

-- the call ended before a time
abbrev pub ended_before : Account → Caller → ℕ → Bool
ended_before account c n = when_some (account.end_of c) false (λ (e : CallEnd). nat_lt e.entry n)

-- the call began before a time
abbrev pub began_before : Account → Caller → ℕ → Bool
began_before account c n = when_some (account.begin_of c) false (λ m. nat_lt m n)

-- the call was answered Refused
abbrev pub was_refused : Account → Caller → Bool
was_refused account c = when_some (account.end_of c) false (λ (e : CallEnd). is_refused e.answer)

-- the call is begun, with this operation, on the key and not refused
pub record IsCallBy (account : Account) (key : List ℕ) (x : Item) : Type 0 where
  pub begun : IsSome (account.begin_of x.caller)
  pub called : account.op_of x.caller ≡ Some x.op
  pub on_key : key_of x.op ≡ Some key
  pub not_refused : was_refused account x.caller ≡ false

-- each item is a begun call on the key, not refused, and stands once
pub record IsHonestBy (account : Account) (key : List ℕ) : Type 0 where
  pub calls : (x : Item) → IsIn x (account.history_of key) → IsCallBy account key x
  pub once : EachOnce (account.history_of key)

-- the call ended on the key with this answer, and wasn't refused
pub record IsAnsweredBy (account : Account) (key : List ℕ) (c : Caller) (answer : Answer) : Type 0 where
  pub op : Op
  pub called : account.op_of c ≡ Some op
  pub on_key : key_of op ≡ Some key
  pub entry : ℕ
  pub version : Version
  pub ended : account.end_of c ≡ Some (record { entry = entry; version = version; answer = answer })
  pub not_refused : is_refused answer ≡ false

-- the history is legal, has each answered call once with its answer, holds nothing but begun calls,
-- each at most once, and keeps the order of calls that ended before others began: linearizability
-- of one object. An account may tell that a call ended before it began, so the order is one of
-- different calls
pub record IsLinearBy (account : Account) (space : Space) (key : List ℕ) : Type 0 where
  pub legal : IsLegal space (account.history_of key)
  pub answered_once : (c : Caller) (answer : Answer) → IsAnsweredBy account key c answer → (x : Item)
      × IsIn x (account.history_of key) × (x.caller ≡ c) × (x.answer ≡ answer)
  pub honest : IsHonestBy account key
  pub in_order : (x y : Item) (n : ℕ) → IsIn x (account.history_of key) → IsIn y (account.history_of key)
      → x.caller ≢ y.caller → account.begin_of y.caller ≡ Some n → ended_before account x.caller n ≡ true
      → StandsBefore x y (account.history_of key)

-- the last changing item whose call began before a time
abbrev pub last_change : Account → ℕ → List Item → List Item → Option ItemWithNewer
last_change account n newer [] = None
last_change account n newer (x ∷ older) =
    let further = last_change account n (x ∷ newer) older in
    if changes_object x && began_before account x.caller n then Some (record { item = x; newer = newer }) else further

-- the item's object is shown, where it or an item after it ended before the search began
abbrev pub IsChangeShownBy : Account → FinishedSearch → List ℕ → Option ItemWithNewer → Type 0
IsChangeShownBy account s key None = ⊤
IsChangeShownBy account s key (Some c) =
    list_any (λ (x : Item). ended_before account x.caller s.begin) (c.item ∷ c.newer) ≡ true → IsShown s key c.item c.item.object

-- the last change that began before the search ended is shown, where it or a later item ended before the search began
abbrev pub IsSearchWholeBy : Account → List ℕ → FinishedSearch → Type 0
IsSearchWholeBy account key s = IsChangeShownBy account s key (last_change account s.end [] (account.history_of key))

-- no later changing item ended before a time
abbrev pub no_change_before : Account → ℕ → List Item → Bool
no_change_before account n newer = not (list_any (λ (x : Item). changes_object x && ended_before account x.caller n) newer)

-- the row is a changing item of its key that matches, began before the search ended, and wasn't followed by a change that ended before it began
pub record IsTrueRowBy (account : Account) (s : FinishedSearch) (r : Row) : Type 0 where
  pub cut : ItemWithNewer
  pub stands : IsIn cut (items_with_newer [] (account.history_of r.key))
  pub changes : changes_object cut.item ≡ true
  pub version : cut.item.version ≡ r.version
  pub object : cut.item.object ≡ Some r.object
  pub match : matches s.terms r.key r.object ≡ true
  pub began : began_before account cut.item.caller s.end ≡ true
  pub newest : no_change_before account s.begin cut.newer ≡ true

-- each row is true, and rows stand in byte order of keys, each key once
pub record IsSearchTrueBy (account : Account) (s : FinishedSearch) : Type 0 where
  pub rows : (r : Row) → IsIn r s.rows → IsTrueRowBy account s r
  pub in_order : keys_ascend (map (λ (r : Row). r.key) s.rows) ≡ true
