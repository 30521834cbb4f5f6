-- The histories of all keys of a trace that have items; traces and the histories of the model stand newest first.
use Rattle.std.specs.Prelude.{◌≡◌, ◌≢◌, ℕ, true, List, [], ◌∷◌, map, reverse}
use Rattle.std.specs.List.{All}
use Rattle.hx_model.specs.Types.{Entry, Item, Script}
use Rattle.hx_types.specs.Words.{IsIn}
use Rattle.hx_types.specs.Posts.{keys_ascend}
use Rattle.hx_model.specs.Histories.{history_of}
use Rattle.hx_history.specs.declared.key_histories.KeyHistory.{KeyHistory}
use Rattle.hx_history.specs.declared.key_histories.KeyItems.{KeyItems}
use Rattle.hx_history.specs.Events.{item_view}

abbrev pub keys_of_histories : List KeyHistory → List (List ℕ)
keys_of_histories listed = map (λ (h : KeyHistory). h.key) listed

-- the key's history, the oldest item first, which has items
pub record IsHistory (script : Script) (trace : List Entry) (h : KeyHistory) : Type 0 where
  pub items : h.items ≡ reverse (history_of script h.key trace)
  pub some : h.items ≢ []

-- each key that has a history with items, once, in byte order
pub record AreHistories (script : Script) (trace : List Entry) (listed : List KeyHistory) : Type 0 where
  pub ascending : keys_ascend (keys_of_histories listed) ≡ true
  pub each : All (IsHistory script trace) listed
  pub every : (key : List ℕ) → history_of script key trace ≢ [] → IsIn key (keys_of_histories listed)

-- the history of a key in a list, unless it has no item
abbrev pub listed_of : List ℕ → List Item → List KeyHistory
listed_of key [] = []
listed_of key (x ∷ items) = record { key = key; items = x ∷ items } ∷ []

-- what the code's history points to
abbrev pub history_view : KeyItems → KeyHistory
history_view h = record { key = h.key; items = map item_view h.items.items }
