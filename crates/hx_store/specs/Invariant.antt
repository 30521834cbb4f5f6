-- What a store keeps: the slot of each key by its place, and the places of the slots that are its own in byte order of keys.
use Rattle.std.specs.Prelude.{◌≡◌, ℕ, zero, suc, ◌<◌, ◌≤◌, ◌+◌, ⊤, Bool, true, false, List, [], ◌∷◌, ◌++◌, map, length, take, if◌then◌else◌, ◌==◌, Option, Some}
use Rattle.std.specs.List.{AllByRecursion, filter, list_any, slice_get}
use Rattle.std.specs.Option.{option_map}
use Rattle.indexmap.specs.IndexMap.{set_value_at}
use Rattle.hx_model.specs.Types.{RegionId}
use Rattle.hx_types.specs.Words.{same_text, text_below, when_some}
use Rattle.hx_law_folds.specs.Folding.{KeysAscend}
use Rattle.hx_model.specs.Slots.{KeyState, new_state}
use Rattle.hx_slot.specs.States.{SlotState}
use Rattle.hx_store.specs.Indexed.{one_if, times}
use Rattle.hx_store.specs.Slots.{Entry, StoreSlot}
use Rattle.hx_store.specs.Stores.{Room}

-- what stands at a place
abbrev pub stored_at : List Entry → ℕ → Option StoreSlot
stored_at es i = option_map (λ (e : Entry). e.1) (slice_get es i)

abbrev pub state_in : List Entry → ℕ → KeyState
state_in es i = when_some (slice_get es i) (new_state false []) (λ (e : Entry). e.1.slot.state)

abbrev pub key_in : List Entry → ℕ → List ℕ
key_in es i = when_some (slice_get es i) [] (λ (e : Entry). e.0)

abbrev pub is_listed : List Entry → ℕ → Bool
is_listed es i = when_some (slice_get es i) false (λ (e : Entry). e.1.listed)

abbrev pub is_place : ℕ → ℕ → Bool
is_place i j = j == i

-- the slots at these places
abbrev pub states_in : List Entry → List ℕ → List KeyState
states_in es order = map (state_in es) order

abbrev pub room_of : Entry → Room
room_of e = record { key = e.0; spare = e.1.slot.spare }

abbrev pub rooms_in : List Entry → List Room
rooms_in es = map room_of es

-- how many slots are listed
abbrev pub listed_count : List Entry → ℕ
listed_count [] = 0
listed_count (e ∷ es) = (if e.1.listed then 1 else 0) + listed_count es

-- no key stands twice
abbrev pub KeysApart : List Entry → Type 0
KeysApart [] = ⊤
KeysApart (e ∷ es) = AllByRecursion (λ (f : Entry). same_text e.0 f.0 ≡ false) es × KeysApart es

-- the keys at these places ascend
abbrev pub AscendAt : List Entry → List ℕ → Type 0
AscendAt es [] = ⊤
AscendAt es (j ∷ rest) = AllByRecursion (λ k. text_below (key_in es j) (key_in es k) ≡ true) rest × AscendAt es rest

-- places of slots in byte order of their keys, among them each that passes a test
pub record HasAll (es : List Entry) (test : ℕ → Bool) (order : List ℕ) : Type 0 where
  pub ascend : AscendAt es order
  pub within : (i : ℕ) → list_any (is_place i) order ≡ true → i < length es
  pub all : (i : ℕ) → test i ≡ true → list_any (is_place i) order ≡ true

-- the first places, so many, are of lower keys, and the next one isn't
abbrev pub IsSplit : List Entry → List ℕ → ℕ → List ℕ → Type 0
IsSplit es key zero [] = ⊤
IsSplit es key zero (j ∷ rest) = text_below (key_in es j) key ≡ false
IsSplit es key (suc p) [] = ⊥
IsSplit es key (suc p) (j ∷ rest) = (text_below (key_in es j) key ≡ true) × IsSplit es key p rest

-- the slot is of this key, region and kind, and empty where it isn't listed
pub record IsStoreSlot (g : RegionId) (keeps_marks : Bool) (key : List ℕ) (h : StoreSlot) : Type 0 where
  pub key_is : h.slot.state.base.key ≡ key
  pub region : h.slot.region ≡ g
  pub marks_are : h.slot.state.marks ≡ keeps_marks
  pub closed : h.listed ≡ false → h.slot.state ≡ new_state keeps_marks key

-- each slot is of its key; the places are those of the listed slots, in byte order of keys, with room for all
pub record IsStore (g : RegionId) (keeps_marks : Bool) (es : List Entry) (order : List ℕ) (capacity : ℕ) : Type 0 where
  pub each : AllByRecursion (λ (e : Entry). IsStoreSlot g keeps_marks e.0 e.1) es
  pub apart : KeysApart es
  pub listed : (i : ℕ) → list_any (is_place i) order ≡ is_listed es i
  pub ascend : KeysAscend (states_in es order)
  pub count : length order ≡ listed_count es
  pub room : length es ≤ capacity

-- a key came, last, with an empty slot that isn't listed
pub record IsAdded (g : RegionId) (keeps_marks : Bool) (key : List ℕ) (old new : List Entry) : Type 0 where
  pub slot : SlotState
  pub region : slot.region ≡ g
  pub state : slot.state ≡ new_state keeps_marks key
  pub set : new ≡ old ++ (key, record { slot = slot; listed = false }) ∷ []

-- the slot at a place is listed
pub record IsListedAt (i : ℕ) (old new : List Entry) : Type 0 where
  pub before : StoreSlot
  pub found : stored_at old i ≡ Some before
  pub set : new ≡ set_value_at old i (record before { listed = true })

-- a slot stands at a place in place of the one there
pub record IsReplacedAt (i : ℕ) (slot : SlotState) (old new : List Entry) : Type 0 where
  pub before : StoreSlot
  pub found : stored_at old i ≡ Some before
  pub set : new ≡ set_value_at old i (record before { slot = slot })

-- the slot at a place made a step, which lowers its room by so much at most
pub record HasMoved (i : ℕ) (step : RegionId → KeyState → KeyState) (fall : ℕ) (old new : List Entry) : Type 0 where
  pub before : StoreSlot
  pub after : StoreSlot
  pub found : stored_at old i ≡ Some before
  pub set : new ≡ set_value_at old i after
  pub listed : after.listed ≡ before.listed
  pub state : after.slot.state ≡ step before.slot.region before.slot.state
  pub region : after.slot.region ≡ before.slot.region
  pub spare : before.slot.spare ≤ after.slot.spare + fall

-- the numbers below one
abbrev pub below_from : ℕ → List ℕ
below_from zero = []
below_from (suc n) = n ∷ below_from n

-- a place among places in byte order of keys, before the first whose key is higher
abbrev pub put_place : List Entry → ℕ → List ℕ → List ℕ
put_place es j [] = j ∷ []
put_place es j (k ∷ rest) = if text_below (key_in es j) (key_in es k) then j ∷ k ∷ rest else k ∷ put_place es j rest

abbrev pub in_order : List Entry → List ℕ → List ℕ
in_order es [] = []
in_order es (j ∷ rest) = put_place es j (in_order es rest)

-- the places of the listed slots in byte order of keys
abbrev pub order_of : List Entry → List ℕ
order_of es = in_order es (filter (is_listed es) (below_from (length es)))

-- a store whose list has the places of the listed slots, each once: so many of them from the first on in byte order of keys, and
-- then those that came since
pub record IsLateStore (g : RegionId) (keeps_marks : Bool) (es : List Entry) (places : List ℕ) (sorted capacity : ℕ) : Type 0 where
  pub store : IsStore g keeps_marks es (order_of es) capacity
  pub each : (i : ℕ) → times i places ≡ one_if (is_listed es i)
  pub begun : sorted ≤ length places
  pub ascend : AscendAt es (take sorted places)
