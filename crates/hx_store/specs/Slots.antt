-- The slots of a store by the places of their keys, and the index of their kept objects.
use Rattle.std.specs.Prelude.{◌≡◌, ℕ, ◌+◌, ◌≤◌, Bool, List, [], ◌∷◌, length, slice_get, Option, None, Some}
use Rattle.std.specs.List.{slice_set}
use Rattle.hx_model.specs.Types.{RegionId, Row}
use Rattle.hx_types.specs.Words.{when_some}
use Rattle.hx_model.specs.Slots.{KeyState, object_of}
use Rattle.hx_slot.specs.States.{SlotState}
use Rattle.hx_index.specs.Orders.{IndexState, rows_at}
use Rattle.hx_store.specs.Indexed.{IndexedState, IsOf}
use Rattle.hx_store.specs.Prefixes.{ArePrefixes}

-- a slot, and whether it is part of the store: one that isn't has had no step yet
pub record StoreSlot : Type 0 where
  pub slot : SlotState
  pub listed : Bool

-- a key and its slot
abbrev pub Entry : Type 0
Entry = List ℕ × StoreSlot

-- the slots of these keys, of which is said whether they are part of the store
abbrev pub entries_of : List (List ℕ × Bool) → List SlotState → List Entry
entries_of [] slots = []
entries_of (k ∷ keys) [] = []
entries_of (k ∷ keys) (s ∷ slots) = (k.0, record { slot = s; listed = k.1 }) ∷ entries_of keys slots

-- entries by the places of their keys, and an index of rows, those by which it has the slots
pub record SlotsState : Type 0 where
  pub entries : List Entry
  pub rows : List (Option Row)
  pub index : IndexState

-- the kept object of the slot at a place
abbrev pub rows_in : List Entry → ℕ → Option Row
rows_in es i = when_some (slice_get es i) None (λ (e : Entry). object_of e.1.slot.region e.1.slot.state)

-- the index has each slot by its kept object
abbrev pub IsFresh : SlotsState → Type 0
IsFresh s = rows_at s.rows ≡ rows_in s.entries

-- there is a slot for each key, and the prefixes and the index are theirs
pub record AreSlots (keys : List (List ℕ × Bool)) (prefixes : List ℕ) (slots : List SlotState) (indexed : IndexedState) : Type 0 where
  pub count : length keys ≡ length slots
  pub first : ArePrefixes keys prefixes
  pub kept : IsOf slots indexed

-- the slot at a place made a step, which lowers its room by so much at most
pub record IsStepped (i : ℕ) (step : RegionId → KeyState → KeyState) (fall : ℕ) (old new : List SlotState) : Type 0 where
  pub before : SlotState
  pub after : SlotState
  pub found : slice_get old i ≡ Some before
  pub set : new ≡ slice_set old i after
  pub state : after.state ≡ step before.region before.state
  pub region : after.region ≡ before.region
  pub spare : before.spare ≤ after.spare + fall
