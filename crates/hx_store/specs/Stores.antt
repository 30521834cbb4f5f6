-- A store as contracts see it: the slots of a region, in byte order of keys.
use Rattle.std.specs.Prelude.{◌≡◌, ℕ, zero, suc, ◌+◌, ◌<◌, ◌≤◌, Bool, true, false, ⊤, List, [], ◌∷◌, ◌++◌, map, length}
use Rattle.std.specs.List.{All, list_any, slice_get}
use Rattle.hx_model.specs.Types.{Kept, Place, RegionId, Update, Version}
use Rattle.hx_types.specs.Words.{same_text, when_some}
use Rattle.hx_types.specs.declared.limits.TheConstants.{MOST_PLACES}
use Rattle.hx_model.specs.Neighbours.{place_number}
use Rattle.hx_law_folds.specs.Folding.{folded}
use Rattle.hx_slot.specs.States.{SlotState}
use Rattle.hx_model.specs.Slots.{Acknowledge, Forget, KeyState, acknowledged, Move, is_pending, moved, moved_all, offered, settled, state_among, with_state}

-- a key of which a replica has heard, and for how many more updates there is room at its slot
pub record Room : Type 0 where
  pub key : List ℕ
  pub spare : ℕ

-- keeps_marks: whether the slots keep marks and touches, as those of key regions do; attributes: how many an object has, the
-- key among them; states: the slots in byte order of keys; rooms: by the places of their keys, which are the numbers in the
-- order of coming; ordered: whether the places stand in byte order of keys in the store itself too, so that a slot can be
-- found by its number in that order
pub record StoreState : Type 0 where
  pub region : RegionId
  pub keeps_marks : Bool
  pub attributes : ℕ
  pub states : List KeyState
  pub rooms : List Room
  pub ordered : Bool

-- the key at a place, and the room at its slot
abbrev pub key_at : StoreState → ℕ → List ℕ
key_at s place = when_some (slice_get s.rooms place) [] (λ (r : Room). r.key)

abbrev pub spare_at : StoreState → ℕ → ℕ
spare_at s place = when_some (slice_get s.rooms place) 0 (λ (r : Room). r.spare)

-- the place is that of the key
pub record IsPlace (s : StoreState) (place : ℕ) (key : List ℕ) : Type 0 where
  pub within : place < length s.rooms
  pub key_is : key_at s place ≡ key

-- a key has a place, or a slot
abbrev pub has_room : StoreState → List ℕ → Bool
has_room s key = list_any (λ (r : Room). same_text r.key key) s.rooms

abbrev pub has_slot : List ℕ → List KeyState → Bool
has_slot key states = list_any (λ (s : KeyState). same_text s.base.key key) states

-- every key keeps its place, and no room falls
abbrev pub KeepsRooms : List Room → List Room → Type 0
KeepsRooms [] new = ⊤
KeepsRooms (r ∷ old) [] = ⊥
KeepsRooms (r ∷ old) (q ∷ new) = (q.key ≡ r.key) × (r.spare ≤ q.spare) × KeepsRooms old new

-- nor does any but that of a key
abbrev pub KeepsOtherRooms : List ℕ → List Room → List Room → Type 0
KeepsOtherRooms key [] new = ⊤
KeepsOtherRooms key (r ∷ old) [] = ⊥
KeepsOtherRooms key (r ∷ old) (q ∷ new) = (q.key ≡ r.key) × (same_text r.key key ≡ false → r.spare ≤ q.spare) × KeepsOtherRooms key old new

-- nor does any but those of some keys
abbrev pub KeepsRoomsBut : (List ℕ → Bool) → List Room → List Room → Type 0
KeepsRoomsBut free [] new = ⊤
KeepsRoomsBut free (r ∷ old) [] = ⊥
KeepsRoomsBut free (r ∷ old) (q ∷ new) = (q.key ≡ r.key) × (free r.key ≡ false → r.spare ≤ q.spare) × KeepsRoomsBut free old new

-- nor does any but that at a place, which falls by at most 1
abbrev pub UsesRoom : ℕ → List Room → List Room → Type 0
UsesRoom place [] new = ⊤
UsesRoom place (r ∷ old) [] = ⊥
UsesRoom zero (r ∷ old) (q ∷ new) = (q.key ≡ r.key) × (r.spare ≤ q.spare + 1) × KeepsRooms old new
UsesRoom (suc place) (r ∷ old) (q ∷ new) = (q.key ≡ r.key) × (r.spare ≤ q.spare) × UsesRoom place old new

-- the key has a state in a snapshot, or is that of one of these slots
abbrev pub has_kept : List Kept → List ℕ → Bool
has_kept snapshot key = list_any (λ (k : Kept). same_text k.key key) snapshot

abbrev pub is_key_of : List SlotState → List ℕ → Bool
is_key_of slots key = list_any (λ (x : SlotState). same_text x.state.base.key key) slots

-- the slots without their regions and rooms
abbrev pub states_of : List SlotState → List KeyState
states_of slots = map (λ (x : SlotState). x.state) slots

-- a slot of the store's region and kind, whose key has a place
pub record IsReady (s : StoreState) (x : SlotState) : Type 0 where
  pub region : x.region ≡ s.region
  pub marks : x.state.marks ≡ s.keeps_marks
  pub place : has_room s x.state.base.key ≡ true

-- the slot of a key, an empty one where there is none
abbrev pub state_at : StoreState → List ℕ → KeyState
state_at s key = state_among s.keeps_marks key s.states

-- the slots after a step of a key's
abbrev pub after_step : StoreState → List ℕ → (RegionId → KeyState → KeyState) → List KeyState
after_step s key step = with_state (step s.region (state_at s key)) s.states

-- an update that the slot of a region can be offered
pub record CanBeOffered (g : RegionId) (u : Update) (place : ℕ) : Type 0 where
  pub place_is : place ≡ place_number g u.places
  pub placed : place < length u.places
  pub after : All (λ (p : Place). p.after.0 < u.version.0) u.places
  pub few : length u.places ≤ MOST_PLACES

-- some versions are acknowledged
abbrev pub acknowledging : List Version → List Move
acknowledging versions = map (λ (v : Version). Acknowledge v.0) versions

-- the versions are pending once the update was offered
abbrev pub ArePending : KeyState → List Version → Type 0
ArePending s versions = All (λ (v : Version). is_pending v.0 s ≡ true) versions

-- an update is offered, versions whose chain ends here are acknowledged, and what can be is committed
abbrev pub accepted : RegionId → KeyState → Update → List Version → List Move
accepted g s u ends =
    let moves = offered g s u ++ acknowledging ends in moves ++ settled (moved_all moves s)

-- a slot of a region after a step of it
abbrev pub no_moves : RegionId → KeyState → KeyState
no_moves g s = s

abbrev pub accepted_at : Update → List Version → RegionId → KeyState → KeyState
accepted_at u ends g s = folded g (moved_all (accepted g s u ends) s)

abbrev pub acknowledged_at : ℕ → RegionId → KeyState → KeyState
acknowledged_at v g s = folded g (moved_all (acknowledged s v) s)

-- a slot that has forgotten its acknowledgements and early updates
abbrev pub forgotten_at : RegionId → KeyState → KeyState
forgotten_at g s = moved Forget s

-- a slot of which a version is acknowledged, and nothing else
abbrev pub marked_at : ℕ → RegionId → KeyState → KeyState
marked_at v g s = moved (Acknowledge v) s

-- a slot that has committed what it can
abbrev pub settled_at : RegionId → KeyState → KeyState
settled_at g s = folded g (moved_all (settled s) s)
