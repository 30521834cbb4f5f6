-- The updates that a slot holds, in the order in which they were accepted or came.
use Rattle.std.specs.Prelude.{◌≡◌, ℕ, ◌+◌, ◌<◌, ◌≤◌, ⊤, Bool, not, ◌||◌, List, [], ◌∷◌, length, if◌then◌else◌, Option, None, Some}
use Rattle.std.specs.Option.{option_map}
use Rattle.hx_types.specs.declared.limits.TheConstants.{MOST_PLACES}
use Rattle.hx_model.specs.Types.{Place, RegionId, Row, Update}
use Rattle.hx_model.specs.Slots.{after_at, place_in, row_of}
use Rattle.hx_slot.specs.declared.updates.PlacedUpdate.{PlacedUpdate}
use Rattle.hx_slot.specs.declared.updates.AcceptedUpdate.{AcceptedUpdate}
use Rattle.hx_slot.specs.declared.line.RowRef.{RowRef}

-- the updates of a list, the last one first, before older ones
abbrev pub newest_first : List Update → List AcceptedUpdate → List Update
newest_first older [] = older
newest_first older (t ∷ rest) = newest_first (t.update ∷ older) rest

-- the version of the last update, or a version before them
abbrev pub last_version : ℕ → List AcceptedUpdate → ℕ
last_version v [] = v
last_version v (t ∷ rest) = last_version t.update.version.0 rest

-- how many places the updates have in all
abbrev pub places_in : List AcceptedUpdate → ℕ
places_in [] = 0
places_in (t ∷ rest) = length t.update.places + places_in rest

-- each version is above the one before it
abbrev pub Ascends : ℕ → List AcceptedUpdate → Type 0
Ascends v [] = ⊤
Ascends v (t ∷ rest) = (v < t.update.version.0) × Ascends t.update.version.0 rest

-- the update has a place in the region, one of few, which tells whether the object is kept there
pub record IsPlaced (g : RegionId) (u : Update) (keeps : Bool) : Type 0 where
  pub place : option_map (λ (p : Place). p.keeps) (place_in g u.places) ≡ Some keeps
  pub few : length u.places ≤ MOST_PLACES

-- an update with what its place in the region tells, after a lower version
pub record IsHeld (g : RegionId) (p : PlacedUpdate) : Type 0 where
  pub placed : IsPlaced g p.update p.keeps
  pub turn : after_at g p.update ≡ Some p.after.0
  pub after : p.after.0 < p.update.version.0

-- the object is set by an update that keeps and changes, and removed by one that doesn't keep
abbrev pub row_by : AcceptedUpdate → Option Row → Option Row
row_by t old = if t.keeps then if t.update.changes then row_of t.update else old else None

-- the row after the update isn't the one before it
abbrev pub changes_row : AcceptedUpdate → Bool
changes_row t = not t.keeps || t.update.changes

-- the row after updates, from the one before them
abbrev pub row_over : Option Row → List AcceptedUpdate → Option Row
row_over row [] = row
row_over row (t ∷ rest) = row_over (row_by t row) rest

-- the row that is lent
abbrev pub row_seen : Option RowRef → Option Row
row_seen found = option_map (λ (f : RowRef). record { key = f.key.now; version = f.version; object = f.object.now }) found
