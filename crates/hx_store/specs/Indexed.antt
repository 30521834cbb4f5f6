-- An index of the kept objects of slots that is brought up to date when a search asks: the rows by which it has the slots, and which
-- slots may have another object since.
use Rattle.std.specs.Prelude.{◌≡◌, ℕ, ◌+◌, ◌^◌, ◌<◌, ◌≤◌, ◌==◌, Bool, true, false, List, [], ◌∷◌, length, is_some, if◌then◌else◌, slice_get, Option, None}
use Rattle.hx_model.specs.Types.{Row}
use Rattle.hx_types.specs.Words.{when_some}
use Rattle.hx_model.specs.Slots.{object_of}
use Rattle.hx_slot.specs.States.{SlotState}
use Rattle.hx_index.specs.Orders.{IndexState, IsIndexOf, count_of, rows_at, rows_with}

-- the kept object of the slot at a place
abbrev pub kept_at : List SlotState → ℕ → Option Row
kept_at slots i = when_some (slice_get slots i) None (λ (s : SlotState). object_of s.region s.state)

-- 1 for a row that is there
abbrev pub one_kept : Option Row → ℕ
one_kept row = if is_some row then 1 else 0

-- how many rows are there
abbrev pub row_count : List (Option Row) → ℕ
row_count [] = 0
row_count (row ∷ rows) = one_kept row + row_count rows

-- the index is that of the rows, with room for every one
pub record IsKept (rows : List (Option Row)) (index : IndexState) : Type 0 where
  pub index_is : IsIndexOf (rows_at rows) index
  pub count : count_of index ≡ row_count rows
  pub room : length rows ≤ index.room
  pub few : length rows < 2 ^ 32

-- the index is that of the rows, where at one place is this one or none
pub record IsKeptAs (row : Option Row) (place : ℕ) (rows : List (Option Row)) (index : IndexState) : Type 0 where
  pub index_is : IsIndexOf (rows_with place row (rows_at rows)) index
  pub count : count_of index + one_kept (rows_at rows place) ≡ row_count rows + one_kept row
  pub room : length rows ≤ index.room
  pub few : length rows < 2 ^ 32

-- an index as contracts see it: the row by which it has each slot, and whether the slot may have another object since
pub record IndexedState : Type 0 where
  pub index : IndexState
  pub rows : List (Option Row)
  pub stale : List Bool

-- the mark of a place
abbrev pub is_marked : List Bool → ℕ → Bool
is_marked marks i = when_some (slice_get marks i) false (λ (mark : Bool). mark)

-- 1 for a mark
abbrev pub one_if : Bool → ℕ
one_if mark = if mark then 1 else 0

-- how many places are marked
abbrev pub marked_count : List Bool → ℕ
marked_count [] = 0
marked_count (mark ∷ marks) = one_if mark + marked_count marks

-- how often a number stands in a list
abbrev pub times : ℕ → List ℕ → ℕ
times i [] = 0
times i (x ∷ xs) = one_if (x == i) + times i xs

-- the index is that of the rows; the marked places stand in a list, each once, with room for all
pub record AreIndexed (index : IndexState) (rows : List (Option Row)) (marks : List Bool) (places : List ℕ) (capacity : ℕ) : Type 0 where
  pub kept : IsKept rows index
  pub each_marked : length marks ≡ length rows
  pub each : (i : ℕ) → times i places ≡ one_if (is_marked marks i)
  pub all : length places ≡ marked_count marks
  pub capacity_is : length rows ≤ capacity

-- each slot has a number; at each place that isn't marked is the slot's kept object, and beyond the places is nothing yet
pub record IsOf (slots : List SlotState) (x : IndexedState) : Type 0 where
  pub few : length slots < 2 ^ 32
  pub fresh : (i : ℕ) → i < length x.stale → is_marked x.stale i ≡ false → rows_at x.rows i ≡ kept_at slots i
  pub past : (i : ℕ) → length x.stale ≤ i → rows_at x.rows i ≡ None

-- places may have come, at which nothing is yet, and these are marked
pub record IsWider (old new : IndexedState) : Type 0 where
  pub rows : (i : ℕ) → rows_at new.rows i ≡ rows_at old.rows i
  pub stale : (i : ℕ) → i < length old.stale → is_marked new.stale i ≡ is_marked old.stale i
  pub marked : (i : ℕ) → length old.stale ≤ i → i < length new.stale → is_marked new.stale i ≡ true
  pub count : length old.stale ≤ length new.stale
