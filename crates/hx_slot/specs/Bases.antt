-- What the folded updates left: an update more, and room for its mark and its touches.
use Rattle.std.specs.Prelude.{◌≡◌, ℕ, ◌+◌, ◌≤◌, Bool, true, false, List, vec_capacity, vec_len}
use Rattle.hx_model.specs.Types.{Kept}
use Rattle.hx_model.specs.Slots.{mark_by, with_mark, with_touches}
use Rattle.hx_slot.specs.declared.bases.Base.{Base}
use Rattle.hx_slot.specs.declared.updates.AcceptedUpdate.{AcceptedUpdate}
use Rattle.hx_slot.specs.Rooms.{IsGrown}
use Rattle.hx_slot.specs.Updates.{row_by}

-- room for so many marks and touches more
pub record HasBaseRoom (base : Base) (more_marks more_touches : ℕ) : Type 0 where
  pub marks : vec_len base.marks + more_marks ≤ vec_capacity base.marks
  pub touches : vec_len base.touches + more_touches ≤ vec_capacity base.touches

-- the same entries, with no less room
pub record IsWidened (old new : Base) : Type 0 where
  pub floor : new.floor ≡ old.floor
  pub object : new.object ≡ old.object
  pub marks : IsGrown old.marks new.marks
  pub touches : IsGrown old.touches new.touches

-- an update more: the row after it, and where they are kept its mark and its touches
pub record IsFolded (kept : Bool) (t : AcceptedUpdate) (old new : Base) : Type 0 where
  pub floor : new.floor ≡ t.update.version
  pub object : new.object ≡ row_by t old.object
  pub marks : kept ≡ true → new.marks.items ≡ with_mark (mark_by t.update) old.marks.items
  pub touches : kept ≡ true → new.touches.items ≡ with_touches t.update.version t.update.places old.touches.items
  pub no_marks : kept ≡ false → new.marks.items ≡ old.marks.items
  pub no_touches : kept ≡ false → new.touches.items ≡ old.touches.items

-- the state of a key that is folded
abbrev pub kept_in : List ℕ → Base → Kept
kept_in key base = record { key = key; floor = base.floor; object = base.object; marks = base.marks.items; touches = base.touches.items }

-- a base of the same entries
pub record IsCopied (old new : Base) : Type 0 where
  pub floor : new.floor ≡ old.floor
  pub object : new.object ≡ old.object
  pub marks : new.marks.items ≡ old.marks.items
  pub touches : new.touches.items ≡ old.touches.items
