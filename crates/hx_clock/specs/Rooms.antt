-- A part that grows, and the room that it has.
use Rattle.std.specs.Prelude.{ℕ, ◌≤◌, List, Option, None, Some, ⊤}
use Rattle.hx_clock.specs.declared.part_lists.PartLists.{PartLists}
use Rattle.hx_clock.specs.declared.parts.Stamped.{Stamped}
use Rattle.hx_clock.specs.declared.rooms.Room.{Room}
use Rattle.hx_clock.specs.PartLists.{AreWhole, HasRoom}

-- the entries, and how many posts and notes the next entry may have, if there is room for it
pub record PartSeen : Type 0 where
  pub items : List Stamped
  pub room : Option Room

-- where there is room the lists have it
abbrev pub HasItsRoom : PartLists → Option Room → Type 0
HasItsRoom l None = ⊤
HasItsRoom l (Some r) = HasRoom l r.posts r.notes

-- the lists are whole, with the room that is told of them
pub record IsGrowing (l : PartLists) (r : Option Room) : Type 0 where
  pub whole : AreWhole l
  pub room : HasItsRoom l r

-- there is room for so many posts and notes
abbrev pub IsRoomFor : Option Room → ℕ → ℕ → Type 0
IsRoomFor None p n = ⊥
IsRoomFor (Some r) p n = (p ≤ r.posts) × (n ≤ r.notes)
