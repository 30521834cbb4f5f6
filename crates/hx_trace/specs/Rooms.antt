-- A trace that grows, and the room that it has.
use Rattle.std.specs.Prelude.{◌≡◌, ℕ, ◌<◌, List, Option, None, Some, length, reverse, slice_get, ⊤}
use Rattle.hx_model.specs.Types.{Entry, Post, PostId}
use Rattle.hx_model.specs.Runs.{post_named}
use Rattle.hx_clock.specs.declared.rooms.Room.{Room}
pub use Rattle.hx_clock.specs.Rooms.{IsRoomFor}
use Rattle.hx_trace.specs.declared.lists.Lists.{Lists}
use Rattle.hx_trace.specs.Lists.{AreWhole, HasRoom}

-- the entries, the posts of those that aren't kept whole one after another, and how many posts and notes the next entry may have, if there is room for it
pub record Growth : Type 0 where
  pub entries : List Entry
  pub filed : List Post
  pub room : Option Room

-- where there is room the lists have it
abbrev pub HasItsRoom : Lists → Option Room → Type 0
HasItsRoom l None = ⊤
HasItsRoom l (Some r) = HasRoom l r.posts r.notes

-- the lists are whole, with the room that is told of them
pub record IsGrowing (l : Lists) (r : Option Room) : Type 0 where
  pub whole : AreWhole l
  pub room : HasItsRoom l r

-- the post of this name lies at this place
pub record LiesAt (g : Growth) (id : PostId) (at : ℕ) : Type 0 where
  pub within : at < length g.filed
  pub post : slice_get g.filed at ≡ post_named id (reverse g.entries)
