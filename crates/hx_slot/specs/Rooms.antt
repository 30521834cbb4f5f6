-- Lists with room for more.
use Rattle.std.specs.Prelude.{◌≡◌, ◌≤◌, Vec, vec_capacity, vec_len}

-- the same items, with no less room
pub record IsGrown {X Z : Type 0} (old new : Vec X Z) : Type 0 where
  pub items : new.items ≡ old.items
  pub len : vec_len new ≡ vec_len old
  pub capacity : vec_capacity old ≤ vec_capacity new
