-- What contracts see of the names of posts that wait.
use Rattle.std.specs.Prelude.{ℕ, List}
use Rattle.hx_model.specs.Types.{PostId}

-- the names in order, and for how many more there is room
pub record Waiting : Type 0 where
  pub items : List PostId
  pub room : ℕ
