-- Lists that a world lends to its actors.
use Rattle.std.specs.Prelude.{◌≡◌, List, []}
use Rattle.hx_model.specs.Types.{Note, Post}

-- there are no posts and no notes
pub record AreEmpty (ps : List Post) (ns : List Note) : Type 0 where
  pub posts : ps ≡ []
  pub notes : ns ≡ []
