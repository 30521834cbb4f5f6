-- The first fault of a history whose items stand oldest first.
use Rattle.std.specs.Prelude.{ℕ, List, reverse, take, slice_get, IsSomeAnd}
use Rattle.hx_model.specs.Types.{Item, Space}
use Rattle.hx_model.specs.Legal.{IsEffect, IsLegal, object_now}

-- the items before the place are legal, and there is an item at it that isn't the effect of its operation on the object after them
pub record IsFirstFault (space : Space) (items : List Item) (place : ℕ) : Type 0 where
  pub before : IsLegal space (reverse (take place items))
  pub fault : IsSomeAnd (slice_get items place) (λ (x : Item). ¬ IsEffect space (object_now (reverse (take place items))) x)
