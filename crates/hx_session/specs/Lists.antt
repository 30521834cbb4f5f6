-- A list that is lent to a step.
use Rattle.std.specs.Prelude.{◌≡◌, List, ◌++◌}

-- all that the list had still stands in front
pub record Grows {A : Type 0} (before after : List A) : Type 0 where
  pub more : List A
  pub is : after ≡ before ++ more
