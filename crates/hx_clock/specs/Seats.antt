-- How contracts see a seat.
use Rattle.atomic_table.specs.Seated.{TableId}
use Rattle.hx_clock.specs.declared.view.View.{View}

-- the name of its clock, and what it carries and knows
pub record Seated : Type 0 where
  pub clock : TableId
  pub view : View
