-- The run of a term: the part of the order of its attribute whose rows meet it.
use Rattle.std.specs.Prelude.{◌≡◌, ℕ, ◌<◌, ◌≤◌, ◌&&◌, List, length, nat_lt, nat_le, slice_index_or, Option}
use Rattle.hx_model.specs.Types.{Row, Term}
use Rattle.hx_index.specs.Sides.{meets_at}

-- the rows from the first place to the end meet the term, and no others
pub record IsRun (rows : ℕ → Option Row) (term : Term) (order : List ℕ) (first end : ℕ) : Type 0 where
  pub within : first ≤ end
  pub ends : end ≤ length order
  pub meets : (k : ℕ) → k < length order → meets_at rows term (slice_index_or order k 0) ≡ (nat_le first k && nat_lt k end)
