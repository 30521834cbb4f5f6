-- On which side of the values that meet a term a value lies.
use Rattle.std.specs.Prelude.{ℕ, Bool, false, List, if◌then◌else◌, ℤ, int_le, Option}
use Rattle.std.specs.declared.cmp.Ordering.{Ordering}
use Rattle.std.specs.declared.cmp.Ordering.TheVariants.{Less, Equal, Greater}
use Rattle.hx_model.specs.Types.{Row, Term, Value}
use Rattle.hx_types.specs.declared.values.Value.TheVariants as a_value
use Rattle.hx_types.specs.declared.values.Term.TheVariants as a_term
use Rattle.hx_types.specs.Spaces.{attribute_of}
use Rattle.hx_types.specs.Words.{when_some}
use Rattle.hx_model.specs.Matching.{matches, term_holds}
use Rattle.hx_index.specs.declared.looking.Side.{Side}
use Rattle.hx_index.specs.declared.looking.Side.TheVariants.{Below, Meets, Above}
use Rattle.hx_index.specs.Orders.{compare_values, value_of}

abbrev pub side_by : Ordering → Side
side_by Less = Below
side_by Equal = Meets
side_by Greater = Above

-- of a range; texts lie below each range of numbers
abbrev pub side_in : ℤ → ℤ → Value → Side
side_in lo hi (a_value.Text bytes) = Below
side_in lo hi (a_value.Int n) = if int_le lo n then if int_le n hi then Meets else Above else Below

-- of a value that is there
abbrev pub side_of_value : Term → Value → Side
side_of_value (a_term.Equal attribute value) x = side_by (compare_values x value)
side_of_value (a_term.Range attribute lo hi) x = side_in lo hi x

-- a row without a value lies below
abbrev pub side_of : Term → Option Value → Side
side_of term found = when_some found Below (side_of_value term)

-- of the row at a number
abbrev pub side_at : (ℕ → Option Row) → Term → ℕ → Side
side_at rows term i = when_some (rows i) Below (λ (r : Row). side_of term (value_of (attribute_of term) r))

-- the term holds of the row at a number
abbrev pub meets_at : (ℕ → Option Row) → Term → ℕ → Bool
meets_at rows term i = when_some (rows i) false (λ (r : Row). term_holds r.key r.object term)

-- every term holds of it
abbrev pub matches_at : (ℕ → Option Row) → List Term → ℕ → Bool
matches_at rows terms i = when_some (rows i) false (λ (r : Row). matches terms r.key r.object)
