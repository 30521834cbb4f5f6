-- The order of an attribute: the numbers of the rows that are there, by the value of that attribute and then by the key.
use Rattle.std.specs.Prelude.{◌≡◌, ℕ, ◌<◌, Bool, not, List, [], length, map, is_some, if◌then◌else◌, ◌==◌, Option, None}
use Rattle.std.specs.List.{filter, list_any, slice_get}
use Rattle.std.specs.List.Sorted.{IsStrictlySortedBy}
use Rattle.std.specs.Cmp.Lexicographic.{slice_cmp}
use Rattle.std.specs.Option.{option_cmp}
use Rattle.std.specs.Ordering.{int_cmp, nat_cmp, then_cmp, on}
use Rattle.std.specs.declared.cmp.Ordering.{Ordering}
use Rattle.std.specs.declared.cmp.Ordering.TheVariants.{Less, Greater}
use Rattle.hx_model.specs.Types.{Row, Value}
use Rattle.hx_types.specs.declared.values.Value.TheVariants as a_value
use Rattle.hx_types.specs.Effects.{value_at}
use Rattle.hx_types.specs.Words.{when_some}

-- texts by bytes, then numbers by size
abbrev pub compare_values : Value → Value → Ordering
compare_values (a_value.Text a) (a_value.Text b) = slice_cmp nat_cmp a b
compare_values (a_value.Text a) (a_value.Int n) = Less
compare_values (a_value.Int m) (a_value.Text b) = Greater
compare_values (a_value.Int m) (a_value.Int n) = int_cmp m n

-- the value that a row has for an attribute: for attribute 0 its key
abbrev pub value_of : ℕ → Row → Option Value
value_of attribute r = value_at r.key r.object attribute

abbrev pub key_of : Row → List ℕ
key_of r = r.key

-- first the rows without a value, then by the value, then by the key
abbrev pub compare_rows : ℕ → Row → Row → Ordering
compare_rows attribute = then_cmp (on (value_of attribute) (option_cmp compare_values)) (on key_of (slice_cmp nat_cmp))

-- numbers by the rows there; a number decides only between rows of one key
abbrev pub compare_at : (ℕ → Option Row) → ℕ → ℕ → ℕ → Ordering
compare_at rows attribute = then_cmp (on rows (option_cmp (compare_rows attribute))) nat_cmp

abbrev pub is_number : ℕ → ℕ → Bool
is_number i j = j == i

-- the number stands in a list
abbrev pub stands_in : List ℕ → ℕ → Bool
stands_in numbers i = list_any (is_number i) numbers

-- the list without a number
abbrev pub without : ℕ → List ℕ → List ℕ
without i numbers = filter (λ j. not (j == i)) numbers

-- each number with a row stands in the order once, and values, then keys ascend
pub record IsOrder (rows : ℕ → Option Row) (attribute : ℕ) (order : List ℕ) : Type 0 where
  pub ascend : IsStrictlySortedBy (compare_at rows attribute) order
  pub each : (i : ℕ) → stands_in order i ≡ is_some (rows i)

-- an index as contracts see it: the order of each attribute, the key's first, and for how many numbers in all each has room
pub record IndexState : Type 0 where
  pub orders : List (List ℕ)
  pub room : ℕ

-- the order of an attribute
abbrev pub order_of : IndexState → ℕ → List ℕ
order_of index attribute = when_some (slice_get index.orders attribute) [] (λ (order : List ℕ). order)

-- the index is that of these rows
abbrev pub IsIndexOf : (ℕ → Option Row) → IndexState → Type 0
IsIndexOf rows index = (attribute : ℕ) → attribute < length index.orders → IsOrder rows attribute (order_of index attribute)

-- how many rows are indexed
abbrev pub count_of : IndexState → ℕ
count_of index = length (order_of index 0)

-- the row at a number, if there is one
abbrev pub rows_at : List (Option Row) → ℕ → Option Row
rows_at rows i = when_some (slice_get rows i) None (λ (row : Option Row). row)

-- the rows but for that at one number
abbrev pub rows_without : ℕ → (ℕ → Option Row) → ℕ → Option Row
rows_without id rows i = if i == id then None else rows i

-- the rows, where at one number is this one or none
abbrev pub rows_with : ℕ → Option Row → (ℕ → Option Row) → ℕ → Option Row
rows_with id row rows i = if i == id then row else rows i

-- in every order the numbers of the one index are those of the other but for one, in the same order
abbrev pub IsWithout : ℕ → IndexState → IndexState → Type 0
IsWithout id fewer more = fewer.orders ≡ map (without id) more.orders

-- there is no row
abbrev pub no_rows : ℕ → Option Row
no_rows i = None
