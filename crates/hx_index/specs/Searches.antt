-- What a search finds by an index, and how many looks it takes at most.
use Rattle.std.specs.Prelude.{ℕ, ◌+◌, ◌*◌, Bool, ◌&&◌, List, [], ◌∷◌, length, nat_lt, if◌then◌else◌, min, Option}
use Rattle.std.specs.List.{filter}
use Rattle.hx_model.specs.Types.{Row, Term}
use Rattle.hx_types.specs.Spaces.{attribute_of}
use Rattle.hx_index.specs.Looks.{digits_of}
use Rattle.hx_index.specs.Orders.{IndexState, count_of, order_of}
use Rattle.hx_index.specs.Sides.{meets_at}

-- a term on an attribute above 0 of which the index has an order
abbrev pub is_indexed : IndexState → Term → Bool
is_indexed index term = nat_lt 0 (attribute_of term) && nat_lt (attribute_of term) (length index.orders)

-- how many terms are such
abbrev pub indexed_count : IndexState → List Term → ℕ
indexed_count index terms = length (filter (is_indexed index) terms)

-- the length of the run of a term
abbrev pub run_length : IndexState → (ℕ → Option Row) → Term → ℕ
run_length index rows term = length (filter (meets_at rows term) (order_of index (attribute_of term)))

-- the least length of the runs of these terms, or one that is no greater
abbrev pub least_run : IndexState → (ℕ → Option Row) → ℕ → List Term → ℕ
least_run index rows least [] = least
least_run index rows least (term ∷ rest) =
    least_run index rows (if is_indexed index term then min (run_length index rows term) least else least) rest

-- the shortest run, or all indexed rows, and the searches for the ends of the runs
abbrev pub most_looks : IndexState → (ℕ → Option Row) → List Term → ℕ
most_looks index rows terms =
    least_run index rows (count_of index) terms + 2 * indexed_count index terms * digits_of (count_of index)
