-- How many looks at objects a search takes at most.
use Rattle.std.specs.Prelude.{ℕ, ◌+◌, ◌*◌, Bool, ◌&&◌, List, [], ◌∷◌, length, nat_lt, if◌then◌else◌, min}
use Rattle.std.specs.List.{filter}
use Rattle.hx_model.specs.Types.{Row, Term}
use Rattle.hx_types.specs.Spaces.{attribute_of}
use Rattle.hx_model.specs.Matching.{term_holds}
use Rattle.hx_index.specs.Looks.{digits_of}

-- the term is on an attribute above 0 of so many, the key among them
abbrev pub is_indexed : ℕ → Term → Bool
is_indexed attributes term = nat_lt 0 (attribute_of term) && nat_lt (attribute_of term) attributes

-- how many of the terms are such
abbrev pub indexed_count : ℕ → List Term → ℕ
indexed_count attributes terms = length (filter (is_indexed attributes) terms)

-- how many of the objects meet a term
abbrev pub meeting_count : Term → List Row → ℕ
meeting_count term rows = length (filter (λ (r : Row). term_holds r.key r.object term) rows)

-- the least number of objects that meet one of these terms, or one that is no greater
abbrev pub least_count : ℕ → List Row → ℕ → List Term → ℕ
least_count attributes rows least [] = least
least_count attributes rows least (term ∷ rest) =
    least_count attributes rows (if is_indexed attributes term then min (meeting_count term rows) least else least) rest

-- one look at each object that meets the term which fewest do, or at all where no term is on an attribute above 0
abbrev pub least_looks_at : ℕ → List Row → List Term → ℕ
least_looks_at attributes rows terms = least_count attributes rows (length rows) terms

-- one look at each object that meets the term which fewest do, or at all where no term is on an attribute above 0, and for each
-- such term two for each binary digit of the number of objects
abbrev pub most_looks_at : ℕ → List Row → List Term → ℕ
most_looks_at attributes rows terms =
    least_count attributes rows (length rows) terms + 2 * indexed_count attributes terms * digits_of (length rows)
