-- What the fields of a cluster keep.
use Rattle.std.specs.Prelude.{◌≡◌, ℕ, ◌+◌, ◌<◌, ◌≤◌, List, length, map, reverse, slice_get, slice_set, Option, None, Some}
use Rattle.std.specs.List.{All}
use Rattle.hx_types.specs.Words.{when_some}
use Rattle.hx_world.specs.Worlds.{WorldState, most_entries}
use Rattle.hx_bundle.specs.declared.bundles.Bundle.{Bundle}
use Rattle.hx_spaces.specs.Clusters.{IsCourse}
use Rattle.hx_spaces.specs.Courses.{Course, begun_in, newest, session_at}
use Rattle.hx_spaces.specs.Walks.{delivery_at}

-- the course that the fields show: worlds have their oldest entry first, and so has the order
abbrev pub course_of : Bundle → List WorldState → List ℕ → Course
course_of bundle worlds order = record { bundle = bundle; runs = map newest worlds; order = reverse order }

-- for each session how many calls it began in all spaces
pub record AreCounted (bundle : Bundle) (runs : List WorldState) (begun : List ℕ) : Type 0 where
  pub sessions : length begun ≡ length bundle.turns
  pub each : (place n : ℕ) → slice_get begun place ≡ Some n → n ≡ begun_in (session_at place) runs

-- the counts with one more call of the session of a place, if there is one
abbrev pub counted : List ℕ → Option ℕ → List ℕ
counted begun None = begun
counted begun (Some place) = when_some (slice_get begun place) begun (λ n. slice_set begun place (n + 1))

-- no more entries than a world makes
abbrev pub IsShort : WorldState → Type 0
IsShort r = length r.trace ≤ most_entries

-- what a cluster keeps
pub record IsKept (c : Course) (begun : List ℕ) : Type 0 where
  pub course : IsCourse c
  pub counted : AreCounted c.bundle c.runs begun
  pub short : All IsShort c.runs

-- no space before this one has a delivery to make
abbrev pub RestBefore : ℕ → List WorldState → Type 0
RestBefore first runs = (k : ℕ) → k < first → delivery_at runs k ≡ None

-- what a cluster keeps, with the first space that may have a delivery to make
pub record IsKeptFrom (c : Course) (begun : List ℕ) (first : ℕ) : Type 0 where
  pub kept : IsKept c begun
  pub rest : RestBefore first c.runs
