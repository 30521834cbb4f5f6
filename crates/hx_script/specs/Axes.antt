-- How a subspace cuts the values of some attributes.
use Rattle.std.specs.Prelude.{ℕ, ◌+◌, ◌*◌, Bool, not, List, [], ◌∷◌, ◌++◌, length, codes, nat_le, nat_lt, ◌==◌}
use Rattle.std.specs.List.{list_any}
use Rattle.hx_types.specs.declared.limits.TheConstants.{MOST_AXES, MOST_PARTS, MOST_REGIONS}
use Rattle.hx_types.specs.declared.spaces.Axis.{Axis}
use Rattle.hx_types.specs.declared.spaces.Space.{Space}
use Rattle.hx_script.specs.declared.axes.AxesDraft.{AxesDraft}
use Rattle.hx_script.specs.declared.errors.Reason.TheVariants.{Twice, Limit}
use Rattle.hx_script.specs.declared.line.Until.TheVariants as until
use Rattle.hx_script.specs.Readers.{◌>>=◌, Reader, give, judged, check, number_in, sign, repeat}
use Rattle.hx_script.specs.Words.{named, declared_number}

abbrev pub has_axis : List Axis → ℕ → Bool
has_axis axes a = list_any (λ (x : Axis). x.attribute == a) axes

-- a declared attribute that isn't an axis yet, by its name
unfoldable pub free_axis : Space → List Axis → Reader ℕ
free_axis space axes = do
  w ← named
  a ← judged (declared_number space w)
  new ← check (not (has_axis axes a)) Twice
  room ← check (nat_lt (length axes) MOST_AXES) Limit
  give a

-- into how many parts, where the other axes make that many regions and all before the subspace that many
unfoldable pub parts : ℕ → ℕ → Reader ℕ
parts regions size = do
  n ← number_in 1 MOST_PARTS
  few ← check (nat_le (regions + size * n) MOST_REGIONS) Limit
  give n

-- N I
unfoldable pub axis : Space → ℕ → AxesDraft → Reader AxesDraft
axis space regions draft = do
  a ← free_axis space draft.axes
  n ← parts regions draft.size
  give (record { axes = draft.axes ++ record { attribute = a; parts = n } ∷ []; size = draft.size * n })

-- , N I
unfoldable pub next_axis : Space → ℕ → AxesDraft → Reader AxesDraft
next_axis space regions draft = do
  comma ← sign (codes ",")
  axis space regions draft

abbrev pub no_axes_yet : AxesDraft
no_axes_yet = record { axes = []; size = 1 }

-- more axes up to the end of the line
abbrev pub more_axes : Space → ℕ → AxesDraft → Reader AxesDraft
more_axes space regions before = repeat until.End (next_axis space regions) before

-- N I, N I, ..
unfoldable pub subspace : Space → ℕ → Reader AxesDraft
subspace space regions = do
  first ← axis space regions no_axes_yet
  more_axes space regions first
