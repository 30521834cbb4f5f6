-- The rows of parts, and their keys.
use Rattle.std.specs.Prelude.{ℕ, List, []}
use Rattle.hx_model.specs.Types.{Row}
use Rattle.hx_types.specs.Words.{when_some}
use Rattle.hx_model.specs.SessionSteps.{Part}

-- none where the region hasn't answered
abbrev pub rows_in : Part → List Row
rows_in p = when_some p.rows [] (λ (rows : List Row). rows)

abbrev pub row_key : Row → List ℕ
row_key r = r.key
