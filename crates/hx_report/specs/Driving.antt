-- What each driver of a run did with the posts of its actors.
use Rattle.std.specs.Prelude.{ℕ, ◌+◌, List, [], ◌∷◌, ◌++◌, codes}
use Rattle.std.specs.Fmt.{decimal}
use Rattle.hx_model.specs.Types.{Totals}
use Rattle.hx_report.specs.Tracing.{field_text}

-- ` posts P deliver Q lose L twice T`
unfoldable pub totals_text : Totals → List ℕ
totals_text t =
    field_text (codes "posts") t.posts ++ field_text (codes "deliver") t.deliver ++ field_text (codes "lose") t.lose ++ field_text (codes "twice") t.twice

-- `driver D` and its totals
unfoldable pub driver_line : ℕ → Totals → List ℕ
driver_line number t = codes "driver " ++ decimal number ++ totals_text t ++ codes "\n"

-- the drivers from a number on
unfoldable pub drivers_text : ℕ → List Totals → List ℕ
drivers_text number [] = []
drivers_text number (t ∷ rest) = driver_line number t ++ drivers_text (number + 1) rest
