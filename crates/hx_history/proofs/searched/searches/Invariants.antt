use Rattle.std.proofs.Common.{◌≡◌, ◌++◌, drop}
use Rattle.std.specs.List.{flat_map}
use Rattle.hx_history.specs.Searches.{searches_in}
use Rattle.hx_history.proofs.searched.searches.Given as goal

abbrev pub invariant-loop-row : goal.invariant-loop-row
invariant-loop-row l =
    l.searches ++ flat_map (λ row. flat_map (searches_in l.script) row.items) (drop l.row-index l.row-items)
    ≡ flat_map (λ row. flat_map (searches_in l.script) row.items) l.row-items
