use Rattle.std.proofs.Common.{◌≡◌, ◌++◌, drop}
use Rattle.std.specs.List.{flat_map}
use Rattle.hx_history.specs.Calls.{records_in}
use Rattle.hx_history.proofs.recorded.records_from.Given as goal

abbrev pub invariant-loop-row : goal.invariant-loop-row
invariant-loop-row l =
    l.records ++ flat_map (λ row. flat_map records_in row.items) (drop l.row-index l.table)
    ≡ flat_map (λ row. flat_map records_in row.items) l.table
