use Rattle.std.proofs.Common.{◌≡◌, ◌++◌, drop}
use Rattle.std.specs.List.{flat_map}
use Rattle.hx_history.specs.Calls.{records_in}
use Rattle.hx_history.proofs.recorded.push_records.Given as goal

abbrev pub invariant-loop-call : goal.invariant-loop-call
invariant-loop-call l =
    l.records ++ flat_map records_in (drop l.call-index l.notes) ≡ l.initial.records ++ flat_map records_in l.notes
