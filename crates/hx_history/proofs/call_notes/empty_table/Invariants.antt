use Rattle.std.proofs.Common.{◌≡◌, List, map, length, replicate, take}
use Rattle.hx_model.specs.Types.{Op}
use Rattle.hx_history.specs.Calls.{no_notes}
use Rattle.hx_history.proofs.call_notes.empty_table.Given as goal

abbrev pub invariant-loop-calls : goal.invariant-loop-calls
invariant-loop-calls l =
    map (λ row. row.items) l.table.items ≡ map (λ (calls : List Op). replicate (length calls) no_notes) (take l.calls-index l.script.sessions)
