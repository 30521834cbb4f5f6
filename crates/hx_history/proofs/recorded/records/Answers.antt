use Rattle.std.proofs.Common.{map, reverse, ap, sym, ◌∙◌}
use Rattle.std.proofs.lemmas.List.Folds.{flat_map-map}
use Rattle.std.specs.List.{flat_map}
use Rattle.hx_history.specs.Calls.{records_in}
use Rattle.hx_history.proofs.RecordRows.{records_are}
use Rattle.hx_history.proofs.recorded.records.Goals as goal

pub returns : goal.returns
returns c =
    c.in_ok-records.ensures
    ∙ ap (flat_map (λ row. flat_map records_in row.items)) c.deref.ensures.value
    ∙ sym (flat_map-map (flat_map records_in) (λ row. row.items) c.in_ok-table.table.items)
    ∙ records_are c.args.script.now (reverse c.args.trace.now) (map (λ row. row.items) c.in_ok-table.table.items)
    c.in_ok-table.ensures.spans c.in_ok-table.ensures.as_script
