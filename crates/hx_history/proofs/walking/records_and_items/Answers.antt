use Rattle.std.proofs.Common.{map, reverse, ap, sym, ◌∙◌}
use Rattle.std.proofs.lemmas.List.Folds.{flat_map-map}
use Rattle.std.specs.List.{flat_map}
use Rattle.hx_history.specs.Calls.{records_in}
use Rattle.hx_history.specs.Events.{event_view}
use Rattle.hx_history.proofs.RecordRows.{records_are}
use Rattle.hx_history.proofs.walking.records_and_items.Goals as goal

pub returns-clause-records : goal.returns-clause-records
returns-clause-records c =
    c.in_ok-records.ensures
    ∙ ap (flat_map (λ row. flat_map records_in row.items)) c.deref.ensures.value
    ∙ sym (flat_map-map (flat_map records_in) (λ row. row.items) c.in_ok-gathered.gathered.table.items)
    ∙ records_are c.args.script.now (reverse c.args.trace.now) (map (λ row. row.items) c.in_ok-gathered.gathered.table.items)
    c.in_ok-gathered.ensures.spans c.in_ok-gathered.ensures.as_script

pub returns-clause-histories : goal.returns-clause-histories
returns-clause-histories c =
    c.in_ok-histories.ensures c.args.trace.now (ap (map event_view) c.deref-2.ensures.value ∙ c.in_ok-gathered.ensures.events)
