use Rattle.std.proofs.Common.{◌++◌, map, reverse, ap, sym, ◌∙◌}
use Rattle.std.proofs.lemmas.List.{append-nil, drop_all}
use Rattle.std.proofs.lemmas.List.Folds.{flat_map-map}
use Rattle.std.specs.List.{flat_map}
use Rattle.hx_history.specs.Searches.{searches_in}
use Rattle.hx_history.proofs.SearchRows.{searches_are}
use Rattle.hx_history.proofs.searched.searches.Goals as goal

pub returns : goal.returns
returns c =
    sym (append-nil c.loop-row.searches)
    ∙ ap (λ rows. c.loop-row.searches ++ flat_map (λ row. flat_map (searches_in c.args.script.now) row.items) rows)
    (sym (drop_all c.loop-row.row-index c.deref-row-items.result.now c.loop-row-test.false))
    ∙ c.loop-row.invariant
    ∙ ap (flat_map (λ row. flat_map (searches_in c.args.script.now) row.items)) c.deref-row-items.ensures.value
    ∙ sym (flat_map-map (flat_map (searches_in c.args.script.now)) (λ row. row.items) c.in_ok-table.table.items)
    ∙ searches_are c.args.script.now (reverse c.args.trace.now) (map (λ row. row.items) c.in_ok-table.table.items)
    c.in_ok-table.ensures.spans c.in_ok-table.ensures.as_script
