use Rattle.std.proofs.Common.{List, map, ap, ◌∙◌}
use Rattle.std.specs.List.{filter}
use Rattle.hx_history.specs.declared.events.Event.{Event}
use Rattle.hx_history.specs.Events.{event_view, history_by, is_at, item_view}
use Rattle.hx_history.proofs.ByEvents.{history_found}
use Rattle.hx_history.proofs.key_histories.history.Goals as goal

pub returns : goal.returns
returns c =
    c.in_ok-copies.ensures ∙ ap (map item_view) c.deref-3.ensures.value ∙ c.in_ok-items.ensures
    ∙ ap (λ (es : List Event). history_by c.args.script.now (map event_view es))
    (
    c.deref-2.ensures.value ∙ c.in_ok-found.ensures
    ∙ ap (filter (λ (e : Event). is_at c.args.key.now (event_view e))) c.deref.ensures.value
    )
    ∙ history_found c.args.script.now c.args.key.now c.args.trace.now c.in_ok-all.all.items c.in_ok-all.ensures
