use Rattle.std.proofs.Common.{◌≡◌, ℕ, List, [], take}
use Rattle.std.specs.List.{filter}
use Rattle.std.specs.Option.{option_map_or}
use Rattle.std.specs.Str.{bytes_eq}
use Rattle.indexmap.specs.IndexMap.{get_by}
use Rattle.hx_history.specs.declared.events.Event.{Event}
use Rattle.hx_history.specs.Events.{event_view, key_of}
use Rattle.hx_history.proofs.key_histories.groups.Given as goal

abbrev pub invariant-loop-event : goal.invariant-loop-event
invariant-loop-event l =
    (q : List ℕ) → option_map_or (λ g. g.items) (get_by (λ k. bytes_eq q k.now) l.groups) []
    ≡ filter (λ (e : Event). bytes_eq q (key_of (event_view e))) (take l.event-index l.events)
