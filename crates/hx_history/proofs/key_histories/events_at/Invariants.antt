use Rattle.std.proofs.Common.{◌≡◌, take}
use Rattle.std.specs.List.{filter}
use Rattle.hx_history.specs.declared.events.Event.{Event}
use Rattle.hx_history.specs.Events.{event_view, is_at}
use Rattle.hx_history.proofs.key_histories.events_at.Given as goal

abbrev pub invariant-loop-event : goal.invariant-loop-event
invariant-loop-event l = l.found.items ≡ filter (λ (e : Event). is_at l.key (event_view e)) (take l.event-index l.events)
