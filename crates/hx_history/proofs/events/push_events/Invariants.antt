use Rattle.std.proofs.Common.{◌≡◌, ◌++◌, map, drop}
use Rattle.hx_history.specs.Events.{event_view, events_in}
use Rattle.hx_history.proofs.events.push_events.Given as goal

abbrev pub invariant-loop-note : goal.invariant-loop-note
invariant-loop-note l =
    map event_view l.events.items ++ events_in l.script l.actor (drop l.note-index l.notes)
    ≡ map event_view l.initial.events.items ++ events_in l.script l.actor l.notes
