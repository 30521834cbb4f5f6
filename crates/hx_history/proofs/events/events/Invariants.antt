use Rattle.std.proofs.Common.{◌≡◌, ◌++◌, map}
use Rattle.hx_history.specs.Events.{event_view, events_of}
use Rattle.hx_history.proofs.events.events.Given as goal

abbrev pub invariant-loop-entry : goal.invariant-loop-entry
invariant-loop-entry l =
    map event_view l.events.items ++ events_of l.script l.entry-iterator ≡ events_of l.script l.trace
