use Rattle.std.proofs.Common.{◌≡◌, ◌++◌, map, drop}
use Rattle.hx_history.specs.Events.{event_view, read_view, reads_by}
use Rattle.hx_history.proofs.lines.reads_of.Given as goal

abbrev pub invariant-loop-event : goal.invariant-loop-event
invariant-loop-event l =
    map read_view l.reads.items ++ reads_by (map event_view (drop l.event-index l.events)) ≡ reads_by (map event_view l.events)
