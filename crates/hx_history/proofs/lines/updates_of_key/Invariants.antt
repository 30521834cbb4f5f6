use Rattle.std.proofs.Common.{◌≡◌, map, reverse, drop}
use Rattle.std.specs.List.{fold}
use Rattle.std.specs.List.Sorted.{IsNonDecreasingBy}
use Rattle.hx_history.specs.Events.{event_view, line_by, lined, updates_at, version_at}
use Rattle.hx_history.proofs.lines.updates_of_key.Given as goal

abbrev pub invariant-loop-event : goal.invariant-loop-event
invariant-loop-event l =
    record {
      exact : fold lined (reverse (updates_at l.line.items)) (map event_view (drop l.event-index l.events)) ≡ line_by (map event_view l.events);
      sorted : IsNonDecreasingBy version_at l.line.items;
    }
