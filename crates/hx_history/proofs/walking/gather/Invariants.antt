use Rattle.std.proofs.Common.{◌≡◌, ◌↔◌, [], false, map, reverse, take}
use Rattle.std.specs.Option.{option_map}
use Rattle.hx_model.specs.Types.{Caller, Op}
use Rattle.hx_types.specs.Fitting.{call_of}
use Rattle.hx_history.specs.Calls.{notes_of, shape, span_in}
use Rattle.hx_history.specs.Events.{event_view, events_of}
use Rattle.hx_history.specs.Issued.{issued_in}
use Rattle.hx_history.proofs.walking.gather.Given as goal

abbrev pub invariant-loop-place : goal.invariant-loop-place
invariant-loop-place l =
    record {
      spans : (c : Caller) → span_in (map (λ row. row.items) l.table.items) c
          ≡ option_map (λ (op : Op). notes_of c (reverse (take l.place l.trace))) (call_of l.script c);
      as_script : shape (map (λ row. row.items) l.table.items) ≡ shape l.script.sessions;
      events : map event_view l.events.items ≡ events_of l.script (take l.place l.trace);
      issued : (l.issued ≡ false) ↔ (issued_in (take l.place l.trace) ≡ []);
    }
