use Rattle.std.proofs.Common.{◌≡◌, ◌↔◌, ◌+◌, ◌++◌, ◌<◌, [], false, Global, List, Vec, map, length, get_or, take, sym, subst, ap, ◌∙◌, arith, append-nil, refl}
use Rattle.std.specs.Option.{option_map}
use Rattle.hx_model.specs.Types.{Entry, Note}
use Rattle.hx_types.specs.Fitting.{call_of}
use Rattle.hx_trace.specs.Entries.{entry_seen}
use Rattle.hx_history.specs.declared.call_notes.CallNotes.{CallNotes}
use Rattle.hx_history.specs.declared.events.Event.{Event}
use Rattle.hx_history.specs.Calls.{after_entry, shape, span_in}
use Rattle.hx_history.specs.Events.{KeyEvent, event_view, events_in, events_of}
use Rattle.hx_history.specs.Issued.{issued_in}
use Rattle.hx_history.proofs.Issuing.{issued_as_before, issued_more}
use Rattle.hx_history.proofs.Rows.{spans_at_start, shape_at_start, spans_more}
use Rattle.hx_history.proofs.Unnoted.{unsaid}
use Rattle.hx_trace.proofs.Lemmas.{noted_at, unnoted_at}
use Rattle.hx_history.proofs.ByEvents.{events_more}
use Rattle.hx_history.proofs.walking.gather.Goals as goal
use Rattle.hx_history.proofs.walking.gather.Goals.{in-Some+in_ok-push_events, in_default}

pub loop-place-init : goal.loop-place-init
loop-place-init c =
    record {
      spans = λ caller. ap (λ (rows : List (List CallNotes)). span_in rows caller) c.in_ok-table.ensures ∙ spans_at_start c.args.script.now caller;
      as_script = ap (λ (rows : List (List CallNotes)). shape rows) c.in_ok-table.ensures ∙ shape_at_start c.args.script.now.sessions;
      events = ap (map event_view) c.new-events.ensures.items;
      issued = (λ none. refl, λ none. refl);
    }

pub loop-place-preserved : goal.loop-place-preserved
loop-place-preserved c =
    let within : c.loop-place.place < length c.args.trace.now = omega (arith, c.loop-place-test.true, c.len-place-end.ensures) in
    elim c.match-noted.branch [
      | in-Some+in_ok-push_events w ↦
          let x : Entry = entry_seen w.in-Some.entry in
          let read : x ≡ get_or c.args.trace.now c.loop-place.place x =
          noted_at c.args.trace.now c.loop-place.place x (ap (option_map entry_seen) (sym w.in-Some.is) ∙ c.noted.ensures) in
          record {
            spans = λ caller. ap (λ (t : Vec (Vec CallNotes Global) Global). span_in (map (λ row. row.items) t.items) caller) w.table-is
                ∙ w.take_entry.ensures.spans caller
                ∙ ap (option_map (after_entry caller (c.loop-place.place + 1) x)) (c.loop-place.invariant.spans caller)
                ∙ spans_more c.args.trace.now c.loop-place.place x within read caller (call_of c.args.script.now caller);
            as_script = ap (λ (t : Vec (Vec CallNotes Global) Global). shape (map (λ row. row.items) t.items)) w.table-is
                ∙ w.take_entry.ensures.same_shape ∙ c.loop-place.invariant.as_script;
            events = ap (λ (es : Vec Event Global). map event_view es.items) w.events-is
                ∙ w.in_ok-push_events.ensures
                ∙ ap (λ (es : List KeyEvent). es ++ events_in c.args.script.now x.actor x.notes) c.loop-place.invariant.events
                ∙ events_more c.args.script.now c.args.trace.now c.loop-place.place x within read;
            issued = subst (λ b. (b ≡ false) ↔ (issued_in (take (c.loop-place.place + 1) c.args.trace.now) ≡ [])) (sym w.issued-is)
                (issued_more c.args.trace.now c.loop-place.place x within read _ _ c.loop-place.invariant.issued w.has_issued-issued.ensures);
          }
      | in_default w ↦
          let here = unnoted_at c.args.trace.now c.loop-place.place within (ap (option_map entry_seen) (sym w.in_default.is) ∙ c.noted.ensures) in
          let x : Entry = here.0 in
          let read : x ≡ get_or c.args.trace.now c.loop-place.place x = here.1 in
          record {
            spans = λ caller. ap (λ (t : Vec (Vec CallNotes Global) Global). span_in (map (λ row. row.items) t.items) caller) w.table-is
                ∙ c.loop-place.invariant.spans caller
                ∙ unsaid caller (c.loop-place.place + 1) x here.2 _
                ∙ spans_more c.args.trace.now c.loop-place.place x within read caller (call_of c.args.script.now caller);
            as_script = ap (λ (t : Vec (Vec CallNotes Global) Global). shape (map (λ row. row.items) t.items)) w.table-is ∙ c.loop-place.invariant.as_script;
            events = ap (λ (es : Vec Event Global). map event_view es.items) w.events-is
                ∙ c.loop-place.invariant.events
                ∙ sym (append-nil (events_of c.args.script.now (take c.loop-place.place c.args.trace.now)))
                ∙ ap (λ (ns : List Note). events_of c.args.script.now (take c.loop-place.place c.args.trace.now)
                ++ events_in c.args.script.now x.actor ns) (sym here.2)
                ∙ events_more c.args.script.now c.args.trace.now c.loop-place.place x within read;
            issued = subst (λ b. (b ≡ false) ↔ (issued_in (take (c.loop-place.place + 1) c.args.trace.now) ≡ [])) (sym w.issued-is)
                (issued_as_before c.args.trace.now c.loop-place.place x within read here.2 _ c.loop-place.invariant.issued);
          }
    ]
