use Rattle.std.proofs.Common.{◌≡◌, ◌+◌, ◌<◌, Global, List, Vec, Some, map, length, get_or, sym, ap, ◌∙◌, arith}
use Rattle.std.proofs.lemmas.Option.{get_or_from_slice_get}
use Rattle.std.specs.Option.{option_map}
use Rattle.std.specs.Prelude.{slice_get}
use Rattle.hx_model.specs.Types.{Entry}
use Rattle.hx_types.specs.Fitting.{call_of}
use Rattle.hx_trace.specs.Entries.{entry_seen}
use Rattle.hx_history.specs.declared.call_notes.CallNotes.{CallNotes}
use Rattle.hx_history.specs.Calls.{after_entry, shape, span_in}
use Rattle.hx_history.proofs.Rows.{not_past, spans_at_start, shape_at_start, spans_more}
use Rattle.hx_history.proofs.call_notes.table.Goals as goal
use Rattle.hx_history.proofs.call_notes.table.Goals.{in-Some, in_default}

pub loop-place-init : goal.loop-place-init
loop-place-init c =
    record {
      spans = λ caller. ap (λ (rows : List (List CallNotes)). span_in rows caller) c.in_ok-table.ensures ∙ spans_at_start c.args.script.now caller;
      as_script = ap (λ (rows : List (List CallNotes)). shape rows) c.in_ok-table.ensures ∙ shape_at_start c.args.script.now.sessions;
    }

pub loop-place-preserved : goal.loop-place-preserved
loop-place-preserved c =
    let within : c.loop-place.place < length c.args.trace.now = omega (arith, c.loop-place-test.true, c.len-place-end.ensures) in
    elim c.match-get.branch [
      | in-Some w ↦
          let x : Entry = entry_seen w.in-Some.entry in
          let found : Some x ≡ slice_get c.args.trace.now c.loop-place.place = ap (option_map entry_seen) (sym w.in-Some.is) ∙ c.get.ensures in
          let read : x ≡ get_or c.args.trace.now c.loop-place.place x = sym (get_or_from_slice_get c.args.trace.now c.loop-place.place x x (sym found)) in
          record {
            spans = λ caller. ap (λ (t : Vec (Vec CallNotes Global) Global). span_in (map (λ row. row.items) t.items) caller) w.table-is
                ∙ w.take_entry.ensures.spans caller
                ∙ ap (option_map (after_entry caller (c.loop-place.place + 1) x)) (c.loop-place.invariant.spans caller)
                ∙ spans_more c.args.trace.now c.loop-place.place x within read caller (call_of c.args.script.now caller);
            as_script = ap (λ (t : Vec (Vec CallNotes Global) Global). shape (map (λ row. row.items) t.items)) w.table-is
                ∙ w.take_entry.ensures.same_shape ∙ c.loop-place.invariant.as_script;
          }
      | in_default w ↦ absurd (not_past c.args.trace.now c.loop-place.place within (ap (option_map entry_seen) (sym w.in_default.is) ∙ c.get.ensures))
    ]
