-- The records of a table's rows are those of the begun calls.
use Rattle.std.proofs.Common.{◌≡◌, ℕ, List, Option, Some, None, refl}
use Rattle.std.specs.List.{flat_map}
use Rattle.std.specs.Option.{option_map}
use Rattle.hx_model.specs.Types.{Caller, Entry, Op, Script}
use Rattle.hx_types.specs.Words.{list_of}
use Rattle.hx_types.specs.Fitting.{call_of}
use Rattle.hx_model.specs.Histories.{begin_of, note_of_end, record_at, record_of, records_of}
use Rattle.hx_history.specs.declared.call_notes.Begin.{Begin}
use Rattle.hx_history.specs.declared.call_notes.CallNotes.{CallNotes}
use Rattle.hx_history.specs.Calls.{notes_of, record_by, records_by, records_in, shape, span_in}
use Rattle.hx_history.proofs.Gathered.{gathered_are}

by_begin : (c : Caller) (trace : List Entry) (begin : Option ℕ)
    → list_of (option_map (λ (b : Begin). record_by b (note_of_end c trace)) (option_map (λ (entry : ℕ). record { caller = c; entry = entry }) begin))
    ≡ list_of (option_map (record_at c trace) begin)
by_begin c trace None = refl
by_begin c trace (Some entry) = refl

record_of_notes : (trace : List Entry) (c : Caller) → records_by (notes_of c trace) ≡ record_of trace c
record_of_notes trace c = by_begin c trace (begin_of c trace)

pub records_are : (script : Script) (trace : List Entry) (table : List (List CallNotes))
    → ((c : Caller) → span_in table c ≡ option_map (λ (op : Op). notes_of c trace) (call_of script c))
    → shape table ≡ shape script.sessions
    → flat_map (flat_map records_in) table ≡ records_of script trace
records_are script trace table spans as_script =
    gathered_are records_by (record_of trace) script trace table (record_of_notes trace) spans as_script
