-- The finished searches of a trace, by session and number; traces stand newest first.
use Rattle.std.specs.Prelude.{List, Option, None, Some}
use Rattle.std.specs.List.{flat_map}
use Rattle.std.specs.Option.{option_map}
use Rattle.hx_model.specs.Types.{Caller, Entry, Row, Script, Searched, Term}
use Rattle.hx_types.specs.Fitting.{call_of}
use Rattle.hx_types.specs.Words.{list_of, when_some}
use Rattle.hx_model.specs.Histories.{CallEnd, callers_of}
use Rattle.hx_model.specs.Searching.{FinishedSearch, rows_in, search_of, terms_of}
use Rattle.hx_history.specs.declared.call_notes.Begin.{Begin}
use Rattle.hx_history.specs.declared.call_notes.CallNotes.{CallNotes}
use Rattle.hx_history.specs.Calls.{CallSpan, span_of}

-- a caller's finished search
abbrev pub searched : Caller → FinishedSearch → Searched
searched c s = record { caller = c; begin = s.begin; end = s.end; rows = s.rows }

-- the finished searches of all callers; one that was refused or is open is none
abbrev pub searches_of : Script → List Entry → List Searched
searches_of script trace = flat_map (λ (c : Caller). list_of (option_map (searched c) (search_of script trace c))) (callers_of script)

-- a call that began and ended as a search with rows
abbrev pub searched_with : Begin → CallEnd → Option (List Term) → Option (List Row) → Option Searched
searched_with b e None rows = None
searched_with b e (Some terms) None = None
searched_with b e (Some terms) (Some rows) = Some (record { caller = b.caller; begin = b.entry; end = e.entry; rows = rows })

abbrev pub searched_by : Script → Begin → CallEnd → Option Searched
searched_by script b e = searched_with b e (when_some (call_of script b.caller) None terms_of) (rows_in e.answer)

-- the finished search of a call, by what the notes say of it
abbrev pub searches_by : Script → CallSpan → List Searched
searches_by script s =
    list_of (when_some s.begin None (λ (b : Begin). when_some s.end None (λ (e : CallEnd). searched_by script b e)))

abbrev pub searches_in : Script → CallNotes → List Searched
searches_in script s = searches_by script (span_of s)
