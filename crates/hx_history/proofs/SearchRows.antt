-- The finished searches of a table's rows are those of all callers.
use Rattle.std.proofs.Common.{◌≡◌, ℕ, List, Option, Some, None, refl, ap}
use Rattle.std.specs.Prelude.{if◌then◌else◌}
use Rattle.std.specs.List.{flat_map}
use Rattle.std.specs.Option.{option_map}
use Rattle.hx_model.specs.Types.{Answer, Caller, Entry, Op, Script, Searched, Term, Version}
use Rattle.hx_types.specs.declared.calls.Answer.TheVariants as an_answer
use Rattle.hx_types.specs.Words.{list_of, when_some}
use Rattle.hx_types.specs.Fitting.{call_of, is_doubt}
use Rattle.hx_model.specs.Histories.{CallEnd, begin_of, note_of_end}
use Rattle.hx_model.specs.Searching.{rows_in, search_of, terms_of, with_rows}
use Rattle.hx_history.specs.declared.call_notes.Begin.{Begin}
use Rattle.hx_history.specs.declared.call_notes.CallNotes.{CallNotes}
use Rattle.hx_history.specs.Calls.{notes_of, shape, span_in}
use Rattle.hx_history.specs.Searches.{searched, searched_by, searched_with, searches_by, searches_in, searches_of}
use Rattle.hx_history.proofs.Gathered.{gathered_are}

-- rows that ended a call, which a doubt never has
by_answer : (c : Caller) (begin entry : ℕ) (version : Version) (terms : List Term) (answer : Answer)
    → searched_with (record { caller = c; entry = begin }) (record { entry = entry; version = version; answer = answer }) (Some terms) (rows_in answer)
    ≡ option_map (searched c)
    (when_some (if is_doubt answer then None else Some (record { entry = entry; version = version; answer = answer })) None
    (λ (e : CallEnd). with_rows c terms begin e.entry (rows_in e.answer)))
by_answer c begin entry version terms an_answer.Done = refl
by_answer c begin entry version terms other = refl

abbrev unless_doubt : Option CallEnd → Option CallEnd
unless_doubt end = when_some end None (λ (e : CallEnd). if is_doubt e.answer then None else Some e)

by_terms : (c : Caller) (begin : ℕ) (terms : Option (List Term)) (end : Option CallEnd)
    → when_some end None (λ (e : CallEnd). searched_with (record { caller = c; entry = begin }) e terms (rows_in e.answer))
    ≡ option_map (searched c)
    (when_some terms None
    (λ (ts : List Term). when_some (unless_doubt end) None (λ (e : CallEnd). with_rows c ts begin e.entry (rows_in e.answer))))
by_terms c begin None None = refl
by_terms c begin None (Some e) = refl
by_terms c begin (Some terms) None = refl
by_terms c begin (Some terms) (Some e) = by_answer c begin e.entry e.version terms e.answer

by_call : (c : Caller) (begin : ℕ) (call : Option Op) (end : Option CallEnd)
    → when_some end None (λ (e : CallEnd). searched_with (record { caller = c; entry = begin }) e (when_some call None terms_of) (rows_in e.answer))
    ≡ option_map (searched c)
    (when_some call None
    (λ (op : Op). when_some (terms_of op) None
    (λ (ts : List Term). when_some (unless_doubt end) None (λ (e : CallEnd). with_rows c ts begin e.entry (rows_in e.answer)))))
by_call c begin None None = refl
by_call c begin None (Some e) = refl
by_call c begin (Some op) end = by_terms c begin (terms_of op) end

-- a call that hasn't begun is no finished search
not_begun : (c : Caller) (terms : Option (List Term)) → None ≡ option_map (searched c) (when_some terms None (λ (ts : List Term). None))
not_begun c None = refl
not_begun c (Some terms) = refl

by_begin : (script : Script) (c : Caller) (begin : Option ℕ) (end : Option CallEnd)
    → when_some (option_map (λ (entry : ℕ). record { caller = c; entry = entry }) begin) None
    (λ (b : Begin). when_some end None (λ (e : CallEnd). searched_by script b e))
    ≡ option_map (searched c)
    (when_some (call_of script c) None
    (λ (op : Op). when_some (terms_of op) None
    (λ (ts : List Term). when_some begin None
    (λ (n : ℕ). when_some (unless_doubt end) None (λ (e : CallEnd). with_rows c ts n e.entry (rows_in e.answer))))))
by_begin script c None end = by_op (call_of script c)
  where
    by_op : (call : Option Op)
        → None ≡ option_map (searched c) (when_some call None (λ (op : Op). when_some (terms_of op) None (λ (ts : List Term). None)))
    by_op None = refl
    by_op (Some op) = not_begun c (terms_of op)
by_begin script c (Some entry) end = by_call c entry (call_of script c) end

search_of_notes : (script : Script) (trace : List Entry) (c : Caller)
    → searches_by script (notes_of c trace) ≡ list_of (option_map (searched c) (search_of script trace c))
search_of_notes script trace c = ap (λ (o : Option Searched). list_of o) (by_begin script c (begin_of c trace) (note_of_end c trace))

pub searches_are : (script : Script) (trace : List Entry) (table : List (List CallNotes))
    → ((c : Caller) → span_in table c ≡ option_map (λ (op : Op). notes_of c trace) (call_of script c))
    → shape table ≡ shape script.sessions
    → flat_map (flat_map (searches_in script)) table ≡ searches_of script trace
searches_are script trace table spans as_script =
    gathered_are (searches_by script) (λ (c : Caller). list_of (option_map (searched c) (search_of script trace c)))
    script trace table (search_of_notes script trace) spans as_script
