-- What the notes of a trace say of each call, as a table by session and number holds it.
use Rattle.hx_model.specs.Lines.{no_version}
use Rattle.std.specs.Prelude.{ℕ, List, [], ◌∷◌, map, length, if◌then◌else◌, ◌==◌, Option, None, Some}
use Rattle.std.specs.Option.{option_map}
use Rattle.hx_model.specs.Types.{Caller, Entry, Note, Record, SessionId}
use Rattle.hx_types.specs.declared.traces.Note.TheVariants as a_note
use Rattle.hx_types.specs.Words.{list_of, when_some}
use Rattle.hx_types.specs.Fitting.{is_doubt, numbered}
use Rattle.hx_model.specs.Histories.{CallEnd, begin_of, is_session, note_of_end}
use Rattle.hx_history.specs.declared.call_notes.Begin.{Begin}
use Rattle.hx_history.specs.declared.call_notes.End.{End}
use Rattle.hx_history.specs.declared.call_notes.CallNotes.{CallNotes}

-- the begin of a call and the note that ended it
pub record CallSpan : Type 0 where
  pub begin : Option Begin
  pub end : Option CallEnd

-- what the code's end points to
abbrev pub end_view : End → CallEnd
end_view e = record { entry = e.entry; version = e.version; answer = e.answer.now }

-- the begin and the end that the code's notes of a call hold
abbrev pub span_of : CallNotes → CallSpan
span_of s = record { begin = s.begin; end = option_map end_view s.end }

-- a call of which nothing is said
abbrev pub no_notes : CallNotes
no_notes = record { begin = None; end = None }

-- the call of a number after one more note of its session; a note before it in the entry decides over it
abbrev pub after_note : SessionId → ℕ → ℕ → Note → CallSpan → CallSpan
after_note u entry n (a_note.Began m) s =
    if m == n then record { begin = Some (record { caller = record { session = u; number = m }; entry = entry }); end = s.end } else s
after_note u entry n (a_note.Ended m version answer) s =
    if m == n then record { begin = s.begin; end = Some (record { entry = entry; version = version; answer = answer }) } else s
after_note u entry n (a_note.Assigned update) s = s
after_note u entry n (a_note.Issued config) s = s

-- the same after the notes of an entry, of which the first that speaks of it decides
abbrev pub after_notes : SessionId → ℕ → ℕ → List Note → CallSpan → CallSpan
after_notes u entry n [] s = s
after_notes u entry n (note ∷ rest) s = after_note u entry n note (after_notes u entry n rest s)

-- a call after one more entry
abbrev pub after_entry : Caller → ℕ → Entry → CallSpan → CallSpan
after_entry c place x s = if is_session c.session x.actor then after_notes c.session place c.number x.notes s else s

-- a call by the notes of a trace, newest first
abbrev pub notes_of : Caller → List Entry → CallSpan
notes_of c trace =
    record {
      begin = option_map (λ (entry : ℕ). record { caller = c; entry = entry }) (begin_of c trace);
      end = note_of_end c trace;
    }

-- a call in a table of rows, one for each session
abbrev pub span_in : List (List CallNotes) → Caller → Option CallSpan
span_in table c = when_some (numbered table c.session.0) None (λ (row : List CallNotes). option_map span_of (numbered row c.number))

-- how long the rows are
abbrev pub shape : {A : Type 0} → List (List A) → List ℕ
shape table = map (λ row. length row) table

-- the record of a call that began
abbrev pub record_by : Begin → Option CallEnd → Record
record_by b end =
    record {
      caller = b.caller;
      begin = b.entry;
      end = option_map (λ (e : CallEnd). e.entry) (when_some end None (λ (e : CallEnd). if is_doubt e.answer then None else Some e));
      version = when_some end no_version (λ (e : CallEnd). e.version);
      answer = option_map (λ (e : CallEnd). e.answer) end;
    }

-- the record of a call that began, by what the notes say of it
abbrev pub records_by : CallSpan → List Record
records_by s = list_of (option_map (λ (b : Begin). record_by b s.end) s.begin)

abbrev pub records_in : CallNotes → List Record
records_in s = records_by (span_of s)
