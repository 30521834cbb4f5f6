-- How far a session's calls are, by the notes of a trace; traces stand newest first.
use Rattle.std.specs.Prelude.{ℕ, ◌+◌, Bool, ◌&&◌, ◌==◌, is_none, List, [], ◌∷◌, length, if◌then◌else◌, None, Some}
use Rattle.hx_model.specs.Types.{Entry, Note, SessionId}
use Rattle.hx_types.specs.declared.traces.Note.TheVariants as a_note
use Rattle.hx_model.specs.Histories.{is_session}
use Rattle.hx_service.specs.declared.progress.Progress.{Progress}

-- no call has begun
abbrev pub no_progress : Progress
no_progress = record { begun = 0; under_way = None }

-- after a note of the session in this entry
abbrev pub after_note : ℕ → Note → Progress → Progress
after_note entry (a_note.Began number) p = record { begun = number; under_way = Some entry }
after_note entry (a_note.Ended number version answer) p = record { begun = p.begun; under_way = None }
after_note entry other p = p

-- after the session's notes in this entry
abbrev pub after_notes : ℕ → List Note → Progress → Progress
after_notes entry [] p = p
after_notes entry (n ∷ rest) p = after_notes entry rest (after_note entry n p)

-- after a trace
abbrev pub progress_of : SessionId → List Entry → Progress
progress_of u [] = no_progress
progress_of u (x ∷ older) =
    if is_session u x.actor then after_notes (length older + 1) x.notes (progress_of u older) else progress_of u older

-- no call is under way, and so many have begun
abbrev pub is_resting : Progress → ℕ → Bool
is_resting p calls = is_none p.under_way && (p.begun == calls)
