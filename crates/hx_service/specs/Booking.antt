-- What a service keeps of its receipts and of how far its sessions are. Traces stand here newest first.
use Rattle.std.specs.Prelude.{◌≡◌, ℕ, ◌+◌, ◌<◌, Bool, ◌&&◌, ◌==◌, List, [], ◌∷◌, ◌++◌, length, map, slice_get, unwrap_or, Some}
use Rattle.hx_model.specs.Types.{Caller, Entry, Note, Script, SessionId}
use Rattle.hx_types.specs.declared.traces.Note.TheVariants as a_note
use Rattle.hx_law_growing.specs.Serving.{IsServed}
use Rattle.hx_service.specs.declared.progress.Progress.{Progress}
use Rattle.hx_service.specs.declared.receipts.Booked.{Booked}
use Rattle.hx_service.specs.declared.receipts.Receipt.{Receipt}
use Rattle.hx_service.specs.Progress.{after_note, progress_of}
use Rattle.hx_service.specs.Receipts.{caller_of, receipts_of}

-- a receipt without what lies in the trace: the version and the answer
abbrev pub booked_as : Receipt → Booked
booked_as r = record { caller = r.caller; begin = r.begin; end = r.end }

-- it is booked for the call
abbrev pub is_of : Caller → Booked → Bool
is_of c b = (b.caller.session.0 == c.session.0) && (b.caller.number == c.number)

-- what a note of the session in this entry books, so far as the session was
abbrev pub booked_by : SessionId → ℕ → Note → Progress → List Booked
booked_by u entry (a_note.Ended number version answer) p = record { caller = caller_of u number; begin = unwrap_or p.under_way 0; end = entry } ∷ []
booked_by u entry other p = []

-- what its notes in this entry book
abbrev pub booked_among : SessionId → ℕ → List Note → Progress → List Booked
booked_among u entry [] p = []
booked_among u entry (n ∷ rest) p = booked_by u entry n p ++ booked_among u entry rest (after_note entry n p)

-- sessions are numbered from 1
abbrev pub session_at : ℕ → SessionId
session_at place = record { 0 = place + 1 }

-- how far each of so many sessions is
pub record AreProgress (sessions : ℕ) (trace : List Entry) (xs : List Progress) : Type 0 where
  pub count : length xs ≡ sessions
  pub each : (place : ℕ) → place < sessions → slice_get xs place ≡ Some (progress_of (session_at place) trace)

-- what a service keeps
pub record IsServing (script : Script) (trace : List Entry) (progress : List Progress) (booked : List Booked) : Type 0 where
  pub served : IsServed trace
  pub progress_is : AreProgress (length script.sessions) trace progress
  pub booked_is : booked ≡ map booked_as (receipts_of trace)

-- all but the newest entry is booked
pub record LacksLast (script : Script) (trace : List Entry) (progress : List Progress) (booked : List Booked) : Type 0 where
  pub last : Entry
  pub older : List Entry
  pub trace_is : trace ≡ last ∷ older
  pub progress_is : AreProgress (length script.sessions) older progress
  pub booked_is : booked ≡ map booked_as (receipts_of older)
