-- The receipts of a trace: one for each note of a call's end, in the order of these notes. Traces stand newest first, receipts oldest first.
use Rattle.std.specs.Prelude.{◌≡◌, ℕ, ◌+◌, Bool, List, [], ◌∷◌, ◌++◌, length, IsSome, unwrap_or, Some}
use Rattle.std.specs.List.{filter}
use Rattle.hx_model.specs.Types.{Actor, Answer, Caller, Entry, Note, Script, Session, SessionId, Version}
use Rattle.hx_types.specs.declared.traces.Note.TheVariants as a_note
use Rattle.hx_types.specs.Fitting.{call_of, calls_of}
use Rattle.hx_types.specs.Words.{same_session}
use Rattle.hx_model.specs.Histories.{begin_of, note_of_end}
use Rattle.hx_service.specs.declared.receipts.Receipt.{Receipt}

-- a call of a session
abbrev pub caller_of : SessionId → ℕ → Caller
caller_of u number = record { session = u; number = number }

-- the receipt of a call that the newest entry of the trace ended
abbrev pub receipt_at : List Entry → Caller → Version → Answer → Receipt
receipt_at trace c version answer =
    record { caller = c; begin = unwrap_or (begin_of c trace) 0; end = length trace; version = version; answer = answer }

-- the receipts of the ends among the session's notes of the newest entry
abbrev pub receipts_among : List Entry → SessionId → List Note → List Receipt
receipts_among trace u [] = []
receipts_among trace u (a_note.Ended number version answer ∷ rest) =
    receipt_at trace (caller_of u number) version answer ∷ receipts_among trace u rest
receipts_among trace u (other ∷ rest) = receipts_among trace u rest

-- the same of whatever actor's notes
abbrev pub receipts_now : List Entry → Actor → List Note → List Receipt
receipts_now trace (Session u) notes = receipts_among trace u notes
receipts_now trace other notes = []

-- the receipts of all ends
abbrev pub receipts_of : List Entry → List Receipt
receipts_of [] = []
receipts_of (x ∷ older) = receipts_of older ++ receipts_now (x ∷ older) x.actor x.notes

-- the receipt is of a call of the session
abbrev pub is_by : SessionId → Receipt → Bool
is_by u r = same_session r.caller.session u

-- the receipts of the session's calls
abbrev pub receipts_by : SessionId → List Entry → List Receipt
receipts_by u trace = filter (is_by u) (receipts_of trace)

-- the receipt is the call's record: which entry began it, and the note that ended it
pub record IsReceiptOf (trace : List Entry) (r : Receipt) : Type 0 where
  pub began : begin_of r.caller trace ≡ Some r.begin
  pub ended : note_of_end r.caller trace ≡ Some (record { entry = r.end; version = r.version; answer = r.answer })

-- each call that the script has for the session has ended
abbrev pub IsFree : Script → List Entry → SessionId → Type 0
IsFree script trace u =
    (number : ℕ) → IsSome (call_of script (caller_of u number)) → IsSome (note_of_end (caller_of u number) trace)

-- the next call of the session
abbrev pub next_caller : Script → SessionId → Caller
next_caller script u = caller_of u (length (calls_of script u) + 1)
