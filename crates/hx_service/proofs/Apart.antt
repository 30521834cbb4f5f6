-- What an entry does for the calls of sessions that aren't its actor: nothing. And which receipts are a session's.
use Rattle.std.proofs.Common.{◌≡◌, ℕ, ◌+◌, ◌⊎◌, inl, inr, Bool, true, false, ◌&&◌, List, [], ◌∷◌, length, cond, Some, refl, ap, ◌∙◌}
use Rattle.std.specs.List.{filter}
use Rattle.std.proofs.lemmas.Bool.{cond-true, cond-false, eq-eqb}
use Rattle.hx_model.specs.Types.{Actor, Caller, Coordinator, Entry, Input, Note, Script, Server, Session, SessionId, Space}
use Rattle.hx_types.specs.declared.traces.Note.TheVariants as a_note
use Rattle.hx_types.specs.Words.{first_some, same_session}
use Rattle.hx_model.specs.Runs.{session_after, session_of}
use Rattle.hx_model.specs.SessionSteps.{SessionState, session_step}
use Rattle.hx_model.specs.Histories.{begin_of, begins_in, ends_in, is_session, note_of_end}
use Rattle.hx_law_lemmas.proofs.Lemmas.{of_session}
use Rattle.hx_service.specs.declared.receipts.Receipt.{Receipt}
use Rattle.hx_service.specs.Progress.{after_notes, progress_of}
use Rattle.hx_service.specs.Receipts.{caller_of, is_by, receipt_at, receipts_among, receipts_now}

-- an actor is the session or not
pub acts_or : (u : SessionId) (a : Actor) → (a ≡ Session u) ⊎ (is_session u a ≡ false)
acts_or u a = by (is_session u a) refl
  where
    by : (b : Bool) → is_session u a ≡ b → (a ≡ Session u) ⊎ (is_session u a ≡ false)
    by true e = inl (of_session u a e)
    by false e = inr e

-- another actor's step leaves a session
after-apart : (space : Space) (u : SessionId) (a : Actor) (input : Input) (s : SessionState) → is_session u a ≡ false → session_after space u a input s ≡ s
after-apart space u Coordinator input s e = refl
after-apart space u (Server i) input s e = refl
after-apart space u (Session w) input s e = cond-false (same_session w u) (session_step space s input).state s e

pub state-apart : (script : Script) (older : List Entry) (x : Entry) (u : SessionId) → is_session u x.actor ≡ false
    → session_of script u (x ∷ older) ≡ session_of script u older
state-apart script older x u e = after-apart script.space u x.actor x.input (session_of script u older) e

pub begin-apart : (older : List Entry) (x : Entry) (c : Caller) → is_session c.session x.actor ≡ false → begin_of c (x ∷ older) ≡ begin_of c older
begin-apart older x c e = ap (λ (b : Bool). cond (b && begins_in c.number x.notes) (Some (length older + 1)) (begin_of c older)) e

pub end-apart : (older : List Entry) (x : Entry) (c : Caller) → is_session c.session x.actor ≡ false → note_of_end c (x ∷ older) ≡ note_of_end c older
end-apart older x c e =
    ap (λ (b : Bool). cond b (first_some (ends_in (length older + 1) c.number x.notes) (note_of_end c older)) (note_of_end c older)) e

pub progress-apart : (older : List Entry) (x : Entry) (u : SessionId) → is_session u x.actor ≡ false → progress_of u (x ∷ older) ≡ progress_of u older
progress-apart older x u e = cond-false (is_session u x.actor) (after_notes (length older + 1) x.notes (progress_of u older)) (progress_of u older) e

-- the session's own entry
own : (x : Entry) (u : SessionId) → x.actor ≡ Session u → is_session u x.actor ≡ true
own x u acts = ap (λ (a : Actor). is_session u a) acts ∙ eq-eqb u.0 u.0 refl

pub begin-own : (older : List Entry) (x : Entry) (u : SessionId) (n : ℕ) (ns : List Note) → x.actor ≡ Session u → x.notes ≡ ns
    → begin_of (record { session = u; number = n }) (x ∷ older)
    ≡ cond (begins_in n ns) (Some (length older + 1)) (begin_of (record { session = u; number = n }) older)
begin-own older x u n ns acts e =
    let c : Caller = record { session = u; number = n } in
    ap (λ (b : Bool). cond (b && begins_in n x.notes) (Some (length older + 1)) (begin_of c older)) (own x u acts)
    ∙ ap (λ (l : List Note). cond (begins_in n l) (Some (length older + 1)) (begin_of c older)) e

pub end-own : (older : List Entry) (x : Entry) (u : SessionId) (n : ℕ) (ns : List Note) → x.actor ≡ Session u → x.notes ≡ ns
    → note_of_end (record { session = u; number = n }) (x ∷ older)
    ≡ first_some (ends_in (length older + 1) n ns) (note_of_end (record { session = u; number = n }) older)
end-own older x u n ns acts e =
    let c : Caller = record { session = u; number = n } in
    ap (λ (b : Bool). cond b (first_some (ends_in (length older + 1) n x.notes) (note_of_end c older)) (note_of_end c older)) (own x u acts)
    ∙ ap (λ (l : List Note). first_some (ends_in (length older + 1) n l) (note_of_end c older)) e

pub progress-own : (older : List Entry) (x : Entry) (u : SessionId) (ns : List Note) → x.actor ≡ Session u → x.notes ≡ ns
    → progress_of u (x ∷ older) ≡ after_notes (length older + 1) ns (progress_of u older)
progress-own older x u ns acts e =
    cond-true (is_session u x.actor) (after_notes (length older + 1) x.notes (progress_of u older)) (progress_of u older) (own x u acts)
    ∙ ap (λ (l : List Note). after_notes (length older + 1) l (progress_of u older)) e

-- another session's receipts aren't the session's
among-apart : (t : List Entry) (u w : SessionId) (notes : List Note) → same_session w u ≡ false → filter (is_by u) (receipts_among t w notes) ≡ []
among-apart t u w [] e = refl
among-apart t u w (a_note.Ended n v a ∷ rest) e = cond-false (same_session w u) _ (filter (is_by u) (receipts_among t w rest)) e ∙ among-apart t u w rest e
among-apart t u w (a_note.Began n ∷ rest) e = among-apart t u w rest e
among-apart t u w (a_note.Assigned update ∷ rest) e = among-apart t u w rest e
among-apart t u w (a_note.Issued config ∷ rest) e = among-apart t u w rest e

pub now-apart : (t : List Entry) (u : SessionId) (a : Actor) (notes : List Note) → is_session u a ≡ false → filter (is_by u) (receipts_now t a notes) ≡ []
now-apart t u Coordinator notes e = refl
now-apart t u (Server i) notes e = refl
now-apart t u (Session w) notes e = among-apart t u w notes e

-- and its own are
among-own : (t : List Entry) (u : SessionId) (notes : List Note) → filter (is_by u) (receipts_among t u notes) ≡ receipts_among t u notes
among-own t u [] = refl
among-own t u (a_note.Ended n v a ∷ rest) =
    cond-true (same_session u u) _ (filter (is_by u) (receipts_among t u rest)) (eq-eqb u.0 u.0 refl)
    ∙ ap (λ (l : List Receipt). receipt_at t (caller_of u n) v a ∷ l) (among-own t u rest)
among-own t u (a_note.Began n ∷ rest) = among-own t u rest
among-own t u (a_note.Assigned update ∷ rest) = among-own t u rest
among-own t u (a_note.Issued config ∷ rest) = among-own t u rest

pub now-is : (t : List Entry) (x : Entry) (u : SessionId) (ns : List Note) → x.actor ≡ Session u → x.notes ≡ ns
    → receipts_now t x.actor x.notes ≡ receipts_among t u ns
now-is t x u ns acts e = ap (λ (a : Actor). receipts_now t a x.notes) acts ∙ ap (receipts_among t u) e

pub now-own : (t : List Entry) (x : Entry) (u : SessionId) (ns : List Note) → x.actor ≡ Session u → x.notes ≡ ns
    → filter (is_by u) (receipts_now t x.actor x.notes) ≡ receipts_among t u ns
now-own t x u ns acts e = ap (filter (is_by u)) (now-is t x u ns acts e) ∙ among-own t u ns
