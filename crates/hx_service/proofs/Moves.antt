-- What an entry of a session does for its calls: nothing, a begin, an end, or a begin and an end.
use Rattle.std.proofs.Common.{◌≡◌, ◌+◌, ◌⊎◌, inl, inr, true, false, List, [], ◌∷◌, ◌++◌, Option, Some, None, refl, sym, ap, ◌∙◌, subst, eqb}
use Rattle.std.specs.Prelude.{Bool}
use Rattle.std.proofs.lemmas.Bool.{cond-true, eq-eqb}
use Rattle.hx_model.specs.Types.{Actor, Entry, Note, Script, Session, SessionId}
use Rattle.hx_types.specs.declared.traces.Note.TheVariants as a_note
use Rattle.hx_model.specs.Runs.{IsStep, made_of, session_after, session_of}
use Rattle.hx_model.specs.SessionSteps.{SessionState, session_step}
use Rattle.hx_law_lemmas.proofs.Lemmas.{CallStop, began_notes, end_notes, goes_on, started, SessionTurn, session_turn, all_notes}

-- nothing is noted
pub record Rests (s t : SessionState) (notes : List Note) : Type 0 where
  pub notes_are : notes ≡ []
  pub begun : t.begun ≡ s.begun
  pub way : t.under_way ≡ s.under_way

-- the next call begins
pub record Begins (s t : SessionState) (notes : List Note) : Type 0 where
  pub notes_are : notes ≡ a_note.Began (s.begun + 1) ∷ []
  pub was : s.under_way ≡ false
  pub begun : t.begun ≡ s.begun + 1
  pub way : t.under_way ≡ true

-- the call under way ends
pub record Ends (s t : SessionState) (notes : List Note) : Type 0 where
  pub stop : CallStop
  pub notes_are : notes ≡ a_note.Ended s.begun stop.version stop.answer ∷ []
  pub was : s.under_way ≡ true
  pub begun : t.begun ≡ s.begun
  pub way : t.under_way ≡ false

-- the next call begins and ends
pub record BeginsAndEnds (s t : SessionState) (notes : List Note) : Type 0 where
  pub stop : CallStop
  pub notes_are : notes ≡ a_note.Began (s.begun + 1) ∷ a_note.Ended (s.begun + 1) stop.version stop.answer ∷ []
  pub was : s.under_way ≡ false
  pub begun : t.begun ≡ s.begun + 1
  pub way : t.under_way ≡ false

-- one of these
abbrev pub Move : SessionState → SessionState → List Note → Type 0
Move s t notes = Rests s t notes ⊎ (Begins s t notes ⊎ (Ends s t notes ⊎ BeginsAndEnds s t notes))

module _ (script : Script) (older : List Entry) (x : Entry) (u : SessionId) (step : IsStep script older x) (acts : x.actor ≡ Session u) where
  abbrev before : SessionState
  before = session_of script u older

  abbrev after : SessionState
  after = session_of script u (x ∷ older)

  -- the state after the entry, with what it posts and notes, is that of the session's step
  step_is : session_step script.space before x.input ≡ record { state = after; posts = x.outputs; notes = x.notes }
  step_is =
      let made : made_of script older (Session u) x.input ≡ record { posts = x.outputs; notes = x.notes }
      = subst (λ (a : Actor). made_of script older a x.input ≡ record { posts = x.outputs; notes = x.notes }) acts step.made in
      let state : after ≡ (session_step script.space before x.input).state
      = ap (λ (a : Actor). session_after script.space u a x.input before) acts ∙ cond-true (eqb u.0 u.0) _ before (eq-eqb u.0 u.0 refl) in
      λ i. record { state = sym state i; posts = (made i).posts; notes = (made i).notes }

  turn : SessionTurn x.input before (record { state = after; posts = x.outputs; notes = x.notes })
  turn = subst (SessionTurn x.input before) step_is (session_turn script.space x.input before)

  -- each entry of a session is one of these
  pub move : Move before after x.notes
  move = by turn.start refl turn.turn.stop refl
    where
      noted : (b : Bool) → turn.start ≡ b → (o : Option CallStop) → turn.turn.stop ≡ o
          → x.notes ≡ began_notes b (before.begun + 1) ++ end_notes (started b before).begun o
      noted b e o f =
          all_notes x.input before _ turn
          ∙ ap (λ (k : Bool). began_notes k (before.begun + 1) ++ end_notes (started k before).begun turn.turn.stop) e
          ∙ ap (λ (p : Option CallStop). began_notes b (before.begun + 1) ++ end_notes (started b before).begun p) f

      begun : (b : Bool) → turn.start ≡ b → after.begun ≡ (started b before).begun
      begun b e = turn.turn.begun ∙ ap (λ (k : Bool). (started k before).begun) e

      way : (b : Bool) → turn.start ≡ b → (o : Option CallStop) → turn.turn.stop ≡ o → after.under_way ≡ goes_on o (started b before).under_way
      way b e o f =
          turn.turn.under_way
          ∙ ap (λ (k : Bool). goes_on turn.turn.stop (started k before).under_way) e
          ∙ ap (λ (p : Option CallStop). goes_on p (started b before).under_way) f

      by : (b : Bool) → turn.start ≡ b → (o : Option CallStop) → turn.turn.stop ≡ o → Move before after x.notes
      by false e None f = inl (record { notes_are = noted false e None f; begun = begun false e; way = way false e None f })
      by true e None f = inr (inl (record { notes_are = noted true e None f; was = turn.fresh e; begun = begun true e; way = way true e None f }))
      by false e (Some stop) f =
          inr (inr (inl (record {
            stop = stop;
            notes_are = noted false e (Some stop) f;
            was = ap (λ (k : Bool). (started k before).under_way) (sym e) ∙ turn.turn.running stop f;
            begun = begun false e;
            way = way false e (Some stop) f;
          })))
      by true e (Some stop) f =
          inr (inr (inr (record {
            stop = stop;
            notes_are = noted true e (Some stop) f;
            was = turn.fresh e;
            begun = begun true e;
            way = way true e (Some stop) f;
          })))
