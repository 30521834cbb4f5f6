-- What sessions note says nothing of epochs, and they adopt only what is delivered to them.
use Rattle.hx_law_lemmas.proofs.Lemmas.Vocabulary.{ap, Bool, config_noted, Epoch, false, inl, Input, inr, None, Option, refl, session_step, SessionState, Some}
use Rattle.hx_law_lemmas.proofs.Lemmas.Vocabulary.{Space, true, ℕ, ◌++◌, ◌+◌, ◌∙◌, ◌≡◌}
use Rattle.hx_law_lemmas.proofs.Lemmas.{ConfigBy, session-does, CallStop, began_notes, end_notes, started, session_turn, all_notes}

-- a session issues nothing
turn-issues : (epoch : Epoch) (b : Bool) (m n : ℕ) (stop : Option CallStop) → config_noted epoch (began_notes b m ++ end_notes n stop) ≡ None
turn-issues epoch false m n None = refl
turn-issues epoch false m n (Some e) = refl
turn-issues epoch true m n None = refl
turn-issues epoch true m n (Some e) = refl

pub session-issues : (space : Space) (input : Input) (s : SessionState) (epoch : Epoch) → config_noted epoch (session_step space s input).notes ≡ None
session-issues space input s epoch =
    let t = session_turn space input s in
    ap (config_noted epoch) (all_notes input s (session_step space s input) t) ∙ turn-issues epoch t.start (s.begun + 1) (started t.start s).begun t.turn.stop

-- ---- the configuration of a session

-- it goes on in it, or adopts one that is delivered
pub session-config : (space : Space) (s : SessionState) (input : Input) → ConfigBy input s (session_step space s input).state
session-config space s input = let d = session-does space s input in elim d.config [
  | inl e ↦ inl (d.goes.config ∙ e)
  | inr (id, from, config, q, e, l) ↦ inr (id, from, config, q, d.goes.config ∙ e, l)
]
