-- The names and calls of sessions are the script's.
use Rattle.std.proofs.Common.{◌≡◌, List, [], ◌∷◌, refl, ◌∙◌, eqb}
use Rattle.std.proofs.lemmas.Bool.{cond_both}
use Rattle.hx_model.specs.Types.{Actor, Coordinator, Entry, Script, Server, Session, SessionId}
use Rattle.hx_types.specs.Fitting.{calls_of}
use Rattle.hx_model.specs.Runs.{session_after, session_of}
use Rattle.hx_model.specs.SessionSteps.{SessionState, session_step}
use Rattle.hx_law_lemmas.proofs.Lemmas.{session_turn, started_same}

-- each session has its name and its calls
abbrev pub AreNamed : Script → List Entry → Type 0
AreNamed script t = (u : SessionId) → ((session_of script u t).id ≡ u) × ((session_of script u t).calls ≡ calls_of script u)

-- so it is after whatever entries
pub named : (script : Script) (t : List Entry) → AreNamed script t
named script [] u = (refl, refl)
named script (x ∷ older) u = by (named script older u) x.actor
  where
    by : ((session_of script u older).id ≡ u) × ((session_of script u older).calls ≡ calls_of script u) → (a : Actor)
        → ((session_after script.space u a x.input (session_of script u older)).id ≡ u)
        × ((session_after script.space u a x.input (session_of script u older)).calls ≡ calls_of script u)
    by before Coordinator = before
    by before (Server i) = before
    by before (Session w) =
        cond_both (eqb w.0 u.0) (session_step script.space (session_of script u older) x.input).state (session_of script u older)
        (λ (s : SessionState). (s.id ≡ u) × (s.calls ≡ calls_of script u))
        (λ t. let turn = session_turn script.space x.input (session_of script u older) in let same = started_same turn.start (session_of script u older) in
        (turn.turn.id ∙ same.0 ∙ before.0, turn.turn.calls ∙ same.1 ∙ before.1))
        (λ t. before)
