-- What an entry of a run holds, by its actor: what that made, and the state of a server after its own.
use Rattle.std.proofs.Common.{◌≡◌, List, ◌∷◌, refl, ap, ◌∙◌, subst}
use Rattle.std.proofs.lemmas.Bool.{cond-true, eq-eqb}
use Rattle.hx_model.specs.Types.{Actor, Entry, Script, Server, ServerId}
use Rattle.hx_types.specs.Words.{same_server}
use Rattle.hx_model.specs.Runs.{IsRun, made_of, server_after, server_of}
use Rattle.hx_model.specs.ServerSteps.{server_step}

-- its posts and notes are what its actor made
pub made-by : (script : Script) (x : Entry) (older : List Entry) → IsRun script (x ∷ older) → (a : Actor) → x.actor ≡ a
    → made_of script older a x.input ≡ record { posts = x.outputs; notes = x.notes }
made-by script x older run a e = subst (λ (b : Actor). made_of script older b x.input ≡ record { posts = x.outputs; notes = x.notes }) e run.0.made

-- a server is after it as its step leaves it
pub state-by : (script : Script) (x : Entry) (older : List Entry) (i : ServerId) → x.actor ≡ Server i
    → server_of script i (x ∷ older) ≡ (server_step script.space (server_of script i older) x.input).state
state-by script x older i e =
    ap (λ (a : Actor). server_after script.space i a x.input (server_of script i older)) e
    ∙ cond-true (same_server i i) (server_step script.space (server_of script i older) x.input).state (server_of script i older) (eq-eqb i.0 i.0 refl)
