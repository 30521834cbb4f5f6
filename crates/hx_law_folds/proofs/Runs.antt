-- A server of a trace and the server without its past that takes the same inputs.
use Rattle.hx_law_folds.proofs.Vocabulary.{[], Actor, AllByRecursion, ap, cond-false, cond-true, cond_both, Coordinator, first_config, folded_replica}
use Rattle.hx_law_folds.proofs.Vocabulary.{folded_server, Input, InputFits, IsReplicaOf, IsServerOf, List, listed_regions, map, refl, RegionId, Replica, Server}
use Rattle.hx_law_folds.proofs.Vocabulary.{server_at_start, server_step, ServerId, ServerState, ServerStep, Session, Space, sym, true, ◌∙◌, ◌∷◌, ◌≡◌}
use Rattle.hx_model.specs.Types.{Entry, Script}
use Rattle.hx_types.specs.Words.{same_server}
use Rattle.hx_model.specs.Runs.{server_after, server_of}
use Rattle.hx_law_folds.specs.Folding.{InputsFit, lean_after, lean_of}
use Rattle.hx_law_folds.proofs.Servers.{server-folds}
use Rattle.hx_law_folds.proofs.Staying.{server-stays}

start-replicas : (space : Space) (gs : List RegionId)
    → AllByRecursion (IsReplicaOf space) (map (λ (g : RegionId). record { region = g; installed = true; states = [] }) gs)
start-replicas space [] = tt
start-replicas space (g ∷ gs) = (tt, start-replicas space gs)

start-folded : (gs : List RegionId) → map folded_replica
    (map (λ (g : RegionId). record { region = g; installed = true; states = [] }) gs)
    ≡ map (λ (g : RegionId). record { region = g; installed = true; states = [] }) gs
start-folded [] = refl
start-folded (g ∷ gs) = ap (λ (rs : List Replica). record { region = g; installed = true; states = [] } ∷ rs) (start-folded gs)

-- the slots of each server of a trace are in order
after-entry : (space : Space) (s : ServerId) (a : Actor) (input : Input) (state : ServerState)
    → IsServerOf space state → InputFits input → IsServerOf space (server_after space s a input state)
after-entry space s Coordinator input state h f = h
after-entry space s (Session u) input state h f = h
after-entry space s (Server x) input state h f =
    cond_both (same_server x s) (server_step space state input).state state (IsServerOf space)
    (λ e. server-stays space state h input f) (λ e. h)

pub server-of : (script : Script) (s : ServerId) (trace : List Entry) → InputsFit trace → IsServerOf script.space (server_of script s trace)
server-of script s [] f = start-replicas script.space (listed_regions (first_config script.space) s)
server-of script s (x ∷ older) f = after-entry script.space s x.actor x.input (server_of script s older) (server-of script s older f.1) f.0

-- the server without its past that takes the same inputs is the server, without its past
lean-entry : (space : Space) (s : ServerId) (a : Actor) (input : Input) (state : ServerState) → IsServerOf space state → InputFits input
    → lean_after space s a input (folded_server state) ≡ folded_server (server_after space s a input state)
lean-entry space s Coordinator input state h f = refl
lean-entry space s (Session u) input state h f = refl
lean-entry space s (Server x) input state h f =
    cond_both (same_server x s) (server_step space state input).state state
    (λ (y : ServerState). lean_after space s (Server x) input (folded_server state) ≡ folded_server y)
    (λ e. cond-true (same_server x s) _ _ e ∙ ap (λ (step : ServerStep). step.state) (server-folds space state h input f))
    (λ e. cond-false (same_server x s) _ _ e)

pub lean-of : (script : Script) (s : ServerId) (trace : List Entry) → InputsFit trace → lean_of script s trace ≡ folded_server (server_of script s trace)
lean-of script s [] f = λ j. record (server_at_start script.space s) { replicas = sym (start-folded (listed_regions (first_config script.space) s)) j }
lean-of script s (x ∷ older) f =
    ap (lean_after script.space s x.actor x.input) (lean-of script s older f.1)
    ∙ lean-entry script.space s x.actor x.input (server_of script s older) (server-of script s older f.1) f.0
