-- An actor's state after a trace, and what it makes there, is that after its own entries.
use Rattle.hx_law_lemmas.proofs.Lemmas.Vocabulary.{[], Actor, ap, cond, cond_both, Coordinator, coordinator_after, coordinator_of, coordinator_step}
use Rattle.hx_law_lemmas.proofs.Lemmas.Vocabulary.{CoordinatorState, Deliver, Entry, false, Halt, has_halted, Input, IsRun, IsStep, List, made_of, MayTake}
use Rattle.hx_law_lemmas.proofs.Lemmas.Vocabulary.{Note, Output, Post, refl, same_actor, Script, Server, server_after, server_of, server_step, ServerId}
use Rattle.hx_law_lemmas.proofs.Lemmas.Vocabulary.{ServerState, Session, session_after, session_of, session_step, SessionId, SessionState, Space, subst, sym}
use Rattle.hx_law_lemmas.proofs.Lemmas.Vocabulary.{Tick, ◌∙◌, ◌∷◌, ◌≡◌}
use Rattle.hx_law_threads.specs.Own.{own_entries, IsOwn, IsOwnStep, MayHalt}
use Rattle.hx_law_threads.specs.Laws.{IsByOwnEntries}
use Rattle.hx_law_threads.proofs.Actors.{same_actor_is}

server_other : (space : Space) (s : ServerId) (a : Actor) (input : Input) (state : ServerState)
    → same_actor a (Server s) ≡ false → server_after space s a input state ≡ state
server_other space s Coordinator input state e = refl
server_other space s (Session u) input state e = refl
server_other space s (Server x) input state e = ap (λ b. cond b (server_step space state input).state state) e

session_other : (space : Space) (u : SessionId) (a : Actor) (input : Input) (state : SessionState)
    → same_actor a (Session u) ≡ false → session_after space u a input state ≡ state
session_other space u Coordinator input state e = refl
session_other space u (Server s) input state e = refl
session_other space u (Session x) input state e = ap (λ b. cond b (session_step space state input).state state) e

coordinator_other : (a : Actor) (input : Input) (state : CoordinatorState) → same_actor a Coordinator ≡ false → coordinator_after a input state ≡ state
coordinator_other Coordinator input state e = absurd (cc)
coordinator_other (Server s) input state e = refl
coordinator_other (Session u) input state e = refl

server_own : (script : Script) (s : ServerId) (trace : List Entry) → server_of script s (own_entries (Server s) trace) ≡ server_of script s trace
server_own script s [] = refl
server_own script s (x ∷ older) =
    cond_both (same_actor x.actor (Server s)) (x ∷ own_entries (Server s) older) (own_entries (Server s) older)
    (λ l. server_of script s l ≡ server_of script s (x ∷ older))
    (λ t. ap (server_after script.space s x.actor x.input) (server_own script s older))
    (λ t. server_own script s older ∙ sym (server_other script.space s x.actor x.input (server_of script s older) t))

session_own : (script : Script) (u : SessionId) (trace : List Entry) → session_of script u (own_entries (Session u) trace) ≡ session_of script u trace
session_own script u [] = refl
session_own script u (x ∷ older) =
    cond_both (same_actor x.actor (Session u)) (x ∷ own_entries (Session u) older) (own_entries (Session u) older)
    (λ l. session_of script u l ≡ session_of script u (x ∷ older))
    (λ t. ap (session_after script.space u x.actor x.input) (session_own script u older))
    (λ t. session_own script u older ∙ sym (session_other script.space u x.actor x.input (session_of script u older) t))

coordinator_own : (script : Script) (trace : List Entry) → coordinator_of script (own_entries Coordinator trace) ≡ coordinator_of script trace
coordinator_own script [] = refl
coordinator_own script (x ∷ older) =
    cond_both (same_actor x.actor Coordinator) (x ∷ own_entries Coordinator older) (own_entries Coordinator older)
    (λ l. coordinator_of script l ≡ coordinator_of script (x ∷ older))
    (λ t. ap (coordinator_after x.actor x.input) (coordinator_own script older))
    (λ t. coordinator_own script older ∙ sym (coordinator_other x.actor x.input (coordinator_of script older) t))

abbrev the_made : List Post → List Note → Output
the_made posts notes = record { posts = posts; notes = notes }

pub made_own : (script : Script) (trace : List Entry) (a : Actor) (input : Input) → made_of script (own_entries a trace) a input ≡ made_of script trace a input
made_own script trace Coordinator input =
    ap (λ (state : CoordinatorState). the_made (coordinator_step state input).posts (coordinator_step state input).notes) (coordinator_own script trace)
made_own script trace (Server s) input =
    ap (λ (state : ServerState). the_made (server_step script.space state input).posts (server_step script.space state input).notes) (server_own script s trace)
made_own script trace (Session u) input =
    ap (λ (state : SessionState). the_made (session_step script.space state input).posts
    (session_step script.space state input).notes) (session_own script u trace)

pub halted_own : (script : Script) (trace : List Entry) (a : Actor) → has_halted script (own_entries a trace) a ≡ has_halted script trace a
halted_own script trace Coordinator = refl
halted_own script trace (Server s) = ap (λ (state : ServerState). state.halted) (server_own script s trace)
halted_own script trace (Session u) = refl

pub by_own : (script : Script) (trace : List Entry) → IsByOwnEntries script trace
by_own script trace = record {
  coordinator = coordinator_own script trace;
  server = λ s. server_own script s trace;
  session = λ u. session_own script u trace;
  halted = halted_own script trace;
  made = made_own script trace;
}

may_halt : (older : List Entry) (a : Actor) (input : Input) → MayTake older a input → MayHalt a input
may_halt older a Tick m = tt
may_halt older a Halt m = m
may_halt older a (Deliver id from message) m = tt

-- an entry of a run is its actor's own step
own_step : (script : Script) (older : List Entry) (x : Entry) (a : Actor) → x.actor ≡ a → IsStep script older x → IsOwnStep script a (own_entries a older) x
own_step script older x a e s = record {
  actor = e;
  running = halted_own script older a ∙ subst (λ (b : Actor). has_halted script older b ≡ false) e s.running;
  input = subst (λ (b : Actor). MayHalt b x.input) e (may_halt older x.actor x.input s.input);
  made = made_own script older a x.input ∙ subst (λ (b : Actor). made_of script older b x.input ≡ record { posts = x.outputs; notes = x.notes }) e s.made;
  enough = s.enough;
}

pub entries_own : (script : Script) (trace : List Entry) → IsRun script trace → (a : Actor) → IsOwn script a (own_entries a trace)
entries_own script [] r a = tt
entries_own script (x ∷ older) r a =
    cond_both (same_actor x.actor a) (x ∷ own_entries a older) (own_entries a older) (IsOwn script a)
    (λ t. (own_step script older x a (same_actor_is x.actor a t) r.0, entries_own script older r.1 a))
    (λ t. entries_own script older r.1 a)
