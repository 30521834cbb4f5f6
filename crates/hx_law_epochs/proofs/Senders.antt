-- Each post is of a kind that its actor's role posts.
use Rattle.hx_law_lemmas.proofs.Lemmas.Vocabulary.{Actor, Coordinator, coordinator_of, coordinator_step, CoordinatorState, Entry, Input, IsIn, IsStep, List}
use Rattle.hx_law_lemmas.proofs.Lemmas.Vocabulary.{made_of, Message, Output, Post, Script, Server, server_of, server_step, ServerState, Session, session_of}
use Rattle.hx_law_lemmas.proofs.Lemmas.Vocabulary.{session_step, SessionState, Space, subst, sym, ◌≡◌}
use Rattle.hx_types.specs.declared.messages.Message.TheVariants as a_message
use Rattle.hx_law_lemmas.proofs.Lemmas.{AsksOf, session-does}
use Rattle.hx_law_epochs.specs.Senders.{IsOf, IsOfServer, IsOfSession}
use Rattle.hx_law_epochs.proofs.CoordinatorPosts.{coordinator-plain}
use Rattle.hx_law_epochs.proofs.ServerPosts.{AnySnapshot, OfServer, server-plain}

-- what servers post, whatever the snapshot
of-server : (m : Message) → OfServer AnySnapshot m → IsOfServer m
of-server (a_message.Snap epoch g snapshot pending) h = tt
of-server other h = h

-- what sessions ask
of-session : (s : SessionState) (m : Message) → AsksOf s m → IsOfSession m
of-session s (a_message.Call epoch number op) h = tt
of-session s (a_message.StopServer number server) h = tt
of-session s (a_message.AddReplica number server g) h = tt
of-session s other h = h

-- each step of the coordinator, of a server and of a session, whatever its state and its input
pub coordinator-posts : (c : CoordinatorState) (input : Input) (p : Post) → IsIn p (coordinator_step c input).posts → IsOf Coordinator p.message
coordinator-posts c input = (coordinator-plain c input).posts

pub server-posts : (space : Space) (s : ServerState) (input : Input) (p : Post) → IsIn p (server_step space s input).posts → IsOf (Server s.id) p.message
server-posts space s input p i = of-server p.message ((server-plain AnySnapshot space s input (λ r j. tt) (λ g. tt)).posts p i)

pub session-posts : (space : Space) (s : SessionState) (input : Input) (p : Post) → IsIn p (session_step space s input).posts → IsOf (Session s.id) p.message
session-posts space s input p i = let does = session-does space s input in of-session does.mid p.message (does.goes.posts p i).1

-- so it is of each entry of an actor
pub entry-posts : (script : Script) (older : List Entry) (x : Entry) → IsStep script older x → (a : Actor) → x.actor ≡ a
    → (p : Post) → IsIn p x.outputs → IsOf a p.message
entry-posts script older x step a e p i =
    subst (λ (b : Actor). IsOf b p.message) e (by x.actor (subst (λ (made : Output). IsIn p made.posts) (sym step.made) i))
  where
    by : (b : Actor) → IsIn p (made_of script older b x.input).posts → IsOf b p.message
    by Coordinator = coordinator-posts (coordinator_of script older) x.input p
    by (Server s) = server-posts script.space (server_of script s older) x.input p
    by (Session u) = session-posts script.space (session_of script u older) x.input p
