-- Whom a server and its input name: the posts of each step name these alone.
use Rattle.std.proofs.Common.{◌≡◌, inl, inr, List, ◌∷◌, ◌++◌, map, refl, ap, sym, ◌∙◌, subst}
use Rattle.std.specs.List.{flat_map}
use Rattle.hx_model.specs.Types.{Actor, Deliver, Entry, Halt, Input, Mark, Message, Post, PostId, Server, Session, Space, Tick}
use Rattle.hx_types.specs.Posted.{NameOnly, NamesOnly, actors_of_config, actors_of_input, actors_of_message, sessions_marked}
use Rattle.hx_types.specs.Words.{IsIn}
use Rattle.hx_model.specs.ServerSteps.{Replica, ServerState, ServerStep, message_step, server_step}
use Rattle.hx_model.specs.Slots.{KeyState}
use Rattle.hx_law_lemmas.proofs.Lemmas.{all-of, in-flat, in_left, in_right, map-in}
use Rattle.hx_replica.specs.Plans.{CanHear}
use Rattle.hx_replica.specs.Servers.{ServerValue, server_entry}
use Rattle.hx_replica.specs.Named.{known_to, session_of, sessions_of_replica, sessions_of_slot}
use Rattle.hx_replica.proofs.NamedReplicas.{Knows}
use Rattle.hx_replica.proofs.NamedSlots.{IsGood, KnowsSlot}
use Rattle.hx_replica.proofs.Planning.{running_step}
use Rattle.hx_replica.proofs.NamedRows.{KnowsInput, member-named, server-good}

module _ (s : ServerState) (input : Input) where
  abbrev IsNamed : Actor → Type 0
  IsNamed a = IsIn a (known_to s input)

  abbrev config_part : List Actor
  config_part = actors_of_config s.config

  abbrev slots_part : List Actor
  slots_part = flat_map sessions_of_replica s.replicas

  state-names : (a : Actor) → IsIn a (config_part ++ slots_part) → IsNamed a
  state-names a i = inr (in_left (config_part ++ slots_part) (actors_of_input input) a i)

  slot-names : (r : Replica) → IsIn r s.replicas → (t : KeyState) → IsIn t r.states → (a : Actor) → IsIn a (sessions_of_slot t) → IsNamed a
  slot-names r i t j a k =
      state-names a (in_right config_part slots_part a (in-flat sessions_of_replica s.replicas r a i (in-flat sessions_of_slot r.states t a j k)))

  slot-knows : (r : Replica) → IsIn r s.replicas → (t : KeyState) → IsIn t r.states → KnowsSlot IsNamed t
  slot-knows r i t j = record {
    marks = λ m k. slot-names r i t j (Session m.session)
        (in_left (marked ++ accepted) early (Session m.session)
        (in_left marked accepted (Session m.session) (map-in (λ (x : Mark). Session x.session) t.base.marks m k)));
    accepted = λ u k. slot-names r i t j (session_of u)
        (in_left (marked ++ accepted) early (session_of u)
        (in_right marked accepted (session_of u) (map-in session_of t.accepted u k)));
    early = λ u k. slot-names r i t j (session_of u) (in_right (marked ++ accepted) early (session_of u) (map-in session_of t.early u k));
  }
    where
      marked : List Actor
      marked = sessions_marked t.base

      accepted : List Actor
      accepted = map session_of t.accepted

      early : List Actor
      early = map session_of t.early

  knows : Knows IsNamed s
  knows = record {
    coordinator = inl refl;
    members = λ g m i. state-names (Server m.server) (in_left config_part slots_part (Server m.server) (member-named s.config g m i));
    slots = slot-knows;
  }

  knows-input : KnowsInput IsNamed input
  knows-input = by input (λ a i. inr (in_right (config_part ++ slots_part) (actors_of_input input) a i))
    where
      by : (x : Input) → ((a : Actor) → IsIn a (actors_of_input x) → IsNamed a) → KnowsInput IsNamed x
      by Tick f = tt
      by Halt f = tt
      by (Deliver id from m) f = (f from (inl refl), λ a i. f a (inr i))

  post-named : (p : Post) → IsGood IsNamed p → NamesOnly (known_to s input) p
  post-named p good = all-of IsNamed (p.to ∷ actors_of_message p.message) by
    where
      by : (a : Actor) → IsIn a (p.to ∷ actors_of_message p.message) → IsNamed a
      by a (inl e) = subst IsNamed (sym e) good.to
      by a (inr i) = good.names a i

  posts_named : (space : Space) → NameOnly (known_to s input) (server_step space s input).posts
  posts_named space = all-of (NamesOnly (known_to s input)) (server_step space s input).posts
      (λ p i. post-named p (server-good IsNamed space s knows input knows-input p i))

-- the entry of a plan
pub entry_named : (v : ServerValue) (input : Input) (entry : Entry) → entry ≡ server_entry v.space v.state entry.input
    → entry.input ≡ input → NameOnly (known_to v.state input) entry.outputs
entry_named v input entry e same =
    subst (NameOnly (known_to v.state input)) (sym (ap (λ (x : Entry). x.outputs) e ∙ ap (λ (i : Input). (server_step v.space v.state i).posts) same))
    (posts_named v.state input v.space)

-- what is posted on a message
pub message_named : (v : ServerValue) (from : Actor) (m : Message) → CanHear v.space v.state from m → (id : PostId)
    → NameOnly (known_to v.state (Deliver id from m)) (message_step v.space v.state from m).posts
message_named v from m hears id =
    subst (λ (t : ServerStep). NameOnly (known_to v.state (Deliver id from m)) t.posts) (running_step v (Deliver id from m) hears.can.running)
    (posts_named v.state (Deliver id from m) v.space)
