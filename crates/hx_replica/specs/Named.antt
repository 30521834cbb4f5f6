-- Whom a server names: the coordinator, the servers of its configuration, and the sessions that its slots name.
use Rattle.std.specs.Prelude.{List, ◌∷◌, ◌++◌, map}
use Rattle.std.specs.List.{flat_map}
use Rattle.hx_model.specs.Types.{Actor, Coordinator, Input, Session, Update}
use Rattle.hx_types.specs.Posted.{actors_of_config, actors_of_input, sessions_marked}
use Rattle.hx_model.specs.ServerSteps.{Replica, ServerState}
use Rattle.hx_model.specs.Slots.{KeyState}

-- the session whose call the update is of
abbrev pub session_of : Update → Actor
session_of u = Session u.caller.session

-- the sessions of what a slot has folded, and of what it has accepted or keeps early
abbrev pub sessions_of_slot : KeyState → List Actor
sessions_of_slot t = sessions_marked t.base ++ map session_of t.accepted ++ map session_of t.early

abbrev pub sessions_of_replica : Replica → List Actor
sessions_of_replica r = flat_map sessions_of_slot r.states

-- whom the posts of a step may name: the coordinator, and the actors of the server's configuration, of its slots and of the input
abbrev pub known_to : ServerState → Input → List Actor
known_to s input = Coordinator ∷ actors_of_config s.config ++ flat_map sessions_of_replica s.replicas ++ actors_of_input input
