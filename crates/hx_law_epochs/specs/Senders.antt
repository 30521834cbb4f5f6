-- Which role posts which kinds of message.
use Rattle.std.specs.Prelude.{⊤}
use Rattle.hx_model.specs.Types.{Actor, Coordinator, Message, Server, Session}
use Rattle.hx_types.specs.declared.messages.Message.TheVariants as a_message

-- the coordinator posts configurations, that a server is to halt, and outcomes of calls
abbrev pub IsOfCoordinator : Message → Type 0
IsOfCoordinator (a_message.Install config) = ⊤
IsOfCoordinator a_message.Die = ⊤
IsOfCoordinator (a_message.Outcome number answer) = ⊤
IsOfCoordinator other = ⊥

-- a server posts replies, updates, acknowledgements, rows, snapshots, that it has halted,
-- that its replica of a region is ready, and polls
abbrev pub IsOfServer : Message → Type 0
IsOfServer (a_message.Reply number version answer) = ⊤
IsOfServer (a_message.Update epoch g u) = ⊤
IsOfServer (a_message.Ack epoch g by key version) = ⊤
IsOfServer (a_message.Found epoch number g rows) = ⊤
IsOfServer a_message.Gone = ⊤
IsOfServer (a_message.Snap epoch g snapshot pending) = ⊤
IsOfServer (a_message.Ready epoch g) = ⊤
IsOfServer (a_message.Poll epoch) = ⊤
IsOfServer other = ⊥

-- a session posts calls on keys, searches of regions, the two administrative calls, and polls
abbrev pub IsOfSession : Message → Type 0
IsOfSession (a_message.Call epoch number op) = ⊤
IsOfSession (a_message.Ask epoch number g terms) = ⊤
IsOfSession (a_message.StopServer number server) = ⊤
IsOfSession (a_message.AddReplica number server g) = ⊤
IsOfSession (a_message.Poll epoch) = ⊤
IsOfSession other = ⊥

-- an actor posts what its role does; Seal and Sealed are nobody's
abbrev pub IsOf : Actor → Message → Type 0
IsOf Coordinator m = IsOfCoordinator m
IsOf (Server s) m = IsOfServer m
IsOf (Session u) m = IsOfSession m
