-- A server of which nothing but its number and configuration matters, and a replica of it.
use Rattle.std.specs.Prelude.{true, false, List, []}
use Rattle.hx_model.specs.Types.{Config, RegionId, ServerId}
use Rattle.hx_model.specs.ServerSteps.{Replica as ReplicaState, ServerState}
use Rattle.hx_model.specs.Slots.{KeyState}

abbrev pub standing : Config → ServerId → ServerState
standing config s = record { id = s; config = config; halted = false; replicas = [] }

-- an installed replica of these slots
abbrev pub kept_here : RegionId → List KeyState → ReplicaState
kept_here g states = record { region = g; installed = true; states = states }
