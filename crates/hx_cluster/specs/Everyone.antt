-- All actors of a script in order.
use Rattle.std.specs.Prelude.{◌+◌, List, ◌∷◌, ◌++◌, length, map}
use Rattle.hx_types.specs.declared.ids.Actor.{Actor}
use Rattle.hx_types.specs.declared.traces.Script.{Script}
use Rattle.hx_types.specs.declared.ids.Actor.TheVariants.{Coordinator, Server, Session}
use Rattle.hx_types.specs.Words.{below}

-- all actors of a script in order: the coordinator, the servers, the sessions
abbrev pub actors_of : Script → List Actor
actors_of script =
    Coordinator
    ∷ map (λ n. Server (record { 0 = n + 1 })) (below script.space.servers)
    ++ map (λ n. Session (record { 0 = n + 1 })) (below (length script.sessions))
