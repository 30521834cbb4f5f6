-- The actors of a script by the places of their boxes.
use Rattle.std.specs.Prelude.{ℕ, zero, suc, ◌-◌, ◌%◌, eqb, nat_le, if◌then◌else◌, List, map}
use Rattle.std.specs.List.{filter}
use Rattle.hx_types.specs.declared.ids.Actor.{Actor}
use Rattle.hx_types.specs.declared.ids.Actor.TheVariants.{Coordinator, Server, Session}
use Rattle.hx_types.specs.declared.spaces.Space.{Space}
use Rattle.hx_types.specs.Words.{below}
use Rattle.hx_outbox.specs.Places.{place_of}

-- the actor whose box has this place
abbrev pub actor_at : Space → ℕ → Actor
actor_at space zero = Coordinator
actor_at space (suc n) =
    if nat_le (suc n) space.servers then Server (record { 0 = suc n }) else Session (record { 0 = suc n - space.servers })

-- the actors of the first k places
abbrev pub first_actors : Space → ℕ → List Actor
first_actors space k = map (actor_at space) (below k)

-- those of them that belong to driver i of w
abbrev pub first_dealt : Space → ℕ → ℕ → ℕ → List Actor
first_dealt space w i k = filter (λ (a : Actor). eqb (place_of space a % w) i) (first_actors space k)
