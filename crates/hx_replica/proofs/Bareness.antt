-- A server's slots have no past.
use Rattle.std.proofs.Common.{◌≡◌, true, List, [], ◌∷◌, map, refl, ap, sym, ◌∙◌, subst}
use Rattle.hx_model.specs.Types.{Config, RegionId, Space}
use Rattle.hx_model.specs.ServerSteps.{Replica as ReplicaState, ServerState, listed_regions, replica_or_new}
use Rattle.hx_law_folds.specs.Folding.{folded_replica, folded_server}
use Rattle.hx_law_folds.proofs.Lemmas.{folded-server-twice}
use Rattle.hx_replica.specs.declared.servers.Server.TheInside.{Inside}
use Rattle.hx_replica.specs.Invariant.{IsServer, value_of}
use Rattle.hx_replica.specs.Adopting.{lean_replica, lean_with_config}
use Rattle.hx_replica.specs.declared.replicas.Replica.{Replica}
use Rattle.hx_replica.specs.Replicas.{KeepRegionRooms, first_replica, rooms_of, views_of}
use Rattle.hx_replica.specs.Servers.{ServerValue}
use Rattle.hx_replica.specs.Ticking.{standing}

-- as contracts see it
pub bare_seen : (i : Inside) (v : ServerValue) → value_of i ≡ v → IsServer i → folded_server v.state ≡ v.state
bare_seen i v seen is =
    subst (λ (x : ServerValue). folded_server x.state ≡ x.state) seen
    (λ j. record { id = i.id; config = i.config; halted = i.halted; replicas = is.bare j })

-- what was folded once is the same if it is folded again
pub bare_again : (views : List ReplicaState) (s : ServerState) → views ≡ (folded_server s).replicas → map folded_replica views ≡ views
bare_again views s e = ap (λ (rs : List ReplicaState). map folded_replica rs) e ∙ ap (λ (x : ServerState). x.replicas) (folded-server-twice s) ∙ sym e

-- the same replicas
pub bare_same : (old new : List ReplicaState) → new ≡ old → map folded_replica old ≡ old → map folded_replica new ≡ new
bare_same old new e h = subst (λ (rs : List ReplicaState). map folded_replica rs ≡ rs) (sym e) h

-- empty ones
pub bare_first : (space : Space) (gs : List RegionId) → map folded_replica (views_of (map (first_replica space) gs)) ≡ views_of (map (first_replica space) gs)
bare_first space [] = refl
bare_first space (g ∷ gs) = ap (λ (rs : List ReplicaState). record { region = g; installed = true; states = [] } ∷ rs) (bare_first space gs)

-- those of a configuration that was adopted
pub adopted_views : (i : Inside) (v : ServerValue) (config shown : Config) (old : List Replica) → value_of i ≡ v → shown ≡ config → old ≡ i.replicas.items
    → map (λ (g : RegionId). lean_replica i.space (standing shown i.id) (replica_or_new (views_of old) g))
    (listed_regions shown i.id) ≡ (lean_with_config v.space v.state config).replicas
adopted_views i v config shown old seen same is =
    (λ j. map (λ (g : RegionId). lean_replica i.space (standing (same j) i.id) (replica_or_new (views_of (is j)) g)) (listed_regions (same j) i.id))
    ∙ ap (λ (x : ServerValue). (lean_with_config x.space x.state config).replicas) seen

-- and their rooms
pub adopted_rooms : (i : Inside) (v : ServerValue) (old next : List Replica) → value_of i ≡ v → old ≡ i.replicas.items
    → KeepRegionRooms (views_of old) (rooms_of old) (views_of next) (rooms_of next)
    → KeepRegionRooms v.state.replicas v.rooms (views_of next) (rooms_of next)
adopted_rooms i v old next seen is k =
    subst (λ (x : ServerValue). KeepRegionRooms x.state.replicas x.rooms (views_of next) (rooms_of next)) seen
    (subst (λ (rs : List Replica). KeepRegionRooms (views_of rs) (rooms_of rs) (views_of next) (rooms_of next)) is k)
