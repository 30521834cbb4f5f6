-- What a server holds of its space after so many entries, and what it then posts.
use Rattle.std.specs.Prelude.{◌≡◌, ℕ, ◌+◌, ◌≤◌, true, ⊤}
use Rattle.hx_model.specs.Types.{Deliver, Halt, Input, RegionId, Server, ServerId, Space, Tick, Update}
use Rattle.hx_types.specs.Posts.{Bounds, IsSoundKept, IsSoundPost, IsSoundUpdate, has_place_in}
use Rattle.hx_types.specs.Spaces.{IsConfigOf, IsRegionOf, IsServerOf, IsSpace}
use Rattle.hx_types.specs.Words.{IsIn, post}
use Rattle.hx_model.specs.ServerSteps.{Replica, ServerState}
use Rattle.hx_model.specs.Slots.{KeyState}
use Rattle.hx_law_folds.specs.Folding.{Descends, KeysAscend}

-- of the space, of so many sessions, with no epoch above n + 1
abbrev pub bounds : Space → ℕ → ℕ → Bounds
bounds space sessions n = record { space = space; sessions = sessions; most = n + 1 }

-- an update of the space with a place in the region, and with no version above n
pub record IsSoundAt (space : Space) (sessions n : ℕ) (g : RegionId) (u : Update) : Type 0 where
  pub sound : IsSoundUpdate (bounds space sessions n) u
  pub version : u.version.0 ≤ n
  pub place : has_place_in g u.places ≡ true

-- a slot of the region whose committed state and updates are such
pub record IsSoundSlot (space : Space) (sessions n : ℕ) (g : RegionId) (t : KeyState) : Type 0 where
  pub base : IsSoundKept (bounds space sessions n) t.base
  pub descends : Descends t.base.floor.0 t.accepted
  pub from_base : t.base.floor.0 ≤ t.floor
  pub floor : t.floor ≤ n
  pub accepted : (u : Update) → IsIn u t.accepted → IsSoundAt space sessions n g u
  pub early : (u : Update) → IsIn u t.early → IsSoundAt space sessions n g u

pub record IsSoundReplica (space : Space) (sessions n : ℕ) (r : Replica) : Type 0 where
  pub region : IsRegionOf space r.region
  pub slots : (t : KeyState) → IsIn t r.states → IsSoundSlot space sessions n r.region t
  pub ascend : KeysAscend r.states

-- a server of the space whose configuration and replicas are such
pub record IsSoundServer (space : Space) (sessions n : ℕ) (s : ServerState) : Type 0 where
  pub valid : IsSpace space
  pub exists : IsServerOf space s.id
  pub config : IsConfigOf space s.config
  pub epoch : s.config.epoch.0 ≤ n + 1
  pub replicas : (r : Replica) → IsIn r s.replicas → IsSoundReplica space sessions n r

-- the input brings a sound post, with no epoch and no version above n + 1
abbrev pub IsSoundInput : Space → ℕ → ℕ → ServerId → Input → Type 0
IsSoundInput space sessions n s Tick = ⊤
IsSoundInput space sessions n s Halt = ⊤
IsSoundInput space sessions n s (Deliver id from m) = IsSoundPost space sessions n (post from (Server s) m)
