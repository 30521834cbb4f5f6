-- The replicas of a server, in ascending order of regions.
use Rattle.std.specs.Prelude.{◌≡◌, ◌+◌, true, false, ⊤, List, [], ◌∷◌, if◌then◌else◌, length, map}
use Rattle.std.specs.List.{All, AllByRecursion}
use Rattle.hx_model.specs.Types.{RegionId, Space}
use Rattle.hx_types.specs.Spaces.{IsAscending}
use Rattle.hx_types.specs.Subspaces.{is_key_region}
use Rattle.hx_types.specs.Words.{same_region}
use Rattle.hx_model.specs.ServerSteps.{Replica as ReplicaState}
use Rattle.hx_model.specs.Slots.{KeyState}
use Rattle.hx_store.specs.Stores.{KeepsRooms, Room}
use Rattle.hx_replica.specs.declared.replicas.Replica.{Replica}

-- a replica as the definitions say it
abbrev pub view_of : Replica → ReplicaState
view_of r = record { region = r.region; installed = r.installed; states = r.store.states }

abbrev pub views_of : List Replica → List ReplicaState
views_of rs = map view_of rs

-- for how many more updates the slots of each replica have room
abbrev pub rooms_of : List Replica → List (List Room)
rooms_of rs = map (λ (r : Replica). r.store.rooms) rs

-- the replica once its store has put its slots in byte order of keys
abbrev pub in_order : Replica → Replica
in_order r = record r { store = record r.store { ordered = true } }

-- the stores have put their slots in byte order of keys
abbrev pub AreOrdered : List Replica → Type 0
AreOrdered rs = All (λ (r : Replica). r.store.ordered ≡ true) rs

-- in each replica every key keeps its place, and no room falls
abbrev pub KeepAllRooms : List (List Room) → List (List Room) → Type 0
KeepAllRooms [] [] = ⊤
KeepAllRooms [] (y ∷ ys) = ⊥
KeepAllRooms (x ∷ xs) [] = ⊥
KeepAllRooms (x ∷ xs) (y ∷ ys) = KeepsRooms x y × KeepAllRooms xs ys

-- the rooms of the replica of a region
abbrev pub region_rooms : RegionId → List ReplicaState → List (List Room) → List Room
region_rooms g [] rooms = []
region_rooms g (r ∷ rs) [] = []
region_rooms g (r ∷ rs) (x ∷ rooms) = if same_region r.region g then x else region_rooms g rs rooms

-- each replica keeps the rooms that one of its region had
abbrev pub KeepRegionRooms : List ReplicaState → List (List Room) → List ReplicaState → List (List Room) → Type 0
KeepRegionRooms rs rooms [] new = ⊤
KeepRegionRooms rs rooms (q ∷ qs) [] = ⊥
KeepRegionRooms rs rooms (q ∷ qs) (y ∷ new) = KeepsRooms (region_rooms q.region rs rooms) y × KeepRegionRooms rs rooms qs new

-- the replica of one's region keeps the rooms of that one, and the others are as they were
abbrev pub HasKeptRooms : Replica → List Replica → List Replica → Type 0
HasKeptRooms r [] [] = ⊤
HasKeptRooms r [] (y ∷ ys) = ⊥
HasKeptRooms r (x ∷ xs) [] = ⊥
HasKeptRooms r (x ∷ xs) (y ∷ ys) =
    (y.region ≡ x.region)
    × (same_region r.region x.region ≡ true → KeepsRooms r.store.rooms y.store.rooms)
    × (same_region r.region x.region ≡ false → y.store.rooms ≡ x.store.rooms)
    × HasKeptRooms r xs ys

abbrev pub AscendByRegion : List Replica → Type 0
AscendByRegion rs = IsAscending (map (λ (r : Replica). r.region.0) rs)

-- the slots are those of the replica's region, and keep marks at a key region
pub record IsReplicaIn (space : Space) (r : Replica) : Type 0 where
  pub region : r.store.region ≡ r.region
  pub marks : r.store.keeps_marks ≡ is_key_region space r.region
  pub marked : AllByRecursion (λ (t : KeyState). t.marks ≡ is_key_region space r.region) r.store.states

pub record AreReplicas (space : Space) (rs : List Replica) : Type 0 where
  pub each : AllByRecursion (IsReplicaIn space) rs
  pub ascend : AscendByRegion rs

-- a replica at the start
abbrev pub first_replica : Space → RegionId → Replica
first_replica space g = record {
  region = g;
  installed = true;
  store = record {
    region = g;
    keeps_marks = is_key_region space g;
    attributes = length space.attributes + 1;
    states = [];
    rooms = [];
    ordered = true;
  };
}

-- a new replica: empty, and not installed
abbrev pub new_replica : Space → RegionId → Replica
new_replica space g = record {
  region = g;
  installed = false;
  store = record {
    region = g;
    keeps_marks = is_key_region space g;
    attributes = length space.attributes + 1;
    states = [];
    rooms = [];
    ordered = true;
  };
}
