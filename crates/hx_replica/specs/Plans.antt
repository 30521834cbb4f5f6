-- A step of a server that is ready to be made.
use Rattle.std.specs.Prelude.{◌≡◌, ℕ, zero, suc, ⊤, true, List, [], ◌∷◌, IsSomeAnd, Some, map, slice_get}
use Rattle.hx_model.specs.Types.{Actor, Config, Deliver, Message, PostId, Space}
use Rattle.hx_model.specs.ServerSteps.{Replica as ReplicaState, ServerState, listed_regions, server_step, state_in, with_replica, with_slot}
use Rattle.hx_law_folds.specs.Folding.{folded_server}
use Rattle.hx_replica.specs.declared.outputs.SlotChange.{SlotChange}
use Rattle.hx_replica.specs.declared.prepared.Change.{Change}
use Rattle.hx_replica.specs.declared.prepared.Change.TheVariants.{Nothing, Halt, Adopt, Join, Slot}
use Rattle.hx_replica.specs.declared.prepared.Plan.{Plan}
use Rattle.hx_replica.specs.Outputs.{ChangeFits, HasRoomFor, room_of, stepped}
use Rattle.hx_replica.specs.declared.replicas.Replica.{Replica}
use Rattle.hx_replica.specs.Adopting.{lean_with_config}
use Rattle.hx_store.specs.Stores.{KeepsRooms, Room, UsesRoom}
use Rattle.hx_replica.specs.Replicas.{IsReplicaIn, KeepAllRooms, KeepRegionRooms, new_replica, view_of}
use Rattle.hx_replica.specs.Servers.{CanTake, ServerValue, server_entry}

-- the replica with a number among the server's has at a place room for n more updates of the key
abbrev pub HasRoomAt : ℕ → List ℕ → ℕ → ServerValue → ℕ → Type 0
HasRoomAt number key n s place = IsSomeAnd (slice_get s.rooms number) (HasRoomFor key n place)

-- the server can take a post of the message
pub record CanHear (space : Space) (s : ServerState) (from : Actor) (m : Message) : Type 0 where
  pub id : PostId
  pub can : CanTake space s (Deliver id from m)

-- what is so of the replica at the place
abbrev pub AtReplica : ServerValue → ℕ → (ReplicaState → Type 0) → Type 0
AtReplica s place IsSo = (r : ReplicaState) → slice_get s.state.replicas place ≡ Some r → IsSo r

-- the slot at the place of the replica with this number can make the change, and the server is then as after the step, without its past
pub record IsChangeOn (s : ServerValue) (after : ServerState) (number place : ℕ) (change : SlotChange) : Type 0 where
  pub key : List ℕ
  pub replica : ReplicaState
  pub found : slice_get s.state.replicas number ≡ Some replica
  pub room : HasRoomAt number key (room_of change) s place
  pub fits : ChangeFits replica.region (state_in s.space replica key) key change
  pub state : folded_server after ≡ with_slot s.state replica (stepped change replica.region (state_in s.space replica key))

-- these are new replicas of the regions in which the configuration lists the server, and to adopt it is the step
pub record IsAdoptionOn (s : ServerValue) (after : ServerState) (config : Config) (replicas : List Replica) : Type 0 where
  pub new : replicas ≡ map (new_replica s.space) (listed_regions config s.state.id)
  pub state : folded_server after ≡ lean_with_config s.space s.state config

-- the replica is one of the region of that with this number, and to put it there is the step
pub record IsJoinOn (s : ServerValue) (after : ServerState) (number : ℕ) (replica : Replica) : Type 0 where
  pub before : ReplicaState
  pub found : slice_get s.state.replicas number ≡ Some before
  pub region : replica.region ≡ before.region
  pub is : IsReplicaIn s.space replica
  pub state : folded_server after ≡ record s.state { replicas = with_replica (view_of replica) s.state.replicas }

-- the server can make the change, and has then this state, without its past
abbrev pub IsChange : ServerValue → ServerState → Change → Type 0
IsChange s after Nothing = folded_server after ≡ s.state
IsChange s after Halt = folded_server after ≡ record s.state { halted = true }
IsChange s after (Adopt config replicas) = IsAdoptionOn s after config replicas.items
IsChange s after (Join number replica) = IsJoinOn s after number replica.value
IsChange s after (Slot number place change) = IsChangeOn s after number place change

-- the server can make the change
pub record CanMake (s : ServerValue) (change : Change) : Type 0 where
  pub after : ServerState
  pub is : IsChange s after change

-- the replica with a number uses the room at a place for one update, and no other room falls
abbrev pub UseRoomAt : ℕ → ℕ → List (List Room) → List (List Room) → Type 0
UseRoomAt number place [] new = ⊤
UseRoomAt number place (x ∷ old) [] = ⊥
UseRoomAt zero place (x ∷ old) (y ∷ new) = UsesRoom place x y × KeepAllRooms old new
UseRoomAt (suc number) place (x ∷ old) (y ∷ new) = KeepsRooms x y × UseRoomAt number place old new

-- no room falls but those of the replica with a number
abbrev pub KeepRoomsBut : ℕ → List (List Room) → List (List Room) → Type 0
KeepRoomsBut number [] new = ⊤
KeepRoomsBut number (x ∷ old) [] = ⊥
KeepRoomsBut zero (x ∷ old) (y ∷ new) = KeepAllRooms old new
KeepRoomsBut (suc number) (x ∷ old) (y ∷ new) = KeepsRooms x y × KeepRoomsBut number old new

-- the rooms after a change: a slot uses some, and a replica that joins begins anew
abbrev pub AreRoomsAfter : Change → ServerValue → ServerValue → Type 0
AreRoomsAfter Nothing old new = new.rooms ≡ old.rooms
AreRoomsAfter Halt old new = new.rooms ≡ old.rooms
AreRoomsAfter (Adopt config replicas) old new = KeepRegionRooms old.state.replicas old.rooms new.state.replicas new.rooms
AreRoomsAfter (Join number replica) old new = KeepRoomsBut number old.rooms new.rooms
AreRoomsAfter (Slot number place change) old new = UseRoomAt number place old.rooms new.rooms

-- the plan is that of the server's step, and there is room for its change
pub record IsPlanOn (s : ServerValue) (plan : Plan) : Type 0 where
  pub entry : plan.entry ≡ server_entry s.space s.state plan.entry.input
  pub change : IsChange s (server_step s.space s.state plan.entry.input).state plan.change
