-- A server as contracts see it, and which inputs it can take.
use Rattle.std.specs.Prelude.{◌≡◌, ℕ, ◌<◌, ◌≤◌, false, List, ⊤}
use Rattle.hx_model.specs.Types.{Actor, Deliver, Entry, Halt, Input, Message, Server, ServerId, Space, Tick}
use Rattle.hx_types.specs.Posts.{IsSoundPost}
use Rattle.hx_types.specs.Words.{IsIn, post}
use Rattle.hx_types.specs.declared.limits.TheConstants.{GREATEST_NUMBER}
use Rattle.hx_model.specs.Runs.{entry_of}
use Rattle.hx_model.specs.ServerSteps.{Replica, ServerState, server_step}
use Rattle.hx_model.specs.Slots.{KeyState, top_of}
use Rattle.hx_store.specs.Stores.{Room}

-- rooms: for how many more updates the slots of each replica have room
pub record ServerValue : Type 0 where
  pub space : Space
  pub state : ServerState
  pub rooms : List (List Room)

-- the server's entry for an input
abbrev pub server_entry : Space → ServerState → Input → Entry
server_entry space s input =
    let step = server_step space s input in entry_of (Server s.id) input (record { posts = step.posts; notes = step.notes })

-- the post is sound for some number of sessions, and no version in it is above 2^62
pub record IsSoundDelivery (space : Space) (s : ServerId) (from : Actor) (m : Message) : Type 0 where
  pub sessions : ℕ
  pub entry : ℕ
  pub few : entry < GREATEST_NUMBER
  pub sound : IsSoundPost space sessions entry (post from (Server s) m)

-- no slot has accepted a version above 2^62
abbrev pub HasSmallVersions : ServerState → Type 0
HasSmallVersions s = (r : Replica) → IsIn r s.replicas → (t : KeyState) → IsIn t r.states → top_of t ≤ GREATEST_NUMBER

abbrev pub IsInputTo : Space → ServerId → Input → Type 0
IsInputTo space s Tick = ⊤
IsInputTo space s Halt = ⊤
IsInputTo space s (Deliver id from m) = IsSoundDelivery space s from m

-- the server can take the input
pub record CanTake (space : Space) (s : ServerState) (input : Input) : Type 0 where
  pub running : s.halted ≡ false
  pub input_to : IsInputTo space s.id input
  pub small : HasSmallVersions s
