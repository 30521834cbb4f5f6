-- A session as contracts see it, and which inputs it can take.
use Rattle.std.specs.Prelude.{ℕ, ◌<◌, ◌≤◌, Bool, not, ◌&&◌, nat_lt, length, List, [], ◌∷◌, ◌++◌, ⊤}
use Rattle.std.specs.List.{flat_map}
use Rattle.hx_model.specs.Types.{Actor, Coordinator, Deliver, Entry, Halt, Input, Message, Op, Session, SessionId, Space, Tick}
use Rattle.hx_types.specs.Posts.{IsSoundPost}
use Rattle.hx_types.specs.Words.{post}
use Rattle.hx_model.specs.Runs.{entry_of}
use Rattle.hx_model.specs.SessionSteps.{SessionState, session_step}
use Rattle.hx_types.specs.Posted.{actors_of_config, actors_of_input, actors_of_op}
use Rattle.hx_types.specs.declared.limits.TheConstants.{GREATEST_NUMBER}

-- a session of a space, and its state as the definitions fold it
pub record SessionValue : Type 0 where
  pub space : Space
  pub state : SessionState

-- the session's entry for an input
abbrev pub session_entry : Space → SessionState → Input → Entry
session_entry space s input =
    let step = session_step space s input in entry_of (Session s.id) input (record { posts = step.posts; notes = step.notes })

-- the post is sound for some number of sessions, as one of an entry of a number below 2^62
pub record IsSoundDelivery (space : Space) (u : SessionId) (from : Actor) (m : Message) : Type 0 where
  pub sessions : ℕ
  pub entry : ℕ
  pub few : entry < GREATEST_NUMBER
  pub sound : IsSoundPost space sessions entry (post from (Session u) m)

-- the session can take the input: its turn, or a sound post; a halt goes to a server
abbrev pub CanTake : Space → SessionState → Input → Type 0
CanTake space s Tick = ⊤
CanTake space s Halt = ⊥
CanTake space s (Deliver id from m) = IsSoundDelivery space s.id from m

-- no call is left and none is under way
abbrev pub is_ended : SessionState → Bool
is_ended s = not s.under_way && not (nat_lt s.begun (length s.calls))

-- whom the posts of a step may name: the coordinator, and the actors of the session's configuration, of its calls and of the input
abbrev pub known_to : SessionState → Input → List Actor
known_to s input = Coordinator ∷ actors_of_config s.config ++ flat_map actors_of_op s.calls ++ actors_of_input input

-- the session's epoch isn't above the bound
abbrev pub SessionUpTo : ℕ → SessionState → Type 0
SessionUpTo most s = s.config.epoch.0 ≤ most

-- the session with one more call
abbrev pub with_call : Op → SessionState → SessionState
with_call op s = record s { calls = s.calls ++ op ∷ [] }
