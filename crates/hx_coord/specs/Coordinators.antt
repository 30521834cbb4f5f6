-- Which inputs the coordinator can take, and its entry for an input.
use Rattle.std.specs.Prelude.{ℕ, ◌+◌, ◌≤◌, List, ◌∷◌, ◌++◌, map, Option, None, Some, ⊤}
use Rattle.std.specs.List.{All, flat_map}
use Rattle.hx_model.specs.Types.{Actor, Answer, Coordinator, Deliver, Entry, Halt, Input, Message, Session, Space, Tick}
use Rattle.hx_types.specs.Posts.{AnswerUpTo, IsSessionOf, IsSoundPost}
use Rattle.hx_types.specs.Spaces.{Fits, IsAnswerOf, IsConfigOf}
use Rattle.hx_types.specs.Words.{below, post}
use Rattle.hx_model.specs.CoordinatorSteps.{CoordinatorState, Newest, Task, coordinator_step}
use Rattle.hx_model.specs.Runs.{entry_of}
use Rattle.hx_types.specs.Posted.{actors_of_config, actors_of_input, actors_of_op}
use Rattle.hx_types.specs.declared.limits.TheConstants.{GREATEST_NUMBER}

-- the coordinator's entry for an input
abbrev pub coordinator_entry : CoordinatorState → Input → Entry
coordinator_entry c input =
    let step = coordinator_step c input in entry_of Coordinator input (record { posts = step.posts; notes = step.notes })

-- the coordinator can take the input: its turn, or a post while a further epoch has a number; a halt goes to a server
abbrev pub CanTake : CoordinatorState → Input → Type 0
CanTake c Tick = ⊤
CanTake c Halt = ⊥
CanTake c (Deliver id from m) = c.config.epoch.0 ≤ GREATEST_NUMBER

-- ---- what a coordinator has of a space

abbrev pub IsMaybeAnswerOf : Space → ℕ → Option Answer → Type 0
IsMaybeAnswerOf space most None = ⊤
IsMaybeAnswerOf space most (Some answer) = IsAnswerOf space answer × AnswerUpTo most answer

-- a call of one of so many sessions, which fits the space
abbrev pub IsTaskOf : Space → ℕ → Task → Type 0
IsTaskOf space sessions task = IsSessionOf sessions task.caller.session × Fits space task.op

-- all that the coordinator keeps is of the space, for some bound of its epochs
pub record IsCoordinatorOf (space : Space) (c : CoordinatorState) : Type 0 where
  pub most : ℕ
  pub config : IsConfigOf space c.config
  pub epoch : c.config.epoch.0 ≤ most
  pub todo : All (IsTaskOf space c.sessions) c.todo
  pub newest : All (λ (n : Newest). IsMaybeAnswerOf space most n.answer) c.newest

-- the post is sound for the coordinator's number of sessions, as one of some entry
pub record IsSoundDelivery (space : Space) (sessions : ℕ) (from : Actor) (m : Message) : Type 0 where
  pub entry : ℕ
  pub sound : IsSoundPost space sessions entry (post from Coordinator m)

-- the input is of the space
abbrev pub IsInputOf : Space → ℕ → Input → Type 0
IsInputOf space sessions Tick = ⊤
IsInputOf space sessions Halt = ⊤
IsInputOf space sessions (Deliver id from m) = IsSoundDelivery space sessions from m

-- ---- what a coordinator and its input name

-- the caller of a stop or an add, and its server
abbrev pub actors_of_task : Task → List Actor
actors_of_task task = Session task.caller.session ∷ actors_of_op task.op

-- the actors of the configuration and of the calls that are to be done, and the sessions
abbrev pub actors_of_coordinator : CoordinatorState → List Actor
actors_of_coordinator c =
    actors_of_config c.config
    ++ flat_map actors_of_task c.todo
    ++ map (λ n. Session (record { 0 = n + 1 })) (below c.sessions)

-- whom the posts of a step may name: the coordinator, and the actors that it or the input names
abbrev pub known_to : CoordinatorState → Input → List Actor
known_to c input = Coordinator ∷ actors_of_coordinator c ++ actors_of_input input

-- ---- epochs

abbrev pub MaybeAnswerUpTo : ℕ → Option Answer → Type 0
MaybeAnswerUpTo most None = ⊤
MaybeAnswerUpTo most (Some answer) = AnswerUpTo most answer

-- the coordinator's epoch isn't above the bound, and none in the answers that it keeps is
abbrev pub CoordinatorUpTo : ℕ → CoordinatorState → Type 0
CoordinatorUpTo most c = (c.config.epoch.0 ≤ most) × All (λ (n : Newest). MaybeAnswerUpTo most n.answer) c.newest
