-- What the posts of a step carry and name: values of the space, actors that were named before, and epochs and versions that don't run ahead.
use Rattle.std.specs.Prelude.{◌≡◌, ℕ, ◌≤◌, true, List, [], ◌∷◌, ◌++◌, map, Option, None, Some, ⊤}
use Rattle.std.specs.List.{All, flat_map}
use Rattle.hx_types.specs.declared.calls.Op.{Op}
use Rattle.hx_types.specs.declared.calls.Row.{Row}
use Rattle.hx_types.specs.declared.configs.Config.{Config}
use Rattle.hx_types.specs.declared.configs.Member.{Member}
use Rattle.hx_types.specs.declared.ids.Actor.{Actor}
use Rattle.hx_types.specs.declared.ids.ServerId.{ServerId}
use Rattle.hx_types.specs.declared.messages.Message.{Message}
use Rattle.hx_types.specs.declared.messages.Post.{Post}
use Rattle.hx_types.specs.declared.snapshots.Kept.{Kept}
use Rattle.hx_types.specs.declared.snapshots.Mark.{Mark}
use Rattle.hx_types.specs.declared.snapshots.Touch.{Touch}
use Rattle.hx_types.specs.declared.spaces.Space.{Space}
use Rattle.hx_types.specs.declared.traces.Input.{Input}
use Rattle.hx_types.specs.declared.updates.Place.{Place}
use Rattle.hx_types.specs.declared.updates.Update.{Update}
use Rattle.hx_types.specs.declared.calls.Op.TheVariants.{Stop, Add}
use Rattle.hx_types.specs.declared.ids.Actor.TheVariants.{Server, Session}
use Rattle.hx_types.specs.declared.messages.Message.TheVariants as a_message
use Rattle.hx_types.specs.declared.traces.Input.TheVariants.{Tick, Halt, Deliver}
use Rattle.hx_types.specs.Posts.{ActorExists, AnswerUpTo, IsSoundMessage, goes_between}
use Rattle.hx_types.specs.Words.{IsIn}

-- ---- of the space

-- all that the post carries is of the space, its receiver may be an actor of it, and the message is
-- one between such a sender and such a receiver; for some number of sessions, and some bound of
-- epochs and versions
pub record IsPostOf (space : Space) (p : Post) : Type 0 where
  pub sessions : ℕ
  pub most : ℕ
  pub to : ActorExists (record { space = space; sessions = sessions; most = most }) p.to
  pub between : goes_between p.from p.to p.message ≡ true
  pub message : IsSoundMessage (record { space = space; sessions = sessions; most = most }) p.message

abbrev pub ArePostsOf : Space → List Post → Type 0
ArePostsOf space posts = All (IsPostOf space) posts

-- ---- actors

abbrev pub servers_among : List Member → List Actor
servers_among members = map (λ (m : Member). Server m.server) members

-- the servers of a configuration and the members of its regions
abbrev pub actors_of_config : Config → List Actor
actors_of_config config = map (λ (s : ServerId). Server s) config.servers ++ flat_map servers_among config.regions

-- the server of a stop or an add
abbrev pub actors_of_op : Op → List Actor
actors_of_op (Stop server) = Server server ∷ []
actors_of_op (Add server region) = Server server ∷ []
actors_of_op other = []

abbrev pub sessions_marked : Kept → List Actor
sessions_marked kept = map (λ (m : Mark). Session m.session) kept.marks

-- the actors that a message names beside its sender and its receiver
abbrev pub actors_of_message : Message → List Actor
actors_of_message (a_message.Call epoch number op) = actors_of_op op
actors_of_message (a_message.Reply number version answer) = []
actors_of_message (a_message.Update epoch region update) = Session update.caller.session ∷ []
actors_of_message (a_message.Ack epoch region by key version) = []
actors_of_message (a_message.Ask epoch number region terms) = []
actors_of_message (a_message.Found epoch number region rows) = []
actors_of_message (a_message.Seal epoch) = []
actors_of_message (a_message.Sealed epoch) = []
actors_of_message (a_message.Install config) = actors_of_config config
actors_of_message a_message.Die = []
actors_of_message a_message.Gone = []
actors_of_message (a_message.StopServer number server) = Server server ∷ []
actors_of_message (a_message.AddReplica number server region) = Server server ∷ []
actors_of_message (a_message.Outcome number answer) = []
actors_of_message (a_message.Snap epoch region snapshot pending) =
    flat_map sessions_marked snapshot ++ map (λ (u : Update). Session u.caller.session) pending
actors_of_message (a_message.Ready epoch region) = []
actors_of_message (a_message.Poll epoch) = []

-- the sender of the post that is delivered, and the actors that its message names
abbrev pub actors_of_input : Input → List Actor
actors_of_input Tick = []
actors_of_input Halt = []
actors_of_input (Deliver id from message) = from ∷ actors_of_message message

-- the post names only known actors: its receiver, and those in its message
abbrev pub NamesOnly : List Actor → Post → Type 0
NamesOnly known p = All (λ (a : Actor). IsIn a known) (p.to ∷ actors_of_message p.message)

abbrev pub NameOnly : List Actor → List Post → Type 0
NameOnly known posts = All (NamesOnly known) posts

-- ---- epochs and versions

abbrev pub UpdateUpTo : ℕ → Update → Type 0
UpdateUpTo most u = (u.version.0 ≤ most) × AnswerUpTo most u.answer × All (λ (p : Place). p.after.0 ≤ most) u.places

abbrev pub MaybeRowUpTo : ℕ → Option Row → Type 0
MaybeRowUpTo most None = ⊤
MaybeRowUpTo most (Some row) = row.version.0 ≤ most

abbrev pub KeptUpTo : ℕ → Kept → Type 0
KeptUpTo most kept =
    (kept.floor.0 ≤ most)
    × MaybeRowUpTo most kept.object
    × All (λ (m : Mark). (m.version.0 ≤ most) × AnswerUpTo most m.answer) kept.marks
    × All (λ (t : Touch). t.version.0 ≤ most) kept.touches

-- no epoch and no version in the message is above the bound
abbrev pub MessageUpTo : ℕ → Message → Type 0
MessageUpTo most (a_message.Call epoch number op) = epoch.0 ≤ most
MessageUpTo most (a_message.Reply number version answer) = (version.0 ≤ most) × AnswerUpTo most answer
MessageUpTo most (a_message.Update epoch region update) = (epoch.0 ≤ most) × UpdateUpTo most update
MessageUpTo most (a_message.Ack epoch region by key version) = (epoch.0 ≤ most) × (version.0 ≤ most)
MessageUpTo most (a_message.Ask epoch number region terms) = epoch.0 ≤ most
MessageUpTo most (a_message.Found epoch number region rows) = (epoch.0 ≤ most) × All (λ (r : Row). r.version.0 ≤ most) rows
MessageUpTo most (a_message.Seal epoch) = epoch.0 ≤ most
MessageUpTo most (a_message.Sealed epoch) = epoch.0 ≤ most
MessageUpTo most (a_message.Install config) = config.epoch.0 ≤ most
MessageUpTo most a_message.Die = ⊤
MessageUpTo most a_message.Gone = ⊤
MessageUpTo most (a_message.StopServer number server) = ⊤
MessageUpTo most (a_message.AddReplica number server region) = ⊤
MessageUpTo most (a_message.Outcome number answer) = AnswerUpTo most answer
MessageUpTo most (a_message.Snap epoch region snapshot pending) =
    (epoch.0 ≤ most) × All (KeptUpTo most) snapshot × All (UpdateUpTo most) pending
MessageUpTo most (a_message.Ready epoch region) = epoch.0 ≤ most
MessageUpTo most (a_message.Poll epoch) = epoch.0 ≤ most

abbrev pub InputUpTo : ℕ → Input → Type 0
InputUpTo most Tick = ⊤
InputUpTo most Halt = ⊤
InputUpTo most (Deliver id from message) = MessageUpTo most message

abbrev pub PostsUpTo : ℕ → List Post → Type 0
PostsUpTo most posts = All (λ (p : Post). MessageUpTo most p.message) posts
