-- What every run keeps of chains: lines, what replicas and snapshots hold of them, the order in
-- which chains accept and commit, what answers rest on, what replicas keep for later, what is under
-- way, and whom replicas hear.
use Rattle.hx_model.specs.Lines.{line_object}
use Rattle.std.specs.Prelude.{◌≡◌, ℕ, ◌+◌, ◌<◌, ◌≤◌, ◌⊎◌, Bool, true, false, List, [], ◌∷◌, length, map, nat_lt, ⊤, Some}
use Rattle.hx_model.specs.Types.{Actor, Answer, At, Blocked, Caller, Config, Deliver, End, Entry, Epoch, Hop, Kept, Member, Message, Op, Place, Post, PostId}
use Rattle.hx_model.specs.Types.{RegionId, Script, Server, ServerId, Session, Space, Update, Version}
use Rattle.hx_types.specs.declared.calls.Answer.TheVariants as an_answer
use Rattle.hx_types.specs.declared.messages.Message.TheVariants as a_message
use Rattle.hx_types.specs.Words.{IsBefore, IsIn, post, provided}
use Rattle.hx_types.specs.Configs.{head_of, joiner_for, lists, members_of}
use Rattle.hx_types.specs.Effects.{effect_of, is_write, key_of}
use Rattle.hx_types.specs.Fitting.{IsScript, call_of, is_done, is_doubt}
use Rattle.hx_model.specs.Causes.{config_of}
use Rattle.hx_model.specs.Holders.{IsPrefix, snap_state}
use Rattle.hx_model.specs.Hearing.{hears_ack, hears_snap, hears_update}
use Rattle.hx_model.specs.Leading.{first_lost}
use Rattle.hx_model.specs.Neighbours.{member_after, next_of, place_number, region_at}
use Rattle.hx_model.specs.Places.{places_of}
use Rattle.hx_model.specs.Regions.{key_region}
use Rattle.hx_model.specs.Slots.{KeyState, has_place, top_of, touches_after}
use Rattle.hx_model.specs.ServerSteps.{Replica, ServerState, if_installed, pending_with, poll_post, replica_for, replica_of, state_in}
use Rattle.hx_model.specs.Runs.{IsRun, coordinator_of, is_actor, server_of}
use Rattle.hx_model.specs.Histories.{line_of}
use Rattle.hx_law_lemmas.specs.Words.{posts_of}
use Rattle.hx_law_epochs.specs.Epochs.{IsInstalled}

-- ---- lines

-- the update is refused: of the places that the effect on the object before asks for, a configuration of the run has lost this one first
pub record IsRefusedFor (script : Script) (trace : List Entry) (key : List ℕ) (older : List Update) (u : Update) (op : Op) : Type 0 where
  pub region : RegionId
  pub config : Config
  pub issued : config_of script config.epoch trace ≡ Some config
  pub answer : u.answer ≡ an_answer.Refused region config.epoch
  pub object : u.object ≡ line_object older
  pub first : first_lost config (places_of script.space key (line_object older) (effect_of script.space (line_object older) op).object
      (effect_of script.space (line_object older) op).changes (length older) (touches_after [] older)) ≡ Some region

-- the update follows on the older ones of its key's line: the effect of a write of the script on
-- the object before, or refused, through the places that its objects before and after ask for, and
-- newer than its session's earlier ones
pub record IsAssigned (script : Script) (trace : List Entry) (key : List ℕ) (older : List Update) (u : Update) : Type 0 where
  pub key_is : u.key ≡ key
  pub version : u.version.0 ≡ length older + 1
  pub op : Op
  pub called : call_of script u.caller ≡ Some op
  pub writes : is_write op ≡ true
  pub on_key : key_of op ≡ Some key
  pub effect : ((u.answer ≡ (effect_of script.space (line_object older) op).answer) × (u.object ≡ (effect_of script.space (line_object older) op).object))
      ⊎ IsRefusedFor script trace key older u op
  pub done : u.changes ≡ is_done u.answer
  pub places : u.places ≡ places_of script.space key (line_object older) u.object u.changes (length older) (touches_after [] older)
  pub newer : (w : Update) → IsIn w older → w.caller.session ≡ u.caller.session → w.caller.number < u.caller.number

-- each update of the line does
abbrev pub AreAssigned : Script → List Entry → List ℕ → List Update → Type 0
AreAssigned script trace key [] = ⊤
AreAssigned script trace key (u ∷ older) = IsAssigned script trace key older u × AreAssigned script trace key older

-- in every run each update of a line follows so
abbrev pub RunsAssignUpdates : Type 0
RunsAssignUpdates = (script : Script) → IsScript script → (trace : List Entry) → IsRun script trace → (key : List ℕ)
    → AreAssigned script trace key (line_of key trace)

-- ---- what holds updates

-- an installed replica of a server that hasn't halted
pub record IsUp (script : Script) (trace : List Entry) (g : RegionId) (s : ServerId) (r : Replica) : Type 0 where
  pub server : is_actor script (Server s) ≡ true
  pub running : (server_of script s trace).halted ≡ false
  pub installed : if_installed (replica_of g (server_of script s trace).replicas) ≡ Some r

-- an installed replica of a server that has halted, and that the newest configuration lists still
pub record IsLeft (script : Script) (trace : List Entry) (g : RegionId) (s : ServerId) (r : Replica) : Type 0 where
  pub listed : lists (coordinator_of script trace).config g s ≡ true
  pub installed : if_installed (replica_of g (server_of script s trace).replicas) ≡ Some r

-- one of the two
abbrev pub IsStanding : Script → List Entry → RegionId → ServerId → Replica → Type 0
IsStanding script trace g s r = IsUp script trace g s r ⊎ IsLeft script trace g s r

-- in every run such a replica holds of each key, as base and list together, its region's part of the key's line up to some version
abbrev pub RunsHoldParts : Type 0
RunsHoldParts =
    (script : Script) → IsScript script → (trace : List Entry) → IsRun script trace
    → (g : RegionId) (s : ServerId) (r : Replica) → IsStanding script trace g s r
    → (key : List ℕ) → IsPrefix g (line_of key trace) (state_in script.space r key)

-- so does a snapshot to a server that hasn't halted and whose replica isn't installed
abbrev pub SnapHolds : Script → List Entry → RegionId → ServerId → List Kept → List Update → Type 0
SnapHolds script trace g s snapshot pending =
    is_actor script (Server s) ≡ true → (server_of script s trace).halted ≡ false → ((r : Replica) → IsUp script trace g s r → ⊥)
    → (key : List ℕ) → IsPrefix g (line_of key trace) (snap_state script.space g key snapshot pending)

-- in every run each that is under way does, of whatever epoch
abbrev pub RunsSendParts : Type 0
RunsSendParts =
    (script : Script) → IsScript script → (trace : List Entry) → IsRun script trace
    → (from : Actor) (epoch : Epoch) (g : RegionId) (s : ServerId) (snapshot : List Kept) (pending : List Update)
    → IsIn (post from (Server s) (a_message.Snap epoch g snapshot pending)) (posts_of trace)
    → SnapHolds script trace g s snapshot pending

-- a snapshot is under way with this slot to a server that hasn't halted and has no installed replica there
pub record IsComing (script : Script) (trace : List Entry) (key : List ℕ) (g : RegionId) (s : ServerId) (t : KeyState) : Type 0 where
  pub from : Actor
  pub epoch : Epoch
  pub snapshot : List Kept
  pub pending : List Update
  pub posted : IsIn (post from (Server s) (a_message.Snap epoch g snapshot pending)) (posts_of trace)
  pub server : is_actor script (Server s) ≡ true
  pub running : (server_of script s trace).halted ≡ false
  pub empty : (r : Replica) → IsUp script trace g s r → ⊥
  pub is : t ≡ snap_state script.space g key snapshot pending

-- the slot of a key that stands for a region at a server: that of an installed replica, or of a snapshot under way
abbrev pub IsHeld : Script → List Entry → List ℕ → RegionId → ServerId → KeyState → Type 0
IsHeld script trace key g s t = ((r : Replica) × IsStanding script trace g s r × (t ≡ state_in script.space r key)) ⊎ IsComing script trace key g s t

-- ---- chains

-- in the update's chain the first position stands before the second: at an earlier place, or earlier in the same region's list
abbrev pub StandsEarlier : Config → Update → RegionId → ServerId → RegionId → ServerId → Type 0
StandsEarlier config u g s h x =
    (place_number g u.places < place_number h u.places) ⊎ ((g ≡ h) × IsBefore s x (map (λ (m : Member). m.server) (members_of config g)))

-- what the second of two slots has accepted the first has, and what the first has committed the second has
pub record InOrder (u : Update) (first second : KeyState) : Type 0 where
  pub accepted : u.version.0 ≤ top_of second → u.version.0 ≤ top_of first
  pub committed : u.version.0 ≤ first.floor → u.version.0 ≤ second.floor

-- in every run updates are accepted down their chains and committed up them, whatever servers halted and whoever joins
abbrev pub RunsKeepOrder : Type 0
RunsKeepOrder =
    (script : Script) → IsScript script → (trace : List Entry) → IsRun script trace
    → (key : List ℕ) (u : Update) → IsIn u (line_of key trace)
    → (g h : RegionId) (s x : ServerId) (t y : KeyState) → has_place g u ≡ true → has_place h u ≡ true
    → IsHeld script trace key g s t → IsHeld script trace key h x y → StandsEarlier (coordinator_of script trace).config u g s h x
    → InOrder u t y

-- ---- answers

-- in every run, where a call on a key was answered with a version and no doubt, each update of the
-- key's line up to that version is committed wherever its chain holds it
abbrev pub RunsAnswerCommitted : Type 0
RunsAnswerCommitted =
    (script : Script) → IsScript script → (trace : List Entry) → IsRun script trace
    → (from : Actor) (c : Caller) (v : Version) (answer : Answer) → IsIn (post from (Session c.session) (a_message.Reply c.number v answer)) (posts_of trace)
    → (op : Op) (key : List ℕ) → call_of script c ≡ Some op → key_of op ≡ Some key → is_doubt answer ≡ false
    → (u : Update) → IsIn u (line_of key trace) → u.version.0 ≤ v.0
    → (g : RegionId) (s : ServerId) (t : KeyState) → has_place g u ≡ true → IsHeld script trace key g s t
    → u.version.0 ≤ t.floor

-- ---- around a position of an update's chain

-- all that stands before it has accepted the update
abbrev pub AcceptedBefore : Script → List Entry → List ℕ → RegionId → ServerId → Update → Type 0
AcceptedBefore script trace key g s u =
    (h : RegionId) (x : ServerId) (t : KeyState) → has_place h u ≡ true → IsHeld script trace key h x t
    → StandsEarlier (coordinator_of script trace).config u h x g s → u.version.0 ≤ top_of t

-- all that stands after it has committed it
abbrev pub CommittedAfter : Script → List Entry → List ℕ → RegionId → ServerId → Update → Type 0
CommittedAfter script trace key g s u =
    (h : RegionId) (x : ServerId) (t : KeyState) → has_place h u ≡ true → IsHeld script trace key h x t
    → StandsEarlier (coordinator_of script trace).config u g s h x → u.version.0 ≤ t.floor

-- what stands at it has accepted it
abbrev pub AcceptedAt : Script → List Entry → List ℕ → RegionId → ServerId → Update → Type 0
AcceptedAt script trace key g s u = (t : KeyState) → IsHeld script trace key g s t → u.version.0 ≤ top_of t

-- what stands at it has committed it
abbrev pub CommittedAt : Script → List Entry → List ℕ → RegionId → ServerId → Update → Type 0
CommittedAt script trace key g s u = (t : KeyState) → IsHeld script trace key g s t → u.version.0 ≤ t.floor

-- ---- what replicas keep for later

-- an early update stands in its key's line, and all before the replica in its chain has accepted
-- it; by its server's own configuration the replica isn't the key's leader
pub record EarlyStands (script : Script) (trace : List Entry) (key : List ℕ) (g : RegionId) (s : ServerId) (u : Update) : Type 0 where
  pub stands : IsIn u (line_of key trace)
  pub placed : has_place g u ≡ true
  pub accepted : AcceptedBefore script trace key g s u
  pub follows : g ≡ key_region script.space key → head_of (server_of script s trace).config g ≡ Some s → ⊥

-- the chain ends here, or goes on at an installed replica
abbrev pub GoesOnInstalled : Script → List Entry → List Place → Hop → Type 0
GoesOnInstalled script trace places End = ⊤
GoesOnInstalled script trace places (At x place) = IsInstalled (server_of script x trace) (region_at places place)
GoesOnInstalled script trace places (Blocked g) = ⊥

-- an acknowledged version stands in its key's line; the replica and all before it in the chain have
-- accepted it, and all after it has committed it; by its server's own configuration the chain ends
-- at the replica, or goes on at an installed one
pub record AcknowledgedStands (script : Script) (trace : List Entry) (key : List ℕ) (g : RegionId) (s : ServerId) (t : KeyState) (v : ℕ) : Type 0 where
  pub update : Update
  pub stands : IsIn update (line_of key trace)
  pub version : update.version.0 ≡ v
  pub placed : has_place g update ≡ true
  pub here : v ≤ top_of t
  pub accepted : AcceptedBefore script trace key g s update
  pub committed : CommittedAfter script trace key g s update
  pub next : GoesOnInstalled script trace update.places (next_of (server_of script s trace).config update.places (place_number g update.places) s)

-- in every run all that an installed replica of a server that hasn't halted keeps early, or as acknowledged, stands so
abbrev pub RunsKeepWhatStands : Type 0
RunsKeepWhatStands =
    (script : Script) → IsScript script → (trace : List Entry) → IsRun script trace
    → (g : RegionId) (s : ServerId) (r : Replica) → IsUp script trace g s r → (key : List ℕ)
    → ((u : Update) → IsIn u (state_in script.space r key).early → EarlyStands script trace key g s u)
    × ((v : ℕ) → IsIn v (state_in script.space r key).acked → AcknowledgedStands script trace key g s (state_in script.space r key) v)

-- ---- posts under way

-- the server hasn't halted, and has this configuration or may come to have it: one of the run that isn't older than its own
pub record MayHave (script : Script) (trace : List Entry) (s : ServerId) (c : Config) : Type 0 where
  pub server : is_actor script (Server s) ≡ true
  pub running : (server_of script s trace).halted ≡ false
  pub issued : config_of script c.epoch trace ≡ Some c
  pub later : (server_of script s trace).config.epoch.0 ≤ c.epoch.0

-- by such a configuration, which lists the server for the region, it hears the post
pub record MayHear (script : Script) (trace : List Entry) (g : RegionId) (s : ServerId) (hears : Config → Bool) : Type 0 where
  pub config : Config
  pub may : MayHave script trace s config
  pub listed : lists config g s ≡ true
  pub heard : hears config ≡ true

-- the update may be heard
abbrev pub MayHearUpdate : Script → List Entry → Actor → RegionId → ServerId → Update → Type 0
MayHearUpdate script trace from g s u = MayHear script trace g s (λ (c : Config). hears_update c u (place_number g u.places) s from)

-- the acknowledgement of this update may be heard
abbrev pub MayHearAck : Script → List Entry → Actor → RegionId → RegionId → ServerId → Update → Type 0
MayHearAck script trace from by g s u = MayHear script trace g s (λ (c : Config). hears_ack c u (place_number g u.places) s from by)

-- the sender is a server with an installed replica of this region, and the post is of no later epoch than its own
pub record IsSentFrom (script : Script) (trace : List Entry) (from : Actor) (epoch : Epoch) (g : RegionId) : Type 0 where
  pub server : ServerId
  pub from_is : from ≡ Server server
  pub installed : IsInstalled (server_of script server trace) g
  pub no_later : epoch.0 ≤ (server_of script server trace).config.epoch.0

-- by a configuration of the run, which lists both, the second position comes right after the first in the update's chain
pub record ComesNext (script : Script) (trace : List Entry) (u : Update) (g : RegionId) (s : ServerId) (h : RegionId) (x : ServerId) : Type 0 where
  pub config : Config
  pub issued : config_of script config.epoch trace ≡ Some config
  pub first : lists config g s ≡ true
  pub second : lists config h x ≡ true
  pub next : next_of config u.places (place_number g u.places) s ≡ At x (place_number h u.places)

-- an update under way came from such a server, after which the receiver came in the update's chain;
-- where the newest configuration lists the sender, it stands in its key's line and the sender has
-- accepted it; where the receiver may hear it, it stands there, the newest configuration lists the
-- receiver, and all before the receiver in its chain has accepted it
pub record UpdateStands (script : Script) (trace : List Entry) (from : Actor) (epoch : Epoch) (g : RegionId) (s : ServerId) (u : Update) : Type 0 where
  pub region : RegionId
  pub sent : IsSentFrom script trace from epoch region
  pub sender_placed : has_place region u ≡ true
  pub placed : has_place g u ≡ true
  pub route : ComesNext script trace u region sent.server g s
  pub assigned : lists (coordinator_of script trace).config region sent.server ≡ true → IsIn u (line_of u.key trace)
  pub kept : lists (coordinator_of script trace).config region sent.server ≡ true → AcceptedAt script trace u.key region sent.server u
  pub stands : MayHearUpdate script trace from g s u → IsIn u (line_of u.key trace)
  pub listed : MayHearUpdate script trace from g s u → lists (coordinator_of script trace).config g s ≡ true
  pub accepted : MayHearUpdate script trace from g s u → AcceptedBefore script trace u.key g s u

-- an acknowledged version stands in its key's line and is accepted by all that stands in its chain;
-- its acknowledgement came from such a server, which has committed it where the newest
-- configuration lists it; where the receiver may hear it, the newest configuration lists the
-- receiver, and all after the receiver in the chain has committed it
pub record AckStands (script : Script) (trace : List Entry) (from : Actor) (epoch : Epoch) (by g : RegionId)
    (s : ServerId) (key : List ℕ) (v : Version) : Type 0 where
  pub update : Update
  pub stands : IsIn update (line_of key trace)
  pub version : update.version ≡ v
  pub sent : IsSentFrom script trace from epoch by
  pub sender_placed : has_place by update ≡ true
  pub placed : has_place g update ≡ true
  pub accepted : (h : RegionId) (x : ServerId) → has_place h update ≡ true → AcceptedAt script trace key h x update
  pub done : lists (coordinator_of script trace).config by sent.server ≡ true → CommittedAt script trace key by sent.server update
  pub listed : MayHearAck script trace from by g s update → lists (coordinator_of script trace).config g s ≡ true
  pub committed : MayHearAck script trace from by g s update → CommittedAfter script trace key g s update

-- a snapshot under way came from an installed replica, by the configuration of its epoch the
-- region's last ready one, and goes to the member right after it; where that server hasn't halted,
-- the newest configuration lists it
pub record SnapStands (script : Script) (trace : List Entry) (from : Actor) (epoch : Epoch) (g : RegionId)
    (s : ServerId) (snapshot : List Kept) (pending : List Update) : Type 0 where
  pub sent : IsSentFrom script trace from epoch g
  pub config : Config
  pub issued : config_of script epoch trace ≡ Some config
  pub joiner : joiner_for config g sent.server ≡ Some s
  pub next : member_after sent.server (members_of config g) ≡ Some s
  pub listed : is_actor script (Server s) ≡ true → (server_of script s trace).halted ≡ false → lists (coordinator_of script trace).config g s ≡ true
  pub holds : SnapHolds script trace g s snapshot pending

-- what is said of a post to a server
abbrev pub PostStands : Script → List Entry → Actor → ServerId → Message → Type 0
PostStands script trace from s (a_message.Update epoch g u) = UpdateStands script trace from epoch g s u
PostStands script trace from s (a_message.Ack epoch g by key version) = AckStands script trace from epoch by g s key version
PostStands script trace from s (a_message.Snap epoch g snapshot pending) = SnapStands script trace from epoch g s snapshot pending
PostStands script trace from s other = ⊤

-- in every run all updates, acknowledgements and snapshots under way stand so
abbrev pub RunsPostsStand : Type 0
RunsPostsStand =
    (script : Script) → IsScript script → (trace : List Entry) → IsRun script trace
    → (from : Actor) (s : ServerId) (m : Message) → IsIn (post from (Server s) m) (posts_of trace) → PostStands script trace from s m

-- ---- whom a replica hears

-- nothing of the server changes, and at most it asks for the newest configuration, where the message is of a later epoch
pub record IsDropped (before after : ServerState) (epoch : Epoch) (posts : List Post) : Type 0 where
  pub state : after ≡ before
  pub posted : posts ≡ provided (nat_lt before.config.epoch.0 epoch.0) (poll_post before ∷ [])

-- what a server takes between replicas comes from its neighbour by its own configuration: where its
-- replica is installed, an update from its predecessor and an acknowledgement of a pending update
-- from its successor; where it has a replica, a snapshot from the member before it; all else is
-- dropped
abbrev pub HearsNeighbour : Space → ServerId → ServerState → ServerState → List Post → Actor → Message → Type 0
HearsNeighbour space s before after posts from (a_message.Update epoch g u) =
    ((r : Replica) × (if_installed (replica_for before g) ≡ Some r) × (hears_update before.config u (place_number g u.places) s from ≡ true))
    ⊎ IsDropped before after epoch posts
HearsNeighbour space s before after posts from (a_message.Ack epoch g by key v) =
    ((r : Replica) × (u : Update) × (if_installed (replica_for before g) ≡ Some r) × (pending_with v.0 (state_in space r key) ≡ Some u)
    × (hears_ack before.config u (place_number g u.places) s from by ≡ true))
    ⊎ IsDropped before after epoch posts
HearsNeighbour space s before after posts from (a_message.Snap epoch g snapshot pending) =
    ((r : Replica) × (replica_for before g ≡ Some r) × (hears_snap before.config g s from ≡ true)) ⊎ IsDropped before after epoch posts
HearsNeighbour space s before after posts from other = ⊤

-- in every run a server takes them from its neighbours alone
abbrev pub RunsHearNeighbours : Type 0
RunsHearNeighbours =
    (script : Script) → IsScript script → (x : Entry) (older : List Entry) → IsRun script (x ∷ older)
    → (s : ServerId) → x.actor ≡ Server s → (id : PostId) (from : Actor) (m : Message) → x.input ≡ Deliver id from m
    → HearsNeighbour script.space s (server_of script s older) (server_of script s (x ∷ older)) x.outputs from m
