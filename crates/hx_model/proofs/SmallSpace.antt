-- A small space for single steps: three servers, one key region, and one declared subspace of two regions.
use Rattle.std.specs.Prelude.{ℕ, Bool, true, false, List, [], ◌∷◌, map, codes, None, Some}
use Rattle.hx_model.specs.Types.{Actor, Answer, Caller, Config, Coordinator, Deliver, Epoch, Input, Mark, Member, Message, Op, Place, Post, Put, RegionId, Row}
use Rattle.hx_model.specs.Types.{Server, ServerId, Session, SessionId, Space, Touch, Update, Value, Version}
use Rattle.hx_types.specs.declared.calls.Answer.TheVariants as an_answer
use Rattle.hx_types.specs.declared.spaces.Kind.TheVariants as a_kind
use Rattle.hx_types.specs.declared.values.Value.TheVariants as a_value
use Rattle.hx_model.specs.Slots.{KeyState}
use Rattle.hx_model.specs.ServerSteps.{Replica, ServerState, ServerStep}

-- region 0 has all keys; the color red lies in region 1 and blue in region 2
abbrev pub shop : Space
shop =
    record {
      name = codes "shop";
      key_name = codes "name";
      key_parts = 1;
      attributes = record { name = codes "color"; kind = a_kind.Text } ∷ [];
      subspaces = (record { attribute = 1; parts = 2 } ∷ []) ∷ [];
      servers = 3;
      tolerate = 1;
    }

abbrev pub red : List ℕ
red = codes "a"

abbrev pub blue : List ℕ
blue = codes "b"

abbrev pub server : ℕ → ServerId
server n = record { 0 = n }

abbrev pub region : ℕ → RegionId
region n = record { 0 = n }

abbrev pub version : ℕ → Version
version n = record { 0 = n }

abbrev pub epoch : ℕ → Epoch
epoch n = record { 0 = n }

abbrev pub session : ℕ → SessionId
session n = record { 0 = n }

abbrev pub caller : ℕ → ℕ → Caller
caller u number = record { session = session u; number = number }

abbrev pub ready : ℕ → Member
ready n = record { server = server n; ready = true }

abbrev pub joining : ℕ → Member
joining n = record { server = server n; ready = false }

abbrev pub configured : ℕ → List ℕ → List (List Member) → Config
configured e servers regions = record { epoch = epoch e; servers = map server servers; regions = regions }

-- the configuration of three servers in epoch 2
abbrev pub whole : Config
whole = configured 2 (1 ∷ 2 ∷ 3 ∷ []) ((ready 1 ∷ ready 2 ∷ []) ∷ (ready 2 ∷ ready 3 ∷ []) ∷ (ready 3 ∷ ready 1 ∷ []) ∷ [])

-- posts
abbrev pub between : ℕ → ℕ → Message → Post
between s t message = record { from = Server (server s); to = Server (server t); message = message }

abbrev pub to_session : ℕ → ℕ → Message → Post
to_session s u message = record { from = Server (server s); to = Session (session u); message = message }

abbrev pub to_coordinator : ℕ → Message → Post
to_coordinator s message = record { from = Server (server s); to = Coordinator; message = message }

abbrev pub by_coordinator : ℕ → Message → Post
by_coordinator s message = record { from = Coordinator; to = Server (server s); message = message }

abbrev pub by_coordinator_to_session : ℕ → Message → Post
by_coordinator_to_session u message = record { from = Coordinator; to = Session (session u); message = message }

abbrev pub by_session : ℕ → ℕ → Message → Post
by_session u s message = record { from = Session (session u); to = Server (server s); message = message }

abbrev pub by_session_to_coordinator : ℕ → Message → Post
by_session_to_coordinator u message = record { from = Session (session u); to = Coordinator; message = message }

-- a message that comes from an actor
abbrev pub delivered : Actor → Message → Input
delivered from message = Deliver (record { entry = 1; place = 0 }) from message

abbrev pub from_server : ℕ → Message → Input
from_server n message = delivered (Server (server n)) message

abbrev pub from_session : ℕ → Message → Input
from_session n message = delivered (Session (session n)) message

abbrev pub from_coordinator : Message → Input
from_coordinator message = delivered Coordinator message

-- operations on the key a
abbrev pub the_key : List ℕ
the_key = codes "a"

abbrev pub put_color : List ℕ → Op
put_color color = Put the_key (record { attribute = 1; value = a_value.Text color } ∷ [])

abbrev pub colored : List ℕ → List Value
colored color = a_value.Text color ∷ []

abbrev pub place : ℕ → ℕ → Bool → Place
place g after keeps = record { region = region g; after = version after; keeps = keeps }

-- three updates of the key: version 1 puts red, version 2 puts blue, version 3 deletes
abbrev pub first_update : Update
first_update =
    record {
      key = the_key;
      version = version 1;
      caller = caller 1 1;
      answer = an_answer.Done;
      changes = true;
      object = Some (colored red);
      places = place 0 0 true ∷ place 1 0 true ∷ [];
    }

abbrev pub second_update : Update
second_update =
    record {
      key = the_key;
      version = version 2;
      caller = caller 2 1;
      answer = an_answer.Done;
      changes = true;
      object = Some (colored blue);
      places = place 0 1 true ∷ place 1 1 false ∷ place 2 0 true ∷ [];
    }

abbrev pub third_update : Update
third_update =
    record {
      key = the_key;
      version = version 3;
      caller = caller 1 2;
      answer = an_answer.Done;
      changes = true;
      object = None;
      places = place 0 2 false ∷ place 2 2 false ∷ [];
    }

abbrev pub mark : ℕ → ℕ → ℕ → Answer → Mark
mark u number v answer = record { session = session u; number = number; version = version v; answer = answer }

abbrev pub touch : ℕ → ℕ → Touch
touch g v = record { region = region g; version = version v }

abbrev pub row : List ℕ → ℕ → List ℕ → Row
row key v color = record { key = key; version = version v; object = colored color }

-- the slot of a key without a snapshot: all updates newest first, the floor, what is acknowledged, what came early
abbrev pub slot_of : List ℕ → Bool → List Update → ℕ → List ℕ → List Update → KeyState
slot_of key marks accepted floor acked early =
    record {
      marks = marks;
      base = record { key = key; floor = version 0; object = None; marks = []; touches = [] };
      accepted = accepted;
      floor = floor;
      acked = acked;
      early = early;
    }

-- in the key's region, and in another
abbrev pub key_slot : List Update → ℕ → List ℕ → List Update → KeyState
key_slot accepted floor acked early = slot_of the_key true accepted floor acked early

abbrev pub other_slot : List Update → ℕ → List ℕ → List Update → KeyState
other_slot accepted floor acked early = slot_of the_key false accepted floor acked early

abbrev pub replica : ℕ → List KeyState → Replica
replica g states = record { region = region g; installed = true; states = states }

abbrev pub not_installed : ℕ → Replica
not_installed g = record { region = region g; installed = false; states = [] }

-- a server that runs
abbrev pub running : ℕ → Config → List Replica → ServerState
running n config replicas = record { id = server n; config = config; halted = false; replicas = replicas }

-- a step that changes the state and notes nothing
abbrev pub stepping : ServerState → List Post → ServerStep
stepping s posts = record { state = s; posts = posts; notes = [] }

-- a step that does nothing
abbrev pub ignoring : ServerState → ServerStep
ignoring s = stepping s []
