-- The laws of folding.
use Rattle.hx_model.specs.Lines.{upto}
use Rattle.std.specs.Prelude.{◌≡◌, ◌<◌, ℕ, true, Bool, List, [], ◌++◌, None}
use Rattle.std.specs.List.{AllByRecursion, flat_map}
use Rattle.hx_model.specs.Types.{Caller, Config, Entry, Input, Kept, Message, Op, RegionId, Script, ServerId, Space, Update}
use Rattle.hx_types.specs.Posts.{Bounds, IsSoundMessage}
use Rattle.hx_types.specs.Subspaces.{is_key_region}
use Rattle.hx_types.specs.Words.{provided}
use Rattle.hx_model.specs.Holders.{IsPrefix, only_in, snap_state}
use Rattle.hx_model.specs.Leading.{decide, stuck_of}
use Rattle.hx_model.specs.Regions.{key_region}
use Rattle.hx_model.specs.Runs.{server_of}
use Rattle.hx_model.specs.ServerSteps.{Replica, ServerState, SlotContext, accepting, ack_step, adopted_state}
use Rattle.hx_model.specs.ServerSteps.{call_step, installed_slots, move_posts, offered_all, passed_on, resumed}
use Rattle.hx_model.specs.ServerSteps.{resumed_posts, server_at_start, server_step, state_from, update_step}
use Rattle.hx_model.specs.Slots.{Acknowledge, Forget, KeyState, Move, ack_answer, acknowledged, is_pending, kept_of}
use Rattle.hx_model.specs.Slots.{kept_row, latest_of, marks_after, moved, moved_all, object_in, object_of}
use Rattle.hx_model.specs.Slots.{offer_answer, offered, pending_of, pending_of_all, settled, snapshot_of, state_among}
use Rattle.hx_model.specs.Slots.{top_above, top_of, touches_after, touches_of}
use Rattle.hx_law_folds.specs.Folding.{CanBeSent, CanJoin, HasFloors, MessageJoins, InTurn, Descends, InputFits}
use Rattle.hx_law_folds.specs.Folding.{InputJoins, InputsFit, IsJoinableReplica, IsJoinableServer, KeptsAscend, IsBare}
use Rattle.hx_law_folds.specs.Folding.{IsLater, IsServerOf, IsSlotOf, KeysDiffer, MayFollow, MessageFits, ShowSame}
use Rattle.hx_law_folds.specs.Folding.{StandsFor, StepFolds, folded, folded_server, folded_step, kept_over, lean_of}

-- what a slot shows is what it shows without its past
abbrev pub FoldsShowSame : Type 0
FoldsShowSame = (g : RegionId) (s : KeyState) → IsSlotOf g s → ShowSame g (folded g s) s

-- and so is what it answers and decides
pub record AnswerSame (g : RegionId) (s t : KeyState) : Type 0 where
  pub offered : (u : Update) → offered g s u ≡ offered g t u
  pub offer : (u : Update) → offer_answer g s u ≡ offer_answer g t u
  pub pending : (v : ℕ) → is_pending v s ≡ is_pending v t
  pub settled : settled s ≡ settled t
  pub acknowledged : (v : ℕ) → acknowledged s v ≡ acknowledged t v
  pub ack : (v : ℕ) → ack_answer s v ≡ ack_answer t v
  pub stuck : (config : Config) → stuck_of config s ≡ stuck_of config t
  pub decides : t.marks ≡ true → (space : Space) (config : Config) (caller : Caller) (op : Op)
      → decide space config g s caller op ≡ decide space config g t caller op

abbrev pub FoldsAnswerSame : Type 0
FoldsAnswerSame = (g : RegionId) (s : KeyState) → IsSlotOf g s → AnswerSame g (folded g s) s

-- folding commutes with moves, twice is once, and the folded slot is one
abbrev pub FoldingTwice : Type 0
FoldingTwice = (g : RegionId) (s : KeyState) → folded g (folded g s) ≡ folded g s

abbrev pub MovesFold : Type 0
MovesFold = (g : RegionId) (m : Move) (s : KeyState) → MayFollow s m → folded g (moved m (folded g s)) ≡ folded g (moved m s)

abbrev pub FoldedIsSlot : Type 0
FoldedIsSlot = (g : RegionId) (s : KeyState) → IsSlotOf g s → IsSlotOf g (folded g s)

-- the steps of a slot
abbrev pub UpdatesFold : Type 0
UpdatesFold = (context : SlotContext) (s : KeyState) → IsSlotOf context.region s → (u : Update)
    → IsLater context.region u → StepFolds context.region (λ x. update_step context x u) s

abbrev pub AcksFold : Type 0
AcksFold = (context : SlotContext) (s : KeyState) → IsSlotOf context.region s → (v : ℕ) → StepFolds context.region (λ x. ack_step context x v) s

abbrev pub CallsFold : Type 0
CallsFold =
    (context : SlotContext) (s : KeyState) → IsSlotOf context.region s → s.marks ≡ true → context.region ≡ key_region context.space s.base.key
    → (caller : Caller) (op : Op) → StepFolds context.region (λ x. call_step context x caller op) s

-- a configuration is adopted
abbrev pub AdoptingFolds : Type 0
AdoptingFolds =
    (context : SlotContext) (s : KeyState) → IsSlotOf context.region s
    → (resumed_posts context (folded context.region s) ≡ resumed_posts context s)
    × ((active : Bool) → folded context.region (adopted_state context active (folded context.region s))
    ≡ folded context.region (adopted_state context active s))

-- the step of a server: the same posts and notes, and the same state without its past
abbrev pub ServersFold : Type 0
ServersFold = (space : Space) (s : ServerState) → IsServerOf space s → (input : Input) → InputFits input
    → folded_step (server_step space (folded_server s) input) ≡ folded_step (server_step space s input)

abbrev pub ServersStay : Type 0
ServersStay = (space : Space) (s : ServerState) → IsServerOf space s → (input : Input) → InputFits input → IsServerOf space (server_step space s input).state

-- the servers of a trace
abbrev pub TracesFold : Type 0
TracesFold = (script : Script) (s : ServerId) (trace : List Entry) → InputsFit trace
    → IsServerOf script.space (server_of script s trace) × (lean_of script s trace ≡ folded_server (server_of script s trace))

-- a slot without a past: what an offer leaves has none, and a commit takes the lowest pending updates over the base
abbrev pub OffersStayBare : Type 0
OffersStayBare = (g : RegionId) (s : KeyState) (u : Update) → IsSlotOf g s → IsBare g s → IsLater g u
    → folded g (moved_all (offered g s u) s) ≡ moved_all (offered g s u) s

abbrev pub CommitsFold : Type 0
CommitsFold =
    (g : RegionId) (s : KeyState) (newer older : List Update) (acked : List ℕ) → s.accepted ≡ newer ++ older → Descends s.base.floor.0 s.accepted
    → folded g (record s { floor = top_above s.base.floor.0 older; acked = acked })
    ≡ record s { base = kept_over g s.marks s.base older; accepted = newer; floor = top_above s.base.floor.0 older; acked = acked }

abbrev pub FoldsJoin : Type 0
FoldsJoin = (g : RegionId) (marks : Bool) (base : Kept) (newer older : List Update)
    → kept_over g marks (kept_over g marks base older) newer ≡ kept_over g marks base (newer ++ older)

-- a base with a list on it shows the folds of the line, with and without its past
pub record ShowsLine (g : RegionId) (line : List Update) (s : KeyState) : Type 0 where
  pub object : object_of g s ≡ kept_row g None (only_in g (upto s.floor line))
  pub latest : latest_of g s ≡ object_in (kept_row g None (only_in g (upto (top_of s) line)))
  pub marks : s.marks ≡ true → marks_after s.base.marks s.accepted ≡ marks_after [] (only_in g (upto (top_of s) line))
  pub touches : s.marks ≡ true → touches_of s ≡ touches_after [] (only_in g (upto (top_of s) line))
  pub kept_marks : (kept_of g s).marks ≡ provided s.marks (marks_after [] (only_in g (upto s.floor line)))
  pub kept_touches : (kept_of g s).touches ≡ provided s.marks (touches_after [] (only_in g (upto s.floor line)))

abbrev pub PrefixesShowLine : Type 0
PrefixesShowLine = (g : RegionId) (line : List Update) (s : KeyState) → Descends 0 line → IsSlotOf g s → IsPrefix g line s → ShowsLine g line s

abbrev pub PrefixesFold : Type 0
PrefixesFold = (g : RegionId) (line : List Update) (s : KeyState) → Descends 0 line → IsSlotOf g s → IsPrefix g line s → IsPrefix g line (folded g s)

-- a snapshot stands for its sender's slots without their past
abbrev pub SnapshotsFold : Type 0
SnapshotsFold =
    (space : Space) (g : RegionId) (key : List ℕ) (states : List KeyState) → AllByRecursion (CanBeSent g (is_key_region space g)) states → KeysDiffer states
    → snap_state space g key (snapshot_of g states) (pending_of_all states) ≡ moved Forget (folded g (state_among (is_key_region space g) key states))

-- a joiner's slot is the sender's without its past, as it goes on in the joiner's place
abbrev pub over : RegionId → KeyState → KeyState
over g s = state_from s.marks (kept_of g s)

abbrev pub joining : SlotContext → KeyState → List Move
joining context s = accepting context (over context.region s) (offered_all context.region (over context.region s) (pending_of s))

pub record Joins (context : SlotContext) (s : KeyState) : Type 0 where
  pub taken : moved_all (offered_all context.region (over context.region s) (pending_of s)) (over context.region s) ≡ moved Forget (folded context.region s)
  pub state : moved_all (joining context s) (over context.region s) ≡ moved_all (resumed context (folded context.region s)) (folded context.region s)
  pub posts : flat_map (move_posts context) (joining context s)
      ≡ flat_map (passed_on context) (pending_of (folded context.region s))
      ++ flat_map (move_posts context) (resumed context (folded context.region s))

abbrev pub JoinersFold : Type 0
JoinersFold = (context : SlotContext) (s : KeyState) → IsSlotOf context.region s → InTurn context.region s.base.floor.0 s.accepted → Joins context s

-- after it has installed a snapshot with its pending updates, each slot of a joiner is the sender's slot without its past, as it goes on in the joiner's place
abbrev pub InstallsFold : Type 0
InstallsFold =
    (context : SlotContext) (states : List KeyState)
    → AllByRecursion (CanJoin context.region (is_key_region context.space context.region)) states
    → KeysDiffer states → (key : List ℕ)
    → state_among (is_key_region context.space context.region) key (installed_slots context (snapshot_of context.region states) (pending_of_all states)).states
    ≡ moved_all (resumed context (folded context.region
    (state_among (is_key_region context.space context.region) key states)))
    (folded context.region (state_among (is_key_region context.space context.region) key states))

-- the slots of a server can be sent to a joiner: at the start, and after each step; and what is sent keeps it so where it is taken in
pub record SendsJoin (g : RegionId) (at_key : Bool) (states : List KeyState) : Type 0 where
  pub slots : AllByRecursion (CanJoin g at_key) states
  pub differ : KeysDiffer states
  pub floors : AllByRecursion (λ (k : Kept). 0 < k.floor.0) (snapshot_of g states)
  pub ascend : KeptsAscend (snapshot_of g states)

abbrev pub ReplicasSend : Type 0
ReplicasSend = (space : Space) (r : Replica) → IsJoinableReplica space r → SendsJoin r.region (is_key_region space r.region) r.states

abbrev pub StartsJoinable : Type 0
StartsJoinable = (space : Space) (s : ServerId) → IsJoinableServer space (server_at_start space s)

abbrev pub StaysJoinable : Type 0
StaysJoinable = (space : Space) (s : ServerState) → IsJoinableServer space s → (input : Input) → InputJoins input
    → IsJoinableServer space (server_step space s input).state

abbrev pub SoundMessagesJoin : Type 0
SoundMessagesJoin = (b : Bounds) (m : Message) → IsSoundMessage b m → HasFloors m → MessageJoins m

-- the steps of a slot without a past, said of the whole lists that it stands for
pub record Stand (g : RegionId) (v s : KeyState) : Type 0 where
  pub bare : IsBare g v
  pub slot : IsSlotOf g v
  pub shows : ShowSame g v s
  pub answers : AnswerSame g v s
  pub offers : (u : Update) → IsLater g u → StandsFor g (moved_all (offered g v u) v) (moved_all (offered g s u) s)
  pub marks : (n : ℕ) → StandsFor g (moved (Acknowledge n) v) (moved (Acknowledge n) s)
  pub settles : StandsFor g (folded g (moved_all (settled v) v)) (moved_all (settled s) s)
  pub acknowledges : (n : ℕ) → StandsFor g (folded g (moved_all (acknowledged v n) v)) (moved_all (acknowledged s n) s)
  pub forgets : StandsFor g (moved Forget v) (moved Forget s)

abbrev pub LeanSlotsStand : Type 0
LeanSlotsStand = (g : RegionId) (v s : KeyState) → StandsFor g v s → Stand g v s

-- sound messages are such as the laws on servers ask for
abbrev pub SoundMessagesFit : Type 0
SoundMessagesFit = (b : Bounds) (m : Message) → IsSoundMessage b m → MessageFits m
