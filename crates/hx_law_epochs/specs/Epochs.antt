-- Configurations of every run: how each follows on the one before, and which servers have halted where it is issued.
use Rattle.std.specs.Prelude.{◌≡◌, ◌+◌, ◌≤◌, ◌⊎◌, true, false, List, ◌∷◌, map, is_some, ⊤, Some}
use Rattle.hx_model.specs.Types.{Actor, Config, Entry, Epoch, Member, Message, RegionId, Script, Server, ServerId, SessionId}
use Rattle.hx_types.specs.declared.messages.Message.TheVariants as a_message
use Rattle.hx_types.specs.declared.traces.Note.TheVariants as a_note
use Rattle.hx_types.specs.Words.{IsBefore, IsIn, post}
use Rattle.hx_types.specs.Configs.{is_lost, lists, lists_joining, lists_ready, members_of}
use Rattle.hx_types.specs.Fitting.{IsScript}
use Rattle.hx_model.specs.Runs.{IsRun, coordinator_of, is_actor, server_of, session_of}
use Rattle.hx_model.specs.Causes.{config_of}
use Rattle.hx_model.specs.Holders.{IsPosted}
use Rattle.hx_model.specs.ServerSteps.{ServerState, if_installed, replica_of}

-- the servers of a region's members, in order
abbrev pub order : Config → RegionId → List ServerId
order c g = map (λ (m : Member). m.server) (members_of c g)

-- a configuration follows on another: the next epoch; servers only leave; each list is the one
-- before without the departed, with at most one member more, who isn't ready and stands last; who
-- is ready stays so
pub record FollowsOn (c next : Config) : Type 0 where
  pub epoch : next.epoch.0 ≡ c.epoch.0 + 1
  pub servers : (s : ServerId) → IsIn s next.servers → IsIn s c.servers
  pub stays : (g : RegionId) (s : ServerId) → IsIn s next.servers → lists c g s ≡ true → lists next g s ≡ true
  pub same_order : (g : RegionId) (x y : ServerId) → lists c g y ≡ true → IsBefore x y (order next g) → IsBefore x y (order c g)
  pub keeps_order : (g : RegionId) (x y : ServerId) → IsIn x next.servers → IsIn y next.servers → IsBefore x y (order c g) → IsBefore x y (order next g)
  pub joins : (g : RegionId) (s : ServerId) → lists next g s ≡ true → (lists c g s ≡ true)
      ⊎ (lists_joining next g s ≡ true) × (is_lost c g ≡ false) × ((x : ServerId) → IsBefore s x (order next g) → ⊥)
  pub ready : (g : RegionId) (s : ServerId) → IsIn s next.servers → lists_ready c g s ≡ true → lists_ready next g s ≡ true
  pub lost : (g : RegionId) → is_lost c g ≡ true → is_lost next g ≡ true

-- a configuration was issued: it follows on the newest one before, and each server that it leaves out has halted
pub record WasIssued (script : Script) (older : List Entry) (next : Config) : Type 0 where
  pub before : Config
  pub newest : (coordinator_of script older).config ≡ before
  pub known : config_of script before.epoch older ≡ Some before
  pub follows : FollowsOn before next
  pub departed : (s : ServerId) → IsIn s before.servers → (IsIn s next.servers → ⊥) → (server_of script s older).halted ≡ true

-- in every run each configuration is issued so
abbrev pub RunsFollowOn : Type 0
RunsFollowOn =
    (script : Script) → IsScript script
    → (x : Entry) (older : List Entry) → IsRun script (x ∷ older)
    → (next : Config) → IsIn (a_note.Issued next) x.notes → WasIssued script older next

-- in every run the configurations from epoch 1 to that of the coordinator are there, and no others
pub record RunsOn (script : Script) (trace : List Entry) : Type 0 where
  pub each : (epoch : Epoch) → 1 ≤ epoch.0 → epoch.0 ≤ (coordinator_of script trace).config.epoch.0 → (c : Config) × (config_of script epoch trace ≡ Some c)
  pub only : (epoch : Epoch) (c : Config) → config_of script epoch trace ≡ Some c → (1 ≤ epoch.0)
      × (epoch.0 ≤ (coordinator_of script trace).config.epoch.0) × (c.epoch ≡ epoch)

abbrev pub RunsNumberEpochs : Type 0
RunsNumberEpochs = (script : Script) → IsScript script → (trace : List Entry) → IsRun script trace → RunsOn script trace

-- the server's replica of the region is installed
abbrev pub IsInstalled : ServerState → RegionId → Type 0
IsInstalled s g = is_some (if_installed (replica_of g s.replicas)) ≡ true

-- what a server told stays: who told that it is gone has halted; who told that it is ready, in whatever epoch, is installed
abbrev pub HasTold : Script → List Entry → ServerId → Message → Type 0
HasTold script trace s a_message.Gone = (server_of script s trace).halted ≡ true
HasTold script trace s (a_message.Ready epoch g) = IsInstalled (server_of script s trace) g
HasTold script trace s other = ⊤

-- what holds of epochs after a run: configurations of actors are known, and none is newer than the
-- coordinator's; a server that hasn't halted is in the newest; installed replicas are listed by
-- their server's own configuration; ready members of every known configuration are installed
pub record EpochsHold (script : Script) (trace : List Entry) : Type 0 where
  pub servers_known : (s : ServerId) → config_of script (server_of script s trace).config.epoch trace ≡ Some (server_of script s trace).config
  pub sessions_known : (u : SessionId) → config_of script (session_of script u trace).config.epoch trace ≡ Some (session_of script u trace).config
  pub newest_known : config_of script (coordinator_of script trace).config.epoch trace ≡ Some (coordinator_of script trace).config
  pub older : (s : ServerId) → (server_of script s trace).config.epoch.0 ≤ (coordinator_of script trace).config.epoch.0
  pub listed : (s : ServerId) → is_actor script (Server s) ≡ true → (server_of script s trace).halted ≡ false
      → IsIn s (coordinator_of script trace).config.servers
  pub home : (s : ServerId) (g : RegionId) → IsInstalled (server_of script s trace) g → lists (server_of script s trace).config g s ≡ true
  pub ready : (epoch : Epoch) (c : Config) → config_of script epoch trace ≡ Some c → (g : RegionId) (s : ServerId)
      → lists_ready c g s ≡ true → IsInstalled (server_of script s trace) g
  pub told : (s : ServerId) (to : Actor) (m : Message) → IsPosted trace (post (Server s) to m) → HasTold script trace s m
  pub installs : (from to : Actor) (config : Config) → IsPosted trace (post from to (a_message.Install config))
      → (config_of script config.epoch trace ≡ Some config) × (config.epoch.0 ≤ (coordinator_of script trace).config.epoch.0)

-- in every run
abbrev pub RunsKeepEpochs : Type 0
RunsKeepEpochs = (script : Script) → IsScript script → (trace : List Entry) → IsRun script trace → EpochsHold script trace

-- where a configuration has lost a region, each server that any configuration had as a ready member of it has halted
abbrev pub LosesReplicas : Script → List Entry → Type 0
LosesReplicas script trace =
    (of_lost of_listed : Epoch) (lost listed : Config) → config_of script of_lost trace ≡ Some lost → config_of script of_listed trace ≡ Some listed
    → (g : RegionId) → is_lost lost g ≡ true
    → (s : ServerId) → is_actor script (Server s) ≡ true → lists_ready listed g s ≡ true
    → (server_of script s trace).halted ≡ true

-- in every run a lost region has lost its replicas
abbrev pub RunsLoseReplicas : Type 0
RunsLoseReplicas = (script : Script) → IsScript script → (trace : List Entry) → IsRun script trace → LosesReplicas script trace
