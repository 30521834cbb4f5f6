-- What every run keeps of configurations, the coordinator, servers and the posts that speak of epochs.
use Rattle.hx_law_lemmas.proofs.Lemmas.Vocabulary.{Actor, Config, Coordinator, Epoch, false, is_lost, IsIn, joiner_for, List, lists_ready, Message, Post, refl}
use Rattle.hx_law_lemmas.proofs.Lemmas.Vocabulary.{RegionId, Replica, replica_of, Server, ServerId, ServerState, Session, Some, true, true≢false, ⊤, ◌≡◌, ◌≤◌}
use Rattle.hx_types.specs.declared.messages.Message.TheVariants as a_message
use Rattle.hx_types.specs.Posts.{is_server_actor}
use Rattle.hx_law_epochs.specs.Epochs.{order}
use Rattle.hx_law_epochs.specs.Senders.{IsOf}
use Rattle.hx_law_epochs.proofs.Growing.{GrownOut}
use Rattle.hx_law_epochs.proofs.Next.{IsOrderly}

-- the server's replica of the region is installed
pub record Installed (st : ServerState) (g : RegionId) : Type 0 where
  pub replica : Replica
  pub found : replica_of g st.replicas ≡ Some replica
  pub installed : replica.installed ≡ true

-- what is said of the server that an actor is: it is one
abbrev pub FromServer : Actor → (ServerId → Type 0) → Type 0
FromServer Coordinator P = ⊥
FromServer (Server s) P = P s
FromServer (Session u) P = ⊥

-- a snapshot goes from the last ready member of a region, installed there, to the next member, by the known configuration of its epoch
pub record SendsSnapshot (Known : Config → Type 0) (st : ServerState) (epoch : Epoch) (g : RegionId) (s to : ServerId) : Type 0 where
  pub config : Config
  pub known : Known config
  pub epoch_is : config.epoch ≡ epoch
  pub sender : joiner_for config g s ≡ Some to
  pub not_lost : is_lost config g ≡ false
  pub installed : Installed st g

-- a post between replicas is of no later epoch than its sender's, nor than the newest
abbrev pub NoLater : Config → ServerState → Epoch → Type 0
NoLater newest st epoch = (epoch.0 ≤ st.config.epoch.0) × (epoch.0 ≤ newest.epoch.0)

module _ (S : ServerId → ServerState) (known : Config → Type 0) where
  -- what a post says of epochs
  abbrev pub Says : Config → Actor → Actor → Message → Type 0
  Says newest from to a_message.Gone = FromServer from (λ s. (S s).halted ≡ true)
  Says newest from to (a_message.Install c) = known c
  Says newest from to (a_message.Ready epoch g) = FromServer from (λ s. NoLater newest (S s) epoch × Installed (S s) g)
  Says newest from to (a_message.Snap epoch g snapshot pending) =
      FromServer from (λ s. NoLater newest (S s) epoch × FromServer to (SendsSnapshot known (S s) epoch g s))
  Says newest from to (a_message.Update epoch g u) = FromServer from (λ s. NoLater newest (S s) epoch)
  Says newest from to (a_message.Ack epoch g by key version) = FromServer from (λ s. NoLater newest (S s) epoch)
  Says newest from to other = ⊤

  -- whoever is no server says of epochs which configurations are known
  pub others-say : (newest : Config) (a : Actor) → is_server_actor a ≡ false → (from to : Actor) (m : Message) → IsOf a m
      → ((c : Config) → m ≡ a_message.Install c → known c) → Says newest from to m
  others-say newest (Server s) n from to m h k = absurd (true≢false n)
  others-say newest other n from to (a_message.Install c) h k = k c refl
  others-say newest other n from to a_message.Gone h k = absurd h
  others-say newest other n from to (a_message.Ready epoch g) h k = absurd h
  others-say newest other n from to (a_message.Snap epoch g snapshot pending) h k = absurd h
  others-say newest other n from to (a_message.Update epoch g u) h k = absurd h
  others-say newest other n from to (a_message.Ack epoch g by key version) h k = absurd h
  others-say newest other n from to m h k = tt

-- what every run keeps of epochs: of the known configurations, of which each has grown out of those before, of the servers and of the posts
pub record EpochsKept (Real : ServerId → Type 0) (S : ServerId → ServerState) (known : Config → Type 0) (c : Config) (posts : List Post) : Type 0 where
  pub newest : known c
  pub last : (k : Config) → known k → k.epoch.0 ≤ c.epoch.0
  pub one : (k m : Config) → known k → known m → k.epoch ≡ m.epoch → k ≡ m
  pub orderly : (k : Config) → known k → IsOrderly k
  pub grown : (k n : Config) → known k → known n → k.epoch.0 ≤ n.epoch.0 → GrownOut k n
  pub own : (s : ServerId) → known (S s).config
  pub home : (g : RegionId) (s : ServerId) → Installed (S s) g → IsIn s (order (S s).config g)
  pub listed : (s : ServerId) → Real s → (S s).halted ≡ false → IsIn s c.servers
  pub ready : (k : Config) → known k → (g : RegionId) (s : ServerId) → lists_ready k g s ≡ true → Installed (S s) g
  pub real : (k : Config) → known k → (s : ServerId) → IsIn s k.servers → Real s
  pub says : (p : Post) → IsIn p posts → Says S known c p.from p.to p.message
