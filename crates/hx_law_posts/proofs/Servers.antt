-- Sound servers: their configuration is of the space, and so is all that their replicas hold; what a step of one slot does.
use Rattle.hx_law_lemmas.proofs.Lemmas.Vocabulary.{[], asking_last, at_slot, by_moves, by_posts, cond_both, context_of, Epoch, if_installed, inl, inr}
use Rattle.hx_law_lemmas.proofs.Lemmas.Vocabulary.{is_key_region, is_lost, IsIn, IsRegionOf, IsServerOf, IsSoundPost, IsSpace, KeyFits, KeyState, List, ltb}
use Rattle.hx_law_lemmas.proofs.Lemmas.Vocabulary.{meeting, Move, moved_all, None, Option, poll_post, Post, refl, RegionId, Replica, replica_for, replica_of}
use Rattle.hx_law_lemmas.proofs.Lemmas.Vocabulary.{saying, ServerId, ServerState, ServerStep, SlotStep, Some, Space, state_in, subst, sym, unmoved, Update}
use Rattle.hx_law_lemmas.proofs.Lemmas.Vocabulary.{with_replica, ℕ, ◌∷◌, ◌≡◌, ◌≤◌}
use Rattle.hx_law_lemmas.proofs.Lemmas.{each-append, each-one, each-provided, AllKnownInLine as AllKnown, in-with_replica}
use Rattle.hx_law_lemmas.proofs.Lemmas.{in-with_state, state-from, with_slot_at, Ascend, state_key}
use Rattle.hx_law_posts.proofs.Texts.{with_state-ascends}
use Rattle.hx_law_posts.proofs.Bounds.{IsSoundAt, IsSoundConfig, config-up}
use Rattle.hx_law_posts.proofs.Moves.{AllRise}
use Rattle.hx_law_posts.proofs.Slots.{IsSoundSlot, new-sound, slot-moved, slot-up, together, together-sound}
use Rattle.hx_law_posts.proofs.SlotPosts.{IsContext, moves-sound}

-- a replica after so many entries: a region of the space, with sound slots in byte order of their keys
pub record IsSoundReplica (space : Space) (sessions n : ℕ) (r : Replica) : Type 0 where
  pub region : IsRegionOf space r.region
  pub slots : (t : KeyState) → IsIn t r.states → IsSoundSlot space sessions n r.region t
  pub ascend : Ascend state_key r.states

-- a server after so many entries
pub record IsSoundServer (space : Space) (sessions n : ℕ) (s : ServerId) (st : ServerState) : Type 0 where
  pub id : st.id ≡ s
  pub config : IsSoundConfig space n st.config
  pub replicas : (r : Replica) → IsIn r st.replicas → IsSoundReplica space sessions n r

-- what held after fewer entries holds after more
pub replica-up : (space : Space) (sessions m n : ℕ) → m ≤ n → (r : Replica) → IsSoundReplica space sessions m r → IsSoundReplica space sessions n r
replica-up space sessions m n l r h = record { region = h.region; slots = λ t i. slot-up space sessions m n l r.region t (h.slots t i); ascend = h.ascend }

pub server-up : (space : Space) (sessions m n : ℕ) → m ≤ n → (s : ServerId) (st : ServerState)
    → IsSoundServer space sessions m s st → IsSoundServer space sessions n s st
server-up space sessions m n l s st h = record {
  id = h.id;
  config = config-up space sessions m n l st.config h.config;
  replicas = λ r i. replica-up space sessions m n l r (h.replicas r i);
}

-- a replica that takes messages is found
pub replica_for-found : (st : ServerState) (g : RegionId) (r : Replica) → replica_for st g ≡ Some r → replica_of g st.replicas ≡ Some r
replica_for-found st g r = cond_both (is_lost st.config g) None (replica_of g st.replicas)
    (λ o. o ≡ Some r → replica_of g st.replicas ≡ Some r) (λ t e. absurd (cc)) (λ t e. e)

-- an installed replica that takes messages is found
pub installed-found : (st : ServerState) (g : RegionId) (r : Replica) → if_installed (replica_for st g) ≡ Some r → replica_of g st.replicas ≡ Some r
installed-found st g r e = replica_for-found st g r (by (replica_for st g) e)
  where
    by : (o : Option Replica) → if_installed o ≡ Some r → o ≡ Some r
    by None = λ e. absurd (cc)
    by (Some x) = cond_both x.installed (Some x) None (λ o. o ≡ Some r → Some x ≡ Some r) (λ t e. e) (λ t e. absurd (cc))

-- the slot of a key at a replica
pub slot-sound : (space : Space) (sessions n : ℕ) (r : Replica) → IsSoundReplica space sessions n r → (key : List ℕ)
    → KeyFits key → IsSoundSlot space sessions n r.region (state_in space r key)
slot-sound space sessions n r h key fits = elim (state-from (is_key_region space r.region) key r.states) [
  | inl e ↦ subst (IsSoundSlot space sessions n r.region) (sym e) (new-sound space sessions n r.region (is_key_region space r.region) key fits)
  | inr i ↦ h.slots (state_in space r key) i
]

-- what a server's step relies on
pub record Relies (space : Space) (sessions n : ℕ) (s : ServerId) (st : ServerState) : Type 0 where
  pub valid : IsSpace space
  pub exists : IsServerOf space st.id
  pub sound : IsSoundServer space sessions n s st

-- what a server's step does: it leaves the server sound, and its posts are sound
pub record DoesWell (space : Space) (sessions n : ℕ) (s : ServerId) (step : ServerStep) : Type 0 where
  pub state : IsSoundServer space sessions n s step.state
  pub posts : (p : Post) → IsIn p step.posts → IsSoundPost space sessions n p

module _ (space : Space) (sessions n : ℕ) (s : ServerId) (st : ServerState) (relies : Relies space sessions n s st) where
  -- a step that does well
  abbrev pub IsGood : ServerStep → Type 0
  IsGood step = DoesWell space sessions n s step

  -- a post of the entry that is sound
  abbrev pub IsSound : Post → Type 0
  IsSound p = IsSoundPost space sessions n p

  -- the context of a slot at a replica
  pub here : (r : Replica) → IsIn r st.replicas → IsContext space n (context_of space st r.region)
  here r i = record { exists = relies.exists; config = relies.sound.config; region = (relies.sound.replicas r i).region }

  -- posts alone
  pub saying-good : (ps : List Post) → ((p : Post) → IsIn p ps → IsSound p) → IsGood (saying st ps)
  saying-good ps f = record { state = relies.sound; posts = f }

  -- nothing happens
  pub unmoved-good : IsGood (unmoved st)
  unmoved-good = saying-good [] (λ p i. absurd i)

  -- the newest configuration is asked for
  poll-sound : (p : Post) → IsIn p (poll_post st ∷ []) → IsSound p
  poll-sound = each-one IsSound (poll_post st) (record { from = relies.exists; to = tt; between = refl; message = relies.sound.config.epoch })

  -- a message of a higher epoch: it is asked for first
  pub meeting-good : (epoch : Epoch) (step : ServerStep) → IsGood step → IsGood (meeting st epoch step)
  meeting-good epoch step h = record {
    state = h.state;
    posts = each-append IsSound _ step.posts (each-provided IsSound (ltb st.config.epoch.0 epoch.0) (poll_post st ∷ []) poll-sound) h.posts;
  }

  -- where anything is posted, it is asked for last
  pub asking-sound : (ps : List Post) → ((p : Post) → IsIn p ps → IsSound p) → (p : Post) → IsIn p (asking_last st ps) → IsSound p
  asking-sound [] f = f
  asking-sound (x ∷ rest) f = each-append IsSound (x ∷ rest) (poll_post st ∷ []) f poll-sound

  -- replicas with one of them changed
  pub with_replica-sound : (x : Replica) → IsSoundReplica space sessions n x
      → IsSoundServer space sessions n s (record st { replicas = with_replica x st.replicas })
  with_replica-sound x h = record {
    id = relies.sound.id;
    config = relies.sound.config;
    replicas = λ r i. elim (in-with_replica x st.replicas r i) [
      | inl e ↦ subst (IsSoundReplica space sessions n) (sym e) h
      | inr j ↦ relies.sound.replicas r j
    ];
  }

  -- a step of one slot
  pub slot-good : (r : Replica) → IsIn r st.replicas → (t : KeyState) (step : SlotStep) → IsSoundSlot space sessions n r.region (moved_all step.moves t)
      → ((p : Post) → IsIn p step.posts → IsSound p) → IsGood (at_slot st r t step)
  slot-good r i t step h f = record {
    state = with_replica-sound (with_slot_at r (moved_all step.moves t)) (record {
      region = (relies.sound.replicas r i).region;
      slots = λ x j. elim (in-with_state (moved_all step.moves t) r.states x j) [
        | inl e ↦ subst (IsSoundSlot space sessions n r.region) (sym e) h
        | inr k ↦ (relies.sound.replicas r i).slots x k
      ];
      ascend = with_state-ascends (moved_all step.moves t) r.states (relies.sound.replicas r i).ascend;
    });
    posts = f;
  }

  -- moves of updates that may be held
  pub moves-good : (r : Replica) → IsIn r st.replicas → (us : List Update)
      → ((u : Update) → IsIn u us → IsSoundAt space sessions n r.region u) → (t : KeyState)
      → IsSoundSlot space sessions n r.region t
      → (ms : List Move) → AllKnown (together us t) ms → AllRise t ms → IsGood (at_slot st r t (by_moves (context_of space st r.region) ms))
  moves-good r i us f t h ms known rise =
      slot-good r i t (by_moves (context_of space st r.region) ms) (slot-moved space sessions n r.region us f t h ms known rise)
      (
      moves-sound space sessions n (context_of space st r.region) (here r i) (together us t)
      (λ u j. (together-sound space sessions n r.region us f t h u j).sound) ms known
      )

  -- posts of a slot alone
  pub posts-good : (r : Replica) → IsIn r st.replicas → (t : KeyState) → IsSoundSlot space sessions n r.region t
      → (ps : List Post) → ((p : Post) → IsIn p ps → IsSound p) → IsGood (at_slot st r t (by_posts ps))
  posts-good r i t h ps f = slot-good r i t (by_posts ps) h f
