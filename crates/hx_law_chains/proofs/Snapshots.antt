-- In every run the slots of each server can be sent to a joiner, and each snapshot posted carries such slots.
use Rattle.std.proofs.Common.{◌≡◌, ℕ, ◌+◌, ◌<◌, inl, inr, true, false, List, [], ◌∷◌, length, refl, sym, ap, subst}
use Rattle.std.specs.Prelude.{⊤}
use Rattle.std.specs.List.{AllByRecursion}
use Rattle.std.proofs.lemmas.Bool.{cond_both, eqb-true, true≢false}
use Rattle.hx_model.specs.Types.{Actor, Coordinator, Deliver, Entry, Halt, Input, Kept, Message, Post, RegionId, Script, Server, ServerId, Session, Space, Tick}
use Rattle.hx_model.specs.Types.{Update}
use Rattle.hx_types.specs.declared.messages.Message.TheVariants as a_message
use Rattle.hx_types.specs.Words.{IsIn, post, same_server, text_below}
use Rattle.hx_types.specs.Fitting.{IsScript}
use Rattle.hx_types.specs.Posts.{is_server_actor}
use Rattle.hx_types.specs.Subspaces.{is_key_region}
use Rattle.hx_model.specs.Holders.{snap_state}
use Rattle.hx_model.specs.Runs.{IsRun, MayTake, Output, server_after, server_of}
use Rattle.hx_model.specs.ServerSteps.{Replica, ServerState, server_step}
use Rattle.hx_model.specs.Slots.{Forget, KeyState, moved, pending_of_all, snapshot_of, state_among}
use Rattle.hx_law_lemmas.specs.Words.{posts_of}
use Rattle.hx_law_lemmas.proofs.Lemmas.{Ascend, arrived, in-append, state_key}
use Rattle.hx_law_posts.proofs.Lemmas.{posts_stay_sound}
use Rattle.hx_law_folds.specs.Folding.{CanBeSent, CanJoin, HasFloors, InputJoins, IsJoinableReplica, IsJoinableServer, IsSlotOf, KeysAscend, folded}
use Rattle.hx_law_folds.specs.Laws.{SendsJoin}
use Rattle.hx_law_folds.proofs.Lemmas.{all-weaker, among-marks, among-slot-turn, can-join, joinable-stays, keys-differ, sent, sent-ascends, sent-floors}
use Rattle.hx_law_folds.proofs.Lemmas.{sound-joins, start-joinable}
use Rattle.hx_law_epochs.specs.Senders.{IsOf}
use Rattle.hx_law_epochs.proofs.Lemmas.{OfServer, entry-posts, server-plain}
use Rattle.hx_law_chains.proofs.Entered.{made-by}

-- what holds of all holds of each
pub each-of : {A : Type 0} (P : A → Type 0) (xs : List A) (x : A) → AllByRecursion P xs → IsIn x xs → P x
each-of P [] x h i = absurd i
each-of P (y ∷ ys) x h (inl e) = subst P (sym e) h.0
each-of P (y ∷ ys) x h (inr i) = each-of P ys x h.1 i

-- a snapshot with its pending updates carries slots that can join
pub record Carries (space : Space) (g : RegionId) (snapshot : List Kept) (pending : List Update) : Type 0 where
  pub states : List KeyState
  pub sends : SendsJoin g (is_key_region space g) states
  pub snapshot_is : snapshot ≡ snapshot_of g states
  pub pending_is : pending ≡ pending_of_all states

-- a replica's slots can be sent
pub replica-sends : (space : Space) (r : Replica) → IsJoinableReplica space r → SendsJoin r.region (is_key_region space r.region) r.states
replica-sends space r h = record {
  slots = can-join r.region (is_key_region space r.region) r.states h.slots;
  differ = keys-differ r.states h.ascend;
  floors = sent-floors r.region r.states;
  ascend = sent-ascends r.region r.states h.ascend;
}

-- so its snapshot carries them
pub replica-carries : (space : Space) (r : Replica) → IsJoinableReplica space r
    → Carries space r.region (snapshot_of r.region r.states) (pending_of_all r.states)
replica-carries space r h = record { states = r.states; sends = replica-sends space r h; snapshot_is = refl; pending_is = refl }

-- keys that ascend do so in each other's sight
pub keys-ascend : (states : List KeyState) → KeysAscend states → Ascend state_key states
keys-ascend [] h = tt
keys-ascend (s ∷ rest) h = ((λ y i. each-of (λ (t : KeyState). text_below s.base.key t.base.key ≡ true) rest y h.0 i), keys-ascend rest h.1)

-- the slots of a replica of such a server stand in order
pub replica-ascends : (space : Space) (st : ServerState) → IsJoinableServer space st → (r : Replica) → IsIn r st.replicas → Ascend state_key r.states
replica-ascends space st h r i = keys-ascend r.states (each-of (IsJoinableReplica space) st.replicas r h i).ascend

-- ---- the sender

-- what a snapshot carries of a key is its sender's slot without its past, with nothing acknowledged and nothing early
pub record SentSlot (space : Space) (g : RegionId) (states : List KeyState) (key : List ℕ) : Type 0 where
  pub state : snap_state space g key (snapshot_of g states) (pending_of_all states) ≡ moved Forget (folded g (state_among (is_key_region space g) key states))
  pub slot : IsSlotOf g (state_among (is_key_region space g) key states)
  pub marks : (state_among (is_key_region space g) key states).marks ≡ is_key_region space g

-- so of slots that can join
pub sent-slot : (space : Space) (g : RegionId) (states : List KeyState) → SendsJoin g (is_key_region space g) states → (key : List ℕ)
    → SentSlot space g states key
sent-slot space g states h key =
    let can = all-weaker (CanJoin g (is_key_region space g)) (CanBeSent g (is_key_region space g)) (λ s k. k.sent) states h.slots in
    record {
      state = sent space g key states can h.differ;
      slot = (among-slot-turn g (is_key_region space g) key states h.slots).0;
      marks = among-marks g (is_key_region space g) key states can;
    }

-- and of a replica of a server
pub replica-sent : (space : Space) (st : ServerState) → IsJoinableServer space st → (r : Replica) → IsIn r st.replicas → (key : List ℕ)
    → SentSlot space r.region r.states key
replica-sent space st h r i key = sent-slot space r.region r.states (replica-sends space r (each-of (IsJoinableReplica space) st.replicas r h i)) key

-- ---- all runs

-- a post's snapshot carries such slots
abbrev pub Sends : Space → Message → Type 0
Sends space (a_message.Snap epoch g snapshot pending) = Carries space g snapshot pending
Sends space other = ⊤

-- what every run keeps
pub record SnapshotsKept (script : Script) (t : List Entry) : Type 0 where
  pub joinable : (s : ServerId) → IsJoinableServer script.space (server_of script s t)
  pub carried : (p : Post) → IsIn p (posts_of t) → Sends script.space p.message

-- servers post no other snapshots
server-sends : (space : Space) (m : Message) → OfServer (Carries space) m → Sends space m
server-sends space (a_message.Snap epoch g snapshot pending) h = h
server-sends space other h = tt

-- what is carried has no floor of 0
sends-floors : (space : Space) (m : Message) → Sends space m → HasFloors m
sends-floors space (a_message.Snap epoch g snapshot pending) h = subst (λ (ks : List Kept). AllByRecursion (λ (k : Kept). 0 < k.floor.0) ks)
    (sym h.snapshot_is) h.sends.floors
sends-floors space other h = tt

-- and whoever is no server posts none
others-send : (space : Space) (a : Actor) → is_server_actor a ≡ false → (m : Message) → IsOf a m → Sends space m
others-send space (Server s) n m h = absurd (true≢false n)
others-send space other n (a_message.Snap epoch g snapshot pending) h = absurd h
others-send space other n m h = tt

module _ (script : Script) (valid : IsScript script) (older : List Entry) (x : Entry) (run : IsRun script (x ∷ older)) (had : SnapshotsKept script older) where
  -- what a server takes keeps its slots so
  joins : (i : ServerId) (input : Input) → MayTake older (Server i) input → InputJoins input
  joins i Tick may = tt
  joins i Halt may = tt
  joins i (Deliver id from m) may =
      sound-joins (record { space = script.space; sessions = length script.sessions; most = id.entry + 1 }) m
      (posts_stay_sound script valid older run.1 id (post from (Server i) m) may).message
      (sends-floors script.space m (had.carried (post from (Server i) m) (arrived id older (post from (Server i) m) may)))

  -- a server's own entry
  own-joins : (i : ServerId) → x.actor ≡ Server i → IsJoinableServer script.space (server_step script.space (server_of script i older) x.input).state
  own-joins i acts = joinable-stays script.space (server_of script i older) (had.joinable i) x.input
      (joins i x.input (subst (λ (a : Actor). MayTake older a x.input) acts run.0.input))

  -- each server after the entry
  joinable-after : (s : ServerId) → IsJoinableServer script.space (server_of script s (x ∷ older))
  joinable-after s = by x.actor refl
    where
      by : (a : Actor) → x.actor ≡ a → IsJoinableServer script.space (server_of script s (x ∷ older))
      by Coordinator e = subst (λ (a : Actor). IsJoinableServer script.space (server_after script.space s a x.input (server_of script s older))) (sym e)
          (had.joinable s)
      by (Session u) e = subst (λ (a : Actor). IsJoinableServer script.space (server_after script.space s a x.input (server_of script s older))) (sym e)
          (had.joinable s)
      by (Server i) e = subst (λ (a : Actor). IsJoinableServer script.space (server_after script.space s a x.input (server_of script s older))) (sym e)
          (cond_both (same_server i s) (server_step script.space (server_of script s older) x.input).state (server_of script s older)
          (IsJoinableServer script.space)
          (λ t. let q = eqb-true i.0 s.0 t in let same : i ≡ s = λ j. record { 0 = q j } in
          subst (λ (y : ServerId). IsJoinableServer script.space (server_step script.space (server_of script y older) x.input).state) same (own-joins i e))
          (λ t. had.joinable s))

  -- what the entry posts
  sends-now : (p : Post) → IsIn p x.outputs → Sends script.space p.message
  sends-now p i = by x.actor refl
    where
      by : (a : Actor) → x.actor ≡ a → Sends script.space p.message
      by (Server j) e =
          server-sends script.space p.message
          ((server-plain (Carries script.space) script.space (server_of script j older) x.input
          (λ r k. replica-carries script.space r (each-of (IsJoinableReplica script.space) (server_of script j older).replicas r (had.joinable j) k))
          (λ g. replica-carries script.space (record { region = g; installed = false; states = [] }) (record { slots = tt; ascend = tt }))).posts p
          (subst (λ (ps : List Post). IsIn p ps) (sym (ap (λ (m : Output). m.posts) (made-by script x older run (Server j) e))) i))
      by other e = others-send script.space other refl p.message (entry-posts script older x run.0 other e p i)

  -- an entry keeps it
  snapshots-after : SnapshotsKept script (x ∷ older)
  snapshots-after = record {
    joinable = joinable-after;
    carried = λ p i. elim (in-append x.outputs (posts_of older) p i) [ inl j ↦ sends-now p j | inr j ↦ had.carried p j ];
  }

-- every run
pub snapshots-kept : (script : Script) → IsScript script → (t : List Entry) → IsRun script t → SnapshotsKept script t
snapshots-kept script valid [] run = record { joinable = λ s. start-joinable script.space s; carried = λ p i. absurd i }
snapshots-kept script valid (x ∷ older) run = snapshots-after script valid older x run (snapshots-kept script valid older run.1)
