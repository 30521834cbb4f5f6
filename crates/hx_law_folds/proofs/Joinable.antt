-- In every run each slot of a server can be sent to a joiner: each step keeps it so.
use Rattle.hx_law_folds.proofs.Vocabulary.{[], adopted_state, AllByRecursion, ap, base-moved_all, Bool, CanJoin, cond, cond_both, eq_of_same_text, false}
use Rattle.hx_law_folds.proofs.Vocabulary.{filter, first_config, Input, is_key_region, IsJoinable, Kept, kept_of, KeptsAscend, KeysDiffer, KeyState, List}
use Rattle.hx_law_folds.proofs.Vocabulary.{listed_regions, ltb, ltb-true, map, Message, MessageJoins, refl, RegionId, resumed, same_text, server_at_start}
use Rattle.hx_law_folds.proofs.Vocabulary.{server_step, ServerId, ServerState, SlotContext, snapshot_of, Space, state_from, subst, sym, text_below, true}
use Rattle.hx_law_folds.proofs.Vocabulary.{with_state, ℕ, ◌<◌, ◌∙◌, ◌∷◌, ◌≡◌}
use Rattle.hx_types.proofs.Lemmas.{same_text-symm, text_below-differs, text_below-other, text_below-trans}
use Rattle.hx_types.specs.declared.messages.Message.TheVariants as a_message
use Rattle.hx_law_folds.specs.Folding.{InputJoins, IsJoinableReplica, IsJoinableServer, KeysAscend}
use Rattle.hx_law_folds.proofs.Owning.{ack-joinable, adopted-joinable, call-joinable, join-joinable, joinable-from, joinable-new, joinable-sent}
use Rattle.hx_law_folds.proofs.Owning.{update-joinable}
use Rattle.hx_law_folds.proofs.Lists.{all-made, all-map, all-weaker}
use Rattle.hx_law_folds.proofs.Slots.{later-of}
use Rattle.hx_law_folds.proofs.States.{among-of, with-slots}
use Rattle.hx_law_folds.proofs.ServerWalk.{Brings, SlotsStay, step-stays}

-- slots stay in byte order of keys
pub with_state-ascends : (s : KeyState) (states : List KeyState) → KeysAscend states → KeysAscend (with_state s states)
with_state-ascends s [] h = (tt, tt)
with_state-ascends s (x ∷ rest) h =
    cond_both (same_text x.base.key s.base.key) (s ∷ rest) (cond (text_below s.base.key x.base.key) (s ∷ x ∷ rest) (x ∷ with_state s rest)) KeysAscend
    (λ e. (subst (λ (k : List ℕ). AllByRecursion (λ (t : KeyState). text_below k t.base.key ≡ true) rest) (eq_of_same_text x.base.key s.base.key e) h.0, h.1))
    (
    λ e. cond_both (text_below s.base.key x.base.key) (s ∷ x ∷ rest) (x ∷ with_state s rest) KeysAscend
    (λ b. (
      (
        b,
        all-weaker (λ (t : KeyState). text_below x.base.key t.base.key ≡ true)
            (λ (t : KeyState). text_below s.base.key t.base.key ≡ true)
            (λ t k. text_below-trans s.base.key x.base.key t.base.key b k) rest h.0,
      ),
      h,
    ))
    (λ b. (
      with-slots (λ (t : KeyState). text_below x.base.key t.base.key ≡ true) s rest
          (text_below-other s.base.key x.base.key (same_text-symm s.base.key x.base.key ∙ e) b) h.0,
      with_state-ascends s rest h.1,
    ))
    )

-- the same keys ascend
map-below : (f : KeyState → KeyState) → ((s : KeyState) → (f s).base.key ≡ s.base.key)
    → (key : List ℕ) (states : List KeyState) → AllByRecursion (λ (t : KeyState). text_below key t.base.key ≡ true) states
    → AllByRecursion (λ (t : KeyState). text_below key t.base.key ≡ true) (map f states)
map-below f k key [] h = tt
map-below f k key (s ∷ rest) h = (ap (text_below key) (k s) ∙ h.0, map-below f k key rest h.1)

map-ascends : (f : KeyState → KeyState) → ((s : KeyState) → (f s).base.key ≡ s.base.key) → (states : List KeyState)
    → KeysAscend states → KeysAscend (map f states)
map-ascends f k [] h = tt
map-ascends f k (s ∷ rest) h = (
  subst (λ (x : List ℕ). AllByRecursion (λ (t : KeyState). text_below x t.base.key ≡ true) (map f rest))
      (sym (k s)) (map-below f k s.base.key rest h.0),
  map-ascends f k rest h.1,
)

-- the slots of a snapshot
pub from-key : (b : Bool) (k : Kept) → (state_from b k).base.key ≡ k.key
from-key true k = refl
from-key false k = refl

from-below : (b : Bool) (key : List ℕ) (snapshot : List Kept)
    → AllByRecursion (λ (k : Kept). text_below key k.key ≡ true) snapshot
    → AllByRecursion (λ (t : KeyState). text_below key t.base.key ≡ true) (map (state_from b) snapshot)
from-below b key [] h = tt
from-below b key (k ∷ rest) h = (ap (text_below key) (from-key b k) ∙ h.0, from-below b key rest h.1)

from-ascends : (b : Bool) (snapshot : List Kept) → KeptsAscend snapshot → KeysAscend (map (state_from b) snapshot)
from-ascends b [] h = tt
from-ascends b (k ∷ rest) h = (
  subst (λ (x : List ℕ). AllByRecursion
      (λ (t : KeyState). text_below x t.base.key ≡ true) (map (state_from b) rest)) (sym (from-key b k))
      (from-below b k.key rest h.0),
  from-ascends b rest h.1,
)

-- slots that are joined
pub record AreJoinable (g : RegionId) (b : Bool) (states : List KeyState) : Type 0 where
  pub slots : AllByRecursion (IsJoinable g b) states
  pub ascend : KeysAscend states

-- where a configuration is adopted, the keys stay
adopted-key : (context : SlotContext) (active : Bool) (s : KeyState) → (adopted_state context active s).base.key ≡ s.base.key
adopted-key context true s = ap (λ (k : Kept). k.key) (base-moved_all (resumed context s) s)
adopted-key context false s = refl

module _ (space : Space) where
  abbrev CanJoinAt : RegionId → KeyState → Type 0
  CanJoinAt g s = IsJoinable g (is_key_region space g) s

  -- the slots of a server can be sent to a joiner after each step
  slots-stay : SlotsStay space (IsJoinableReplica space) (λ g. AreJoinable g (is_key_region space g)) CanJoinAt
      (λ snapshot. AllByRecursion (λ (k : Kept). 0 < k.floor.0) snapshot × KeptsAscend snapshot)
  slots-stay = record {
    shows = λ r k. record { slots = k.slots; ascend = k.ascend };
    makes = λ r k. record { slots = k.slots; ascend = k.ascend };
    none = λ g. record { slots = tt; ascend = tt };
    one = λ g key states k. among-of (CanJoinAt g) (is_key_region space g) key states (joinable-new g (is_key_region space g) key) k.slots;
    more = λ g t states i k. record { slots = with-slots (CanJoinAt g) t states i k.slots; ascend = with_state-ascends t states k.ascend };
    sent = λ g snapshot k. record {
      slots = all-map (λ (x : Kept). 0 < x.floor.0) (CanJoinAt g) (state_from (is_key_region space g)) (joinable-from g (is_key_region space g)) snapshot k.0;
      ascend = from-ascends (is_key_region space g) snapshot k.1;
    };
    calls = λ context s i q caller op. call-joinable context _ s i q caller op;
    updates = λ context s i u after k. update-joinable context _ s i u (later-of context.region u after) k;
    acks = λ context s i v. ack-joinable context _ s i v;
    joins = λ context s i us after k. join-joinable context _ s i us after k;
    adopts = λ context active states k. record {
      slots = all-map (CanJoinAt context.region) (CanJoinAt context.region) (adopted_state context active)
          (λ s i. adopted-joinable context _ s i active) states k.slots;
      ascend = map-ascends (adopted_state context active) (adopted-key context active) states k.ascend;
    };
  }

  -- what a message brings
  brings : (m : Message) → MessageJoins m → Brings (λ snapshot. AllByRecursion (λ (k : Kept). 0 < k.floor.0) snapshot × KeptsAscend snapshot) m
  brings (a_message.Update epoch g u) f = f
  brings (a_message.Snap epoch g snapshot pending) f = ((f.0, f.1), f.2)
  brings other f = tt

  pub joinable-stays : (s : ServerState) → IsJoinableServer space s → (input : Input) → InputJoins input
      → IsJoinableServer space (server_step space s input).state
  joinable-stays s h input f = step-stays slots-stay s h input (λ id from m e. brings m (subst InputJoins e f))

-- the slots of such a replica can be sent, and the snapshot that is sent is such that they stay so where it is taken in
pub can-join : (g : RegionId) (b : Bool) (states : List KeyState) → AllByRecursion (IsJoinable g b) states → AllByRecursion (CanJoin g b) states
can-join g b states h = all-weaker (IsJoinable g b) (CanJoin g b) (λ s k. joinable-sent g b s k) states h

pub keys-differ : (states : List KeyState) → KeysAscend states → KeysDiffer states
keys-differ [] h = tt
keys-differ (s ∷ rest) h = (
  all-weaker (λ (t : KeyState). text_below s.base.key t.base.key ≡ true)
      (λ (t : KeyState). same_text t.base.key s.base.key ≡ false)
      (λ t k. same_text-symm t.base.key s.base.key ∙ text_below-differs s.base.key t.base.key k) rest h.0,
  keys-differ rest h.1,
)

pub sent-floors : (g : RegionId) (states : List KeyState) → AllByRecursion (λ (k : Kept). 0 < k.floor.0) (snapshot_of g states)
sent-floors g [] = tt
sent-floors g (s ∷ rest) =
    cond_both (ltb 0 s.floor) (s ∷ filter (λ (x : KeyState). ltb 0 x.floor) rest)
    (filter (λ (x : KeyState). ltb 0 x.floor) rest)
    (λ (l : List KeyState). AllByRecursion (λ (k : Kept). 0 < k.floor.0) (map (kept_of g) l))
    (λ e. (ltb-true 0 s.floor e, sent-floors g rest))
    (λ e. sent-floors g rest)

sent-below : (g : RegionId) (key : List ℕ) (states : List KeyState)
    → AllByRecursion (λ (t : KeyState). text_below key t.base.key ≡ true) states
    → AllByRecursion (λ (k : Kept). text_below key k.key ≡ true) (snapshot_of g states)
sent-below g key [] h = tt
sent-below g key (s ∷ rest) h =
    cond_both (ltb 0 s.floor) (s ∷ filter (λ (x : KeyState). ltb 0 x.floor) rest)
    (filter (λ (x : KeyState). ltb 0 x.floor) rest)
    (λ (l : List KeyState). AllByRecursion (λ (k : Kept). text_below key k.key ≡ true) (map (kept_of g) l))
    (λ e. (h.0, sent-below g key rest h.1))
    (λ e. sent-below g key rest h.1)

pub sent-ascends : (g : RegionId) (states : List KeyState) → KeysAscend states → KeptsAscend (snapshot_of g states)
sent-ascends g [] h = tt
sent-ascends g (s ∷ rest) h =
    cond_both (ltb 0 s.floor) (s ∷ filter (λ (x : KeyState). ltb 0 x.floor) rest)
    (filter (λ (x : KeyState). ltb 0 x.floor) rest) (λ (l : List KeyState). KeptsAscend (map (kept_of g) l))
    (λ e. (sent-below g s.base.key rest h.0, sent-ascends g rest h.1))
    (λ e. sent-ascends g rest h.1)

-- at the start there are no slots
pub start-joinable : (space : Space) (s : ServerId) → IsJoinableServer space (server_at_start space s)
start-joinable space s = all-made (IsJoinableReplica space)
    (λ g. record { region = g; installed = true; states = [] }) (λ g. record { slots = tt; ascend = tt })
    (listed_regions (first_config space) s)
