-- A slot that takes the pending updates of its key, and the slots of a snapshot that do so one after another.
use Rattle.hx_model.specs.Lines.{upto}
use Rattle.std.proofs.Common.{◌≡◌, ℕ, ◌+◌, ◌≤◌, Bool, true, false, nat_le, List, [], ◌∷◌, ◌++◌, length, map, take}
use Rattle.std.proofs.Common.{Some, refl, ap, sym, ◌∙◌, subst, arith, append_assoc, append-nil, zero, suc, cond}
use Rattle.std.specs.Prelude.{⊤}
use Rattle.std.specs.List.{All, AllByRecursion, find, flat_map, slice_get}
use Rattle.std.proofs.lemmas.Bool.{cond_both}
use Rattle.std.proofs.lemmas.Grind.{flat_map-append}
use Rattle.std.proofs.lemmas.List.Elements.{All-weaker, recursion_from_All}
use Rattle.hx_model.specs.Types.{Kept, Post, RegionId, Update, Version}
use Rattle.hx_types.specs.Subspaces.{is_key_region}
use Rattle.hx_types.specs.Words.{same_text}
use Rattle.hx_model.proofs.Lemmas.{base-moved_all, others_stay, moved_all-++}
use Rattle.hx_model.specs.ServerSteps.{Slots, SlotContext as ModelContext, accepting, tail_acks, join_keys, join_slot}
use Rattle.hx_model.specs.ServerSteps.{move_posts, offered_all, passed_on, resumed, state_from}
use Rattle.hx_model.specs.Slots.{Acknowledge, Commit, Forget, Hold, KeyState, Move, Take, follows, moved, moved_all}
use Rattle.hx_model.specs.Slots.{new_state, offered, pending_above, pending_of, settled, state_among, taken, top_above}
use Rattle.hx_model.specs.Slots.{top_of, turns, with_state}
use Rattle.hx_law_folds.specs.Folding.{Descends, IsLater, IsSlotOf, folded}
use Rattle.hx_law_folds.proofs.Lemmas.{bare-folded, bare-from, AllFit, all-filter, later-of, offered_all-fit, when_some_both, among-key, folded-among}
use Rattle.hx_law_folds.proofs.Lemmas.{folded-new, folded-with}
use Rattle.hx_store.specs.Stores.{acknowledging}
use Rattle.hx_law_folds.specs.Folding.{TextsAscend}
use Rattle.hx_replica.specs.Installing.{CanCome, IsFresh, joined_slots, joining, of_key, own_offer}
use Rattle.hx_replica.proofs.Asking.{state_marks}
use Rattle.hx_replica.proofs.Changing.{marks_stay, with_marked}
use Rattle.hx_replica.proofs.KeyOrder.{earlier_differ}
use Rattle.hx_replica.proofs.Offers.{no_end_posts, take_pending}
use Rattle.hx_replica.proofs.Turns.{take_next}

-- moves that take and hold alone
abbrev AreOffers : List Move → Type 0
AreOffers [] = ⊤
AreOffers (Take u ∷ ms) = AreOffers ms
AreOffers (Hold u ∷ ms) = AreOffers ms
AreOffers (Acknowledge v ∷ ms) = ⊥
AreOffers (Commit u ∷ ms) = ⊥
AreOffers (Forget ∷ ms) = ⊥

turns_offers : (g : RegionId) (n top : ℕ) (early : List Update) → AreOffers (turns g n top early)
turns_offers g zero top early = tt
turns_offers g (suc n) top early =
    when_some_both (find (follows g top) early) [] (λ (u : Update). Take u ∷ turns g n u.version.0 early) AreOffers
    (λ e. tt) (λ u e. turns_offers g n u.version.0 early)

one_offers : (g : RegionId) (s : KeyState) (u : Update) → AreOffers (offered g s u)
one_offers g s u =
    cond_both (nat_le u.version.0 (top_of s)) [] _ AreOffers (λ e. tt)
    (λ e. cond_both (follows g (top_of s) u) (Take u ∷ turns g (length s.early) u.version.0 s.early)
    (Hold u ∷ []) AreOffers (λ b. turns_offers g (length s.early) u.version.0 s.early) (λ b. tt))

offers_append : (ms ns : List Move) → AreOffers ms → AreOffers ns → AreOffers (ms ++ ns)
offers_append [] ns h k = k
offers_append (Take u ∷ ms) ns h k = offers_append ms ns h k
offers_append (Hold u ∷ ms) ns h k = offers_append ms ns h k
offers_append (Acknowledge v ∷ ms) ns h k = absurd h
offers_append (Commit u ∷ ms) ns h k = absurd h
offers_append (Forget ∷ ms) ns h k = absurd h

all_offers : (g : RegionId) (s : KeyState) (us : List Update) → AreOffers (offered_all g s us)
all_offers g s [] = tt
all_offers g s (u ∷ us) = offers_append (offered g s u) (offered_all g (moved_all (offered g s u) s) us)
    (one_offers g s u) (all_offers g (moved_all (offered g s u) s) us)

-- what such moves take is pending, and passed on
record AreTaken (context : ModelContext) (s : KeyState) (ms : List Move) : Type 0 where
  pending : pending_of (moved_all ms s) ≡ pending_of s ++ taken ms
  acked : (moved_all ms s).acked ≡ s.acked
  posts : flat_map (move_posts context) ms ≡ flat_map (passed_on context) (taken ms)

are_taken : (context : ModelContext) (g : RegionId) (ms : List Move) (s : KeyState) → AreOffers ms → AllFit g s ms → s.floor ≤ top_of s → AreTaken context s ms
are_taken context g [] s o f l = record { pending = sym (append-nil (pending_of s)); acked = refl; posts = refl }
are_taken context g (Take u ∷ ms) s o f l =
    let t = f.0 in
    let rest = are_taken context g ms (moved (Take u) s) o f.1 (omega (arith, l, t)) in
    record {
      pending = rest.pending ∙ ap (λ (us : List Update). us ++ taken ms) (take_pending u s (omega (arith, l, t)))
          ∙ append_assoc (pending_of s) (u ∷ []) (taken ms);
      acked = rest.acked;
      posts = ap (λ (ps : List Post). passed_on context u ++ ps) rest.posts;
    }
are_taken context g (Hold u ∷ ms) s o f l =
    let rest = are_taken context g ms (moved (Hold u) s) o f.1 l in record { pending = rest.pending; acked = rest.acked; posts = rest.posts }
are_taken context g (Acknowledge v ∷ ms) s o f l = absurd o
are_taken context g (Commit u ∷ ms) s o f l = absurd o
are_taken context g (Forget ∷ ms) s o f l = absurd o

-- a fresh slot
slot_fresh : (g : RegionId) (s : KeyState) → IsFresh g s → IsSlotOf g s
slot_fresh g s h = record {
  descends = subst (Descends s.base.floor.0) (sym h.accepted) tt;
  floor = ap (λ (us : List Update). top_above s.base.floor.0 (upto s.floor us)) h.accepted ∙ h.floor;
  early = subst (AllByRecursion (IsLater g)) (sym h.early) tt;
}

floor_fresh : (g : RegionId) (s : KeyState) → IsFresh g s → s.floor ≤ top_of s
floor_fresh g s h = let e : top_of s ≡ s.floor = ap (top_above s.base.floor.0) h.accepted ∙ h.floor in omega (arith, e)

forgets_nothing : (g : RegionId) (s : KeyState) → IsFresh g s → moved Forget s ≡ s
forgets_nothing g s h = λ j. record s { acked = sym h.acked j; early = sym h.early j }

from_fresh : (g : RegionId) (b : Bool) (k : Kept) → IsFresh g (state_from b k)
from_fresh g b k = record { accepted = refl; acked = refl; early = refl; floor = refl; bare = bare-folded g (state_from b k) (bare-from g b k) }

new_fresh : (g : RegionId) (b : Bool) (key : List ℕ) → IsFresh g (new_state b key)
new_fresh g b key = record { accepted = refl; acked = refl; early = refl; floor = refl; bare = folded-new g b key }

-- the slots of a snapshot
pub snapshot_fresh : (g : RegionId) (b : Bool) (snapshot : List Kept) → AllByRecursion (IsFresh g) (map (state_from b) snapshot)
snapshot_fresh g b [] = tt
snapshot_fresh g b (k ∷ rest) = (from_fresh g b k, snapshot_fresh g b rest)

all_folded : (g : RegionId) (states : List KeyState) → AllByRecursion (IsFresh g) states → states ≡ map (folded g) states
all_folded g [] h = refl
all_folded g (s ∷ rest) h = let e = sym h.0.bare in let more = all_folded g rest h.1 in λ j. e j ∷ more j

among_fresh : (g : RegionId) (b : Bool) (key : List ℕ) (states : List KeyState) → AllByRecursion (IsFresh g) states → IsFresh g (state_among b key states)
among_fresh g b key [] h = new_fresh g b key
among_fresh g b key (s ∷ rest) h =
    cond_both (same_text s.base.key key) s (state_among b key rest) (IsFresh g)
    (λ e. h.0)
    (λ e. among_fresh g b key rest h.1)

-- one update more
pub one_offer : (g : RegionId) (s after : KeyState) (u : Update) (us : List Update) → after ≡ moved_all (own_offer g s u) s
    → moved_all (offered_all g after (of_key after.base.key us)) after ≡ moved_all (offered_all g s (of_key s.base.key (u ∷ us))) s
one_offer g s after u us e =
    ap (λ (x : KeyState). moved_all (offered_all g x (of_key x.base.key us)) x) e ∙ by (same_text u.key s.base.key)
  where
    by : (t : Bool) → (λ (x : KeyState). moved_all (offered_all g x (of_key x.base.key us)) x)
        (moved_all (cond t (offered g s u) []) s) ≡ moved_all
        (offered_all g s (cond t (u ∷ of_key s.base.key us) (of_key s.base.key us))) s
    by true =
        let x : KeyState = moved_all (offered g s u) s in
        ap (λ (b : Kept). moved_all (offered_all g x (of_key b.key us)) x) (base-moved_all (offered g s u) s)
        ∙ sym (moved_all-++ (offered g s u) (offered_all g x (of_key s.base.key us)) s)
    by false = refl

-- acknowledgements and commits don't look at early updates
settled_any : (tail_versions : List Version) (s : KeyState) (early : List Update)
    → settled (moved_all (acknowledging tail_versions) (record s { early = early }))
    ≡ settled (moved_all (acknowledging tail_versions) s)
settled_any [] s early = refl
settled_any (v ∷ tail_versions) s early = settled_any tail_versions (moved (Acknowledge v.0) s) early

settled_same : (tail_versions : List Version) (s : KeyState) → s.acked ≡ []
    → settled (moved_all (acknowledging tail_versions) (moved Forget s)) ≡ settled (moved_all (acknowledging tail_versions) s)
settled_same tail_versions s none = settled_any tail_versions (record s { acked = [] }) []
    ∙ ap (λ (l : List ℕ). settled (moved_all (acknowledging tail_versions) (record s { acked = l }))) (sym none)

-- a slot that was offered the updates of its key
module _ (context : ModelContext) (us : List Update) (s x : KeyState) (fresh : IsFresh context.region s)
    (come : All (CanCome context.region) us) (is : x ≡ moved_all (offered_all context.region s (of_key s.base.key us)) s) where
  abbrev g : RegionId
  g = context.region

  abbrev ms : List Move
  ms = offered_all g s (of_key s.base.key us)

  abbrev marks : List Move
  marks = tail_acks context (taken ms)

  fit : AllFit g s ms
  fit =
      offered_all-fit g s (of_key s.base.key us) (slot_fresh g s fresh)
      (all-filter (IsLater g) (λ (u : Update). same_text u.key s.base.key) us
      (recursion_from_All (IsLater g) us (All-weaker (CanCome g) (IsLater g)
      (λ (u : Update) (c : CanCome g u). later-of g u c.after) us come)))

  took : AreTaken context s ms
  took = are_taken context g ms s (all_offers g s (of_key s.base.key us)) fit (floor_fresh g s fresh)

  pub none_acked : x.acked ≡ []
  none_acked = ap (λ (y : KeyState). y.acked) is ∙ took.acked ∙ fresh.acked

  pending_are : pending_of x ≡ taken ms
  pending_are = ap pending_of is ∙ took.pending ∙ ap (λ (l : List Update). l ++ taken ms) (ap (pending_above s.floor) fresh.accepted)

  marked : moved_all marks x ≡ moved_all (ms ++ marks) s
  marked = ap (moved_all marks) is ∙ sym (moved_all-++ ms marks s)

  -- its state afterwards
  pub joined_state : (tail_versions : List Version) (next : KeyState)
      → acknowledging tail_versions ≡ tail_acks context (pending_of x)
      → next ≡ folded g (moved_all (acknowledging tail_versions ++ settled (moved_all (acknowledging tail_versions) x)) x)
      → next ≡ folded g (moved_all (joining context us s) s)
  joined_state tail_versions next e n =
      n ∙ ap (λ (l : List Move). folded g (moved_all (l ++ settled (moved_all l x)) x)) (e ∙ ap (tail_acks context) pending_are)
      ∙ ap (folded g)
      (
      moved_all-++ marks (settled (moved_all marks x)) x
      ∙ ap (λ (y : KeyState). moved_all (settled y) y) marked
      ∙ sym (moved_all-++ (ms ++ marks) (settled (moved_all (ms ++ marks) s)) s)
      )

  -- and all that is posted of it
  pub joined_posts : (tail_versions : List Version) (old posts : List Post)
      → acknowledging tail_versions ≡ tail_acks context (pending_of x)
      → posts ≡ old ++ (flat_map (passed_on context) (pending_of x) ++ flat_map (move_posts context) (resumed context x))
      → posts ≡ old ++ flat_map (move_posts context) (joining context us s)
  joined_posts tail_versions old posts e p =
      let f : List Move → List Post = flat_map (move_posts context) in
      let them : List Move = tail_acks context (pending_of x) in
      let rest : List Move = settled (moved_all (ms ++ marks) s) in
      let settle : settled (moved_all them (moved Forget x)) ≡ rest =
      ap (λ (l : List Move). settled (moved_all l (moved Forget x))) (sym e) ∙ settled_same tail_versions x none_acked
      ∙ ap (λ (l : List Move). settled (moved_all l x)) (e ∙ ap (tail_acks context) pending_are) ∙ ap settled marked in
      let goes : f (resumed context x) ≡ f rest =
      flat_map-append (move_posts context) them (settled (moved_all them (moved Forget x)))
      ∙ ap (λ (ps : List Post). ps ++ f (settled (moved_all them (moved Forget x)))) (no_end_posts context (pending_of x)) ∙ ap f settle in
      let whole : f (joining context us s) ≡ flat_map (passed_on context) (taken ms) ++ f rest =
      flat_map-append (move_posts context) (ms ++ marks) rest
      ∙ ap (λ (ps : List Post). ps ++ f rest) (flat_map-append (move_posts context) ms marks
      ∙ ap (λ (ps : List Post). f ms ++ ps) (no_end_posts context (taken ms)) ∙ append-nil (f ms) ∙ took.posts) in
      p
      ∙ ap (λ (l : List Update). old ++ (flat_map (passed_on context) l ++ f (resumed context x))) pending_are
      ∙ ap (λ (ps : List Post). old ++ (flat_map (passed_on context) (taken ms) ++ ps)) goes
      ∙ ap (λ (ps : List Post). old ++ ps) (sym whole)

pub from_marked : (b : Bool) (snapshot : List Kept) → AllByRecursion (λ (t : KeyState). t.marks ≡ b) (map (state_from b) snapshot)
from_marked b [] = tt
from_marked b (k ∷ rest) = (refl, from_marked b rest)

-- the slots after those of some keys have taken their updates
pub record IsJoining (context : ModelContext) (us : List Update) (states : List KeyState) (ks : List (List ℕ))
    (old posts : List Post) (now : List KeyState) : Type 0 where
  pub states_are : now ≡ map (folded context.region) (joined_slots context us states ks).states
  pub posts_are : posts ≡ old ++ (joined_slots context us states ks).posts

pub none_joined : (context : ModelContext) (us : List Update) (states : List KeyState) (old : List Post)
    → AllByRecursion (IsFresh context.region) states → IsJoining context us states [] old old states
none_joined context us states old h = record { states_are = all_folded context.region states h; posts_are = sym (append-nil old) }

module _ (context : ModelContext) (us : List Update) where
  abbrev b : Bool
  b = is_key_region context.space context.region

  abbrev join_one : Slots → List ℕ → Slots
  join_one slots key = join_slot context (of_key key us) slots (state_among b key slots.states)

  join_more : (slots : Slots) (ks : List (List ℕ)) (k : List ℕ) → join_keys context us slots (ks ++ k ∷ []) ≡ join_one (join_keys context us slots ks) k
  join_more slots [] k = refl
  join_more slots (x ∷ ks) k = join_more (join_one slots x) ks k

  -- the slot of another key stays
  others : (ks : List (List ℕ)) (slots : Slots) (k : List ℕ)
      → AllByRecursion (λ (y : List ℕ). same_text y k ≡ false) ks
      → state_among b k (join_keys context us slots ks).states ≡ state_among b k slots.states
  others [] slots k h = refl
  others (y ∷ ks) slots k h =
      let s : KeyState = state_among b y slots.states in
      let moves : List Move = accepting context s (offered_all context.region s (of_key y us)) in
      others ks (join_one slots y) k h.1
      ∙ others_stay b (moved_all moves s) k slots.states
      (ap (λ (x : List ℕ). same_text x k) (ap (λ (base : Kept). base.key) (base-moved_all moves s)
      ∙ among-key b y slots.states) ∙ h.0)

  pub joined_marked : (ks : List (List ℕ)) (slots : Slots)
      → AllByRecursion (λ (t : KeyState). t.marks ≡ b) slots.states
      → AllByRecursion (λ (t : KeyState). t.marks ≡ b) (join_keys context us slots ks).states
  joined_marked [] slots h = h
  joined_marked (y ∷ ks) slots h =
      let s : KeyState = state_among b y slots.states in
      let moves : List Move = accepting context s (offered_all context.region s (of_key y us)) in
      joined_marked ks (join_one slots y) (with_marked b (moved_all moves s) slots.states (marks_stay moves s ∙ state_marks b y slots.states h) h)

  module _ (states : List KeyState) (ks : List (List ℕ)) (i : ℕ) (k : List ℕ) (old posts : List Post) (now : List KeyState) (marks : Bool) (slot : KeyState)
      (fresh : AllByRecursion (IsFresh context.region) states) (ascend : TextsAscend ks)
      (at : slice_get ks i ≡ Some k) (so : IsJoining context us states (take i ks) old posts now) (kind : marks ≡ b)
      (is : slot ≡ moved Forget (state_among marks k now)) where
    abbrev before : Slots
    before = joined_slots context us states (take i ks)

    abbrev x : KeyState
    x = state_among b k before.states

    same : x ≡ state_among b k states
    same = others (take i ks) (record { states = states; posts = [] }) k (earlier_differ ks i k ascend at)

    first_fresh : IsFresh context.region (state_among b k states)
    first_fresh = among_fresh context.region b k states fresh

    found : slot ≡ x
    found =
        is ∙ ap (λ (c : Bool). moved Forget (state_among c k now)) kind
        ∙ ap (λ (l : List KeyState). moved Forget (state_among b k l)) so.states_are
        ∙ ap (moved Forget) (folded-among context.region b k before.states ∙ ap (folded context.region) same ∙ first_fresh.bare)
        ∙ forgets_nothing context.region (state_among b k states) first_fresh
        ∙ sym same

    -- the slot of the key has nothing but its committed state
    pub is_fresh : IsFresh context.region slot
    is_fresh = subst (IsFresh context.region) (sym (found ∙ same)) first_fresh

    pub slot_marks : AllByRecursion (λ (t : KeyState). t.marks ≡ b) states → slot.marks ≡ b
    slot_marks h = ap (λ (t : KeyState). t.marks) (found ∙ same) ∙ state_marks b k states h

    abbrev moves : List Move
    moves = accepting context x (offered_all context.region x (of_key k us))

    moves_are : joining context us slot ≡ moves
    moves_are =
        ap (joining context us) found
        ∙ ap (λ (key : List ℕ). accepting context x (offered_all context.region x (of_key key us))) (among-key b k before.states)

    more : joined_slots context us states (take (i + 1) ks) ≡ join_one before k
    more = ap (joined_slots context us states) (take_next ks i k at) ∙ join_more (record { states = states; posts = [] }) (take i ks) k

    -- it has taken its updates
    pub join_next : (next : KeyState) (new : List KeyState) (after : List Post)
        → next ≡ folded context.region (moved_all (joining context us slot) slot) → new ≡ with_state next now
        → after ≡ posts ++ flat_map (move_posts context) (joining context us slot)
        → IsJoining context us states (take (i + 1) ks) old after new
    join_next next new after e n p =
        let done : KeyState = moved_all moves x in
        let next_is : next ≡ folded context.region done =
        e ∙ ap (λ (l : List Move). folded context.region (moved_all l slot)) moves_are
        ∙ ap (λ (s : KeyState). folded context.region (moved_all moves s)) found in
        record {
          states_are = n ∙ ap (λ (s : KeyState). with_state s now) next_is
              ∙ ap (with_state (folded context.region done)) so.states_are ∙ sym (folded-with context.region done before.states)
              ∙ ap (λ (t : Slots). map (folded context.region) t.states) (sym more);
          posts_are = p ∙ ap (λ (ps : List Post). ps ++ flat_map (move_posts context) (joining context us slot))
              so.posts_are ∙ append_assoc old before.posts (flat_map (move_posts context) (joining context us slot))
              ∙ ap (λ (l : List Move). old ++ (before.posts ++ flat_map (move_posts context) l)) moves_are
              ∙ ap (λ (t : Slots). old ++ t.posts) (sym more);
        }
