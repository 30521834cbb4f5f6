-- The slots of a joiner that installed a snapshot with its pending updates: each is the sender's without its past, as it goes on in the joiner's place.
use Rattle.hx_law_folds.proofs.Vocabulary.{[], accepting, AllByRecursion, ap, base-moved_all, Bool, CanBeSent, CanJoin, cond, cond-false, cond-true, cond_both}
use Rattle.hx_law_folds.proofs.Vocabulary.{eq_of_same_text, false, filter, folded, installed_slots, InTurn, is_key_region, IsSlotOf, join_keys, join_slot}
use Rattle.hx_law_folds.proofs.Vocabulary.{joining, Kept, kept_among, kept_of, keys_of, KeysDiffer, KeyState, List, list_any, map, moved_all, new_state}
use Rattle.hx_law_folds.proofs.Vocabulary.{no_kept, offered_all, over, pending_of, pending_of_all, refl, RegionId, resumed, same_text}
use Rattle.hx_law_folds.proofs.Vocabulary.{SlotContext, Slots, snapshot_of, state_among, state_from, subst, sym, text_below, true, Update, ℕ, ⊤, ◌∙◌, ◌∷◌, ◌≡◌}
use Rattle.std.proofs.Common.{◌||◌}
use Rattle.hx_types.proofs.Lemmas.{same_text-symm, text_below-differs, text_below-other, text_below-trans}
use Rattle.hx_model.proofs.Lemmas.{found_same, others_stay}
use Rattle.hx_model.specs.ServerSteps.{with_key}
use Rattle.hx_law_folds.specs.Folding.{TextsAscend}
use Rattle.hx_law_folds.proofs.Joining.{joining-state}
use Rattle.hx_law_folds.proofs.Lists.{all-weaker}
use Rattle.hx_law_folds.proofs.Slots.{slot-new}
use Rattle.hx_law_folds.proofs.Snapshots.{among-marks, kept-sent, pending-sent}
use Rattle.hx_law_folds.proofs.States.{among-key}

all-with_key : (P : List ℕ → Type 0) (key : List ℕ) (ks : List (List ℕ)) → P key → AllByRecursion P ks → AllByRecursion P (with_key key ks)
all-with_key P key [] p h = (p, tt)
all-with_key P key (x ∷ rest) p h =
    cond_both (same_text key x) (x ∷ rest) (cond (text_below key x) (key ∷ x ∷ rest) (x ∷ with_key key rest)) (AllByRecursion P)
    (λ e. h)
    (λ e. cond_both (text_below key x) (key ∷ x ∷ rest) (x ∷ with_key key rest) (AllByRecursion P) (λ b. (p, h)) (λ b. (h.0, all-with_key P key rest p h.1)))

with_key-ascends : (key : List ℕ) (ks : List (List ℕ)) → TextsAscend ks → TextsAscend (with_key key ks)
with_key-ascends key [] h = (tt, tt)
with_key-ascends key (x ∷ rest) h =
    cond_both (same_text key x) (x ∷ rest) (cond (text_below key x) (key ∷ x ∷ rest) (x ∷ with_key key rest)) TextsAscend
    (λ e. h)
    (
    λ e. cond_both (text_below key x) (key ∷ x ∷ rest) (x ∷ with_key key rest) TextsAscend
    (λ b. ((b, all-weaker (λ (y : List ℕ). text_below x y ≡ true) (λ (y : List ℕ). text_below key y ≡ true) (λ y k. text_below-trans key x y b k) rest h.0), h))
    (λ b. (all-with_key (λ (y : List ℕ). text_below x y ≡ true) key rest (text_below-other key x e b) h.0, with_key-ascends key rest h.1))
    )

pub keys-ascend : (us : List Update) → TextsAscend (keys_of us)
keys-ascend [] = tt
keys-ascend (u ∷ us) = with_key-ascends u.key (keys_of us) (keys-ascend us)

-- each key once
abbrev pub Once : List (List ℕ) → Type 0
Once [] = ⊤
Once (x ∷ rest) = AllByRecursion (λ (y : List ℕ). same_text y x ≡ false) rest × Once rest

pub ascend-once : (ks : List (List ℕ)) → TextsAscend ks → Once ks
ascend-once [] h = tt
ascend-once (x ∷ rest) h = (
  all-weaker (λ (y : List ℕ). text_below x y ≡ true) (λ (y : List ℕ). same_text y x ≡ false)
      (λ y k. same_text-symm y x ∙ text_below-differs x y k) rest h.0,
  ascend-once rest h.1,
)

abbrev has_key : List ℕ → List (List ℕ) → Bool
has_key k ks = list_any (λ (y : List ℕ). same_text y k) ks

or-false : (a b : Bool) → a || b ≡ false → (a ≡ false) × (b ≡ false)
or-false true b e = absurd (cc)
or-false false b e = (refl, e)

without_key : (k key : List ℕ) (ks : List (List ℕ)) → has_key k (with_key key ks) ≡ false → (same_text key k ≡ false) × (has_key k ks ≡ false)
without_key k key [] = λ e. ((or-false (same_text key k) false e).0, refl)
without_key k key (x ∷ rest) =
    cond_both (same_text key x) (x ∷ rest) (cond (text_below key x) (key ∷ x ∷ rest) (x ∷ with_key key rest))
    (λ (l : List (List ℕ)). has_key k l ≡ false → (same_text key k ≡ false) × (has_key k (x ∷ rest) ≡ false))
    (λ s e. (ap (λ (y : List ℕ). same_text y k) (eq_of_same_text key x s) ∙ (or-false (same_text x k) (has_key k rest) e).0, e))
    (
    λ s. cond_both (text_below key x) (key ∷ x ∷ rest) (x ∷ with_key key rest)
    (λ (l : List (List ℕ)). has_key k l ≡ false → (same_text key k ≡ false) × (has_key k (x ∷ rest) ≡ false))
    (λ b e. or-false (same_text key k) (has_key k (x ∷ rest)) e)
    (
    λ b e. let p = or-false (same_text x k) (has_key k (with_key key rest)) e in
    let q = without_key k key rest p.1 in
    (q.0, ap (λ (y : Bool). y || has_key k rest) p.0 ∙ q.1)
    )
    )

none-of : (k : List ℕ) (us : List Update) → has_key k (keys_of us) ≡ false → filter (λ (u : Update). same_text u.key k) us ≡ []
none-of k [] e = refl
none-of k (u ∷ us) e = let p = without_key k u.key (keys_of us) e in cond-false (same_text u.key k) _ _ p.0 ∙ none-of k us p.1

-- the slot of a key after the joins of all keys
module _ (context : SlotContext) (us : List Update) (k : List ℕ) where
  abbrev pub at_key : Bool
  at_key = is_key_region context.space context.region

  abbrev pub some : List ℕ → List Update
  some key = filter (λ (u : Update). same_text u.key key) us

  abbrev pub joined_by : List ℕ → KeyState → KeyState
  joined_by key s = moved_all (accepting context s (offered_all context.region s (some key))) s

  abbrev pub after_join : Slots → List ℕ → Slots
  after_join slots key = join_slot context (some key) slots (state_among at_key key slots.states)

  key-after : (slots : Slots) (key : List ℕ) → (joined_by key (state_among at_key key slots.states)).base.key ≡ key
  key-after slots key = ap (λ (b : Kept). b.key) (base-moved_all
      (accepting context (state_among at_key key slots.states)
      (offered_all context.region (state_among at_key key slots.states) (some key)))
      (state_among at_key key slots.states)) ∙ among-key at_key key slots.states

  pub other : (slots : Slots) (key : List ℕ) → same_text key k ≡ false → state_among at_key k (after_join slots key).states ≡ state_among at_key k slots.states
  other slots key e = others_stay at_key (joined_by key (state_among at_key key slots.states)) k slots.states
      (ap (λ (x : List ℕ). same_text x k) (key-after slots key) ∙ e)

  here : (slots : Slots) (key : List ℕ) → same_text key k ≡ true
      → state_among at_key k (after_join slots key).states ≡ joined_by k (state_among at_key k slots.states)
  here slots key e =
      let q = eq_of_same_text key k e in
      ap (λ (x : List ℕ). state_among at_key x (after_join slots key).states) (sym q ∙ sym (key-after slots key))
      ∙ found_same at_key (joined_by key (state_among at_key key slots.states)) slots.states
      ∙ ap (λ (x : List ℕ). joined_by x (state_among at_key x slots.states)) q

  others : (ks : List (List ℕ)) (slots : Slots) → AllByRecursion (λ (y : List ℕ). same_text y k ≡ false) ks
      → state_among at_key k (join_keys context us slots ks).states ≡ state_among at_key k slots.states
  others [] slots h = refl
  others (y ∷ ks) slots h = others ks (after_join slots y) h.1 ∙ other slots y h.0

  pub joined-at : (ks : List (List ℕ)) (slots : Slots) → Once ks
      → state_among at_key k (join_keys context us slots ks).states
      ≡ cond (has_key k ks) (joined_by k (state_among at_key k slots.states)) (state_among at_key k slots.states)
  joined-at [] slots h = refl
  joined-at (y ∷ ks) slots h =
      by (same_text y k) refl (joined-at ks (after_join slots y) h.1)
    where
      by : (b : Bool) → same_text y k ≡ b
          → state_among at_key k (join_keys context us (after_join slots y) ks).states
          ≡ cond (has_key k ks) (joined_by k (state_among at_key k (after_join slots y).states))
          (state_among at_key k (after_join slots y).states)
          → state_among at_key k (join_keys context us (after_join slots y) ks).states
          ≡ cond (b || has_key k ks) (joined_by k (state_among at_key k slots.states)) (state_among at_key k slots.states)
      by true e rest = others ks (after_join slots y)
          (subst (λ (x : List ℕ). AllByRecursion (λ (z : List ℕ). same_text z x ≡ false) ks)
          (eq_of_same_text y k e) h.0) ∙ here slots y e
      by false e rest = rest ∙ ap (λ (s : KeyState). cond (has_key k ks) (joined_by k s) s) (other slots y e)

-- the slots of a snapshot before the joins
pub from-kept : (at_key : Bool) (key : List ℕ) (snapshot : List Kept)
    → state_among at_key key (map (state_from at_key) snapshot) ≡ state_from at_key (kept_among key snapshot)
from-kept at_key key [] = new at_key
  where
    new : (b : Bool) → new_state b key ≡ state_from b (no_kept key)
    new true = refl
    new false = refl
from-kept at_key key (kept ∷ rest) =
    cond_both (same_text kept.key key) kept (kept_among key rest)
    (λ (x : Kept). state_among at_key key (map (state_from at_key) (kept ∷ rest)) ≡ state_from at_key x)
    (λ e. cond-true (same_text (state_from at_key kept).base.key key) _ _ (key_is at_key ∙ e))
    (λ e. cond-false (same_text (state_from at_key kept).base.key key) _ _ (key_is at_key ∙ e) ∙ from-kept at_key key rest)
  where
    key_is : (b : Bool) → same_text (state_from b kept).base.key key ≡ same_text kept.key key
    key_is true = refl
    key_is false = refl

pub among-slot-turn : (g : RegionId) (b : Bool) (key : List ℕ) (states : List KeyState) → AllByRecursion (CanJoin g b) states
    → IsSlotOf g (state_among b key states) × InTurn g (state_among b key states).base.floor.0 (state_among b key states).accepted
among-slot-turn g b key [] h = (slot-new g b key, tt)
among-slot-turn g b key (s ∷ rest) h =
    cond_both (same_text s.base.key key) s (state_among b key rest) (λ (x : KeyState). IsSlotOf g x × InTurn g x.base.floor.0 x.accepted)
    (λ e. (h.0.slot, h.0.turns))
    (λ e. among-slot-turn g b key rest h.1)

-- what a joiner's slots are
pub installed : (context : SlotContext) (states : List KeyState)
    → AllByRecursion (CanJoin context.region (is_key_region context.space context.region)) states → KeysDiffer states
    → (key : List ℕ)
    → state_among (is_key_region context.space context.region) key (installed_slots context (snapshot_of context.region states) (pending_of_all states)).states
    ≡ moved_all (resumed context (folded context.region
    (state_among (is_key_region context.space context.region) key states)))
    (folded context.region (state_among (is_key_region context.space context.region) key states))
installed context states h d key =
    let g = context.region in
    let b = is_key_region context.space context.region in
    let us = pending_of_all states in
    let x = state_among b key states in
    let sent = all-weaker (CanJoin g b) (CanBeSent g b) (λ s k. k.sent) states h in
    let slots : Slots = record { states = map (state_from b) (snapshot_of g states); posts = [] } in
    let first : state_among b key slots.states ≡ over g x =
    from-kept b key (snapshot_of g states) ∙ ap (state_from b) (kept-sent g b key states sent d)
    ∙ ap (λ (c : Bool). state_from c (kept_of g x)) (sym (among-marks g b key states sent)) in
    let pending = pending-sent g b key states sent d in
    let goes = joining-state context x (among-slot-turn g b key states h).0 (among-slot-turn g b key states h).1 in
    joined-at context us key (keys_of us) slots (ascend-once (keys_of us) (keys-ascend us))
    ∙ ap (λ (s : KeyState). cond (has_key key (keys_of us)) (joined_by context us key key s) s) first
    ∙ ap (λ (l : List Update). cond (has_key key (keys_of us))
    (moved_all (accepting context (over g x) (offered_all g (over g x) l)) (over g x)) (over g x)) pending
    ∙ by (has_key key (keys_of us)) refl x (λ e. sym pending ∙ none-of key us e) goes
  where
    by : (c : Bool) → has_key key (keys_of (pending_of_all states)) ≡ c → (x : KeyState)
        → (has_key key (keys_of (pending_of_all states)) ≡ false → pending_of x ≡ [])
        → moved_all (joining context x) (over context.region x) ≡ moved_all (resumed context (folded context.region x)) (folded context.region x)
        → cond c (moved_all (joining context x) (over context.region x)) (over context.region x)
        ≡ moved_all (resumed context (folded context.region x)) (folded context.region x)
    by true e x none goes = goes
    by false e x none goes = sym (ap (λ (l : List Update). moved_all
        (accepting context (over context.region x) (offered_all context.region (over context.region x) l))
        (over context.region x)) (none e)) ∙ goes
