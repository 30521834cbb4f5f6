-- What a store keeps where a slot is set at its place, listed or added.
use Rattle.std.proofs.Common.{◌≡◌, ℕ, zero, suc, ◌+◌, ◌<◌, ◌≤◌, Bool, true, false, ◌||◌, List, [], ◌∷◌, ◌++◌, length}
use Rattle.std.proofs.Common.{insert, inl, inr, Option, Some, refl, ap, sym, ◌∙◌, subst, arith, cond, eqb}
use Rattle.std.specs.List.{AllByRecursion, list_any, slice_get}
use Rattle.std.proofs.lemmas.Bool.{cases_eq, cond_both, eq-eqb, false≢true, false_from_ne_true, ne_eqb, or_left, or_right}
use Rattle.std.proofs.lemmas.Option.{same_Some}
use Rattle.std.proofs.lemmas.List.Edits.{length-insert}
use Rattle.indexmap.specs.IndexMap.{set_value_at}
use Rattle.hx_model.specs.Types.{RegionId}
use Rattle.hx_types.specs.Words.{same_text, when_some}
use Rattle.hx_law_folds.specs.Folding.{KeysAscend}
use Rattle.hx_law_folds.proofs.Lemmas.{with_state-ascends}
use Rattle.hx_model.specs.Slots.{KeyState, new_state, state_among, with_state}
use Rattle.hx_store.specs.Slots.{StoreSlot, Entry}
use Rattle.hx_store.specs.Invariant.{IsSplit, IsStore, IsStoreSlot, KeysApart, is_listed, is_place, listed_count, room_of, rooms_in, state_in, states_in}
use Rattle.hx_store.specs.Stores.{KeepsRooms, Room, UsesRoom}
use Rattle.hx_store.proofs.Lists.{all-among, all-at, at-front, set-elsewhere, set-here, set-length}
use Rattle.hx_store.proofs.Order.{found-place, inserted, listed-there, replaced}

abbrev in_state : Option Entry → KeyState
in_state o = when_some o (new_state false []) (λ (x : Entry). x.1.slot.state)

abbrev in_listed : Option Entry → Bool
in_listed o = when_some o false (λ (x : Entry). x.1.listed)

-- the places are those of listed slots
pub are-there : {g : RegionId} {marks : Bool} {es : List Entry} {order : List ℕ} {cap : ℕ}
    → IsStore g marks es order cap → AllByRecursion (λ j. is_listed es j ≡ true) order
are-there {es = es} {order = order} h = all-among (λ j. is_listed es j ≡ true) order (λ i t. sym (h.listed i) ∙ t)

-- entries with one that is set
set-all : (P : Entry → Type 0) (es : List Entry) (i : ℕ) (e : Entry) (w : StoreSlot) → AllByRecursion P es
    → slice_get es i ≡ Some e → P (e.0, w) → AllByRecursion P (set_value_at es i w)
set-all P [] i e w h at p = tt
set-all P (x ∷ es) zero e w h at p = (subst (λ (y : Entry). P (y.0, w)) (sym (same_Some x e at)) p, h.1)
set-all P (x ∷ es) (suc i) e w h at p = (h.0, set-all P es i e w h.1 at p)

set-keys : (Q : List ℕ → Type 0) (es : List Entry) (i : ℕ) (w : StoreSlot) → AllByRecursion (λ (f : Entry). Q f.0) es
    → AllByRecursion (λ (f : Entry). Q f.0) (set_value_at es i w)
set-keys Q [] i w h = tt
set-keys Q (x ∷ es) zero w h = h
set-keys Q (x ∷ es) (suc i) w h = (h.0, set-keys Q es i w h.1)

set-apart : (es : List Entry) (i : ℕ) (w : StoreSlot) → KeysApart es → KeysApart (set_value_at es i w)
set-apart [] i w h = tt
set-apart (x ∷ es) zero w h = h
set-apart (x ∷ es) (suc i) w h = (set-keys (λ (k : List ℕ). same_text x.0 k ≡ false) es i w h.0, set-apart es i w h.1)

abbrev one_of : Bool → ℕ
one_of b = cond b 1 0

set-count : (es : List Entry) (i : ℕ) (e : Entry) (w : StoreSlot) → slice_get es i ≡ Some e
    → listed_count (set_value_at es i w) + one_of e.1.listed ≡ listed_count es + one_of w.listed
set-count [] i e w at = absurd cc
set-count (x ∷ es) zero e w at =
    let is : one_of x.1.listed ≡ one_of e.1.listed = ap (λ (o : Option Entry). one_of (in_listed o)) at in omega (arith, is)
set-count (x ∷ es) (suc i) e w at = let more = set-count es i e w at in omega (arith, more)

-- fewer are listed than there are, where one isn't
pub count-most : (es : List Entry) → listed_count es ≤ length es
count-most [] = omega arith
count-most (x ∷ es) = let more = count-most es in
    cond_both x.1.listed 1 0 (λ n. n + listed_count es ≤ length (x ∷ es)) (λ t. omega (arith, more)) (λ f. omega (arith, more))

count-unlisted : (es : List Entry) (i : ℕ) (e : Entry) → slice_get es i ≡ Some e → e.1.listed ≡ false → listed_count es < length es
count-unlisted [] i e at f = absurd cc
count-unlisted (x ∷ es) zero e at f = let is : one_of x.1.listed ≡ 0 =
    ap (λ (o : Option Entry). one_of (in_listed o)) at ∙ ap one_of f in let most = count-most es in omega (arith, is, most)
count-unlisted (x ∷ es) (suc i) e at f =
    let more = count-unlisted es i e at f in cond_both x.1.listed 1 0 (λ n. n + listed_count es < length (x ∷ es))
    (λ t. omega (arith, more)) (λ t. omega (arith, more))

-- rooms with one that is set
same-rooms : (rs : List Room) → KeepsRooms rs rs
same-rooms [] = tt
same-rooms (r ∷ rs) = (refl, omega arith, same-rooms rs)

pub set-keeps : (es : List Entry) (i : ℕ) (e : Entry) (w : StoreSlot) → slice_get es i ≡ Some e
    → e.1.slot.spare ≤ w.slot.spare → KeepsRooms (rooms_in es) (rooms_in (set_value_at es i w))
set-keeps [] i e w at l = tt
set-keeps (x ∷ es) zero e w at l = (
  refl,
  (let is =
      ap (λ (o : Option Entry). when_some o 0 (λ (y : Entry). y.1.slot.spare)) at in omega (arith, is, l)),
  same-rooms (rooms_in es),
)
set-keeps (x ∷ es) (suc i) e w at l = (refl, omega arith, set-keeps es i e w at l)

pub set-uses : (es : List Entry) (i : ℕ) (e : Entry) (w : StoreSlot) → slice_get es i ≡ Some e
    → e.1.slot.spare ≤ w.slot.spare + 1 → UsesRoom i (rooms_in es) (rooms_in (set_value_at es i w))
set-uses [] i e w at l = tt
set-uses (x ∷ es) zero e w at l = (
  refl,
  (let is =
      ap (λ (o : Option Entry). when_some o 0 (λ (y : Entry). y.1.slot.spare)) at in omega (arith, is, l)),
  same-rooms (rooms_in es),
)
set-uses (x ∷ es) (suc i) e w at l = (refl, omega arith, set-uses es i e w at l)

pub set-same : (es : List Entry) (i : ℕ) (e : Entry) (w : StoreSlot) → slice_get es i ≡ Some e
    → w.slot.spare ≡ e.1.slot.spare → rooms_in (set_value_at es i w) ≡ rooms_in es
set-same [] i e w at l = refl
set-same (x ∷ es) zero e w at l =
    let is = ap (λ (o : Option Entry). when_some o 0 (λ (y : Entry). y.1.slot.spare)) at in
    λ k. record { key = x.0; spare = (l ∙ sym is) k } ∷ rooms_in es
set-same (x ∷ es) (suc i) e w at l = ap (λ (rs : List Room). room_of x ∷ rs) (set-same es i e w at l)

pub added-keeps : (es more : List Entry) → KeepsRooms (rooms_in es) (rooms_in (es ++ more))
added-keeps [] more = tt
added-keeps (x ∷ es) more = (refl, omega arith, added-keeps es more)

-- one entry more
all-added : (P : Entry → Type 0) (es : List Entry) (x : Entry) → AllByRecursion P es → P x → AllByRecursion P (es ++ x ∷ [])
all-added P [] x h p = (p, tt)
all-added P (e ∷ es) x h p = (h.0, all-added P es x h.1 p)

apart-added : (es : List Entry) (x : Entry) → KeysApart es → list_any (λ (e : Entry). same_text e.0 x.0) es ≡ false → KeysApart (es ++ x ∷ [])
apart-added [] x h n = (tt, tt)
apart-added (e ∷ es) x h n = (
  all-added (λ (f : Entry). same_text e.0 f.0 ≡ false) es x h.0
      (false_from_ne_true (same_text e.0 x.0) (λ t. false≢true (sym n ∙ or_left (same_text e.0 x.0) _ t))),
  apart-added es x h.1 (false_from_ne_true (list_any (λ (f : Entry). same_text f.0 x.0) es) (λ t. false≢true (sym n ∙ or_right (same_text e.0 x.0) _ t))),
)

listed-added : (es : List Entry) (x : Entry) (i : ℕ) → x.1.listed ≡ false → is_listed (es ++ x ∷ []) i ≡ is_listed es i
listed-added [] x zero n = n
listed-added [] x (suc i) n = refl
listed-added (e ∷ es) x zero n = refl
listed-added (e ∷ es) x (suc i) n = listed-added es x i n

count-added : (es : List Entry) (x : Entry) → x.1.listed ≡ false → listed_count (es ++ x ∷ []) ≡ listed_count es
count-added [] x n = let is = ap one_of n in omega (arith, is)
count-added (e ∷ es) x n = let more = count-added es x n in omega (arith, more)

length-added : (es : List Entry) (x : Entry) → length (es ++ x ∷ []) ≡ length es + 1
length-added [] x = refl
length-added (e ∷ es) x = let more = length-added es x in omega (arith, more)

states-added : (es : List Entry) (x : Entry) (order : List ℕ) → AllByRecursion (λ j. is_listed es j ≡ true) order
    → states_in (es ++ x ∷ []) order ≡ states_in es order
states-added es x [] h = refl
states-added es x (j ∷ rest) h =
    let there = listed-there es j h.0 in
    λ k. (ap in_state (at-front es (x ∷ []) j there.0 there.1) ∙ sym (ap in_state there.1)) k ∷ states-added es x rest h.1 k

-- a place more among places
any-inserted : (k i p : ℕ) (order : List ℕ) → list_any (is_place k) (insert order p i) ≡ (eqb i k || list_any (is_place k) order)
any-inserted k i zero order = refl
any-inserted k i (suc p) [] = refl
any-inserted k i (suc p) (j ∷ rest) = ap (λ b. eqb j k || b) (any-inserted k i p rest) ∙ swap (eqb j k) (eqb i k) (list_any (is_place k) rest)
  where
    swap : (a b c : Bool) → (a || (b || c)) ≡ (b || (a || c))
    swap true true c = refl
    swap true false c = refl
    swap false true c = refl
    swap false false c = refl

module _ {g : RegionId} {marks : Bool} {es : List Entry} {order : List ℕ} {cap : ℕ} (h : IsStore g marks es order cap) where
  -- a key came
  pub add-store : (x : Entry) (more : ℕ) → IsStoreSlot g marks x.0 x.1 → x.1.listed ≡ false
      → list_any (λ (e : Entry). same_text e.0 x.0) es ≡ false → length es + 1 ≤ more
      → IsStore g marks (es ++ x ∷ []) order more × (states_in (es ++ x ∷ []) order ≡ states_in es order)
  add-store x more own closed new room =
      let same = states-added es x order (are-there h) in (
        record {
          each = all-added (λ (e : Entry). IsStoreSlot g marks e.0 e.1) es x h.each own;
          apart = apart-added es x h.apart new;
          listed = λ i. h.listed i ∙ sym (listed-added es x i closed);
          ascend = subst KeysAscend (sym same) h.ascend;
          count = h.count ∙ sym (count-added es x closed);
          room = (let l = length-added es x in omega (arith, l, room));
        },
        same,
      )

  -- more room for places
  pub wide-store : (more : ℕ) → cap ≤ more → IsStore g marks es order more
  wide-store more l = record {
    each = h.each;
    apart = h.apart;
    listed = h.listed;
    ascend = h.ascend;
    count = h.count;
    room = (let r = h.room in omega (arith, l, r));
  }

  module _ (i : ℕ) (e : Entry) (at : slice_get es i ≡ Some e) where
    pub own : IsStoreSlot g marks e.0 e.1
    own = all-at (λ (x : Entry). IsStoreSlot g marks x.0 x.1) es i e h.each at

    pub is-among : list_any (is_place i) order ≡ e.1.listed
    is-among = h.listed i ∙ ap in_listed at

    -- the slot of its key
    pub slot-state : state_among marks e.0 (states_in es order) ≡ e.1.slot.state
    slot-state =
        found-place g marks es h.each h.apart i e at order (are-there h)
        ∙ cond_both (list_any (is_place i) order) e.1.slot.state (new_state marks e.0)
        (λ (s : KeyState). s ≡ e.1.slot.state) (λ t. refl) (λ f. sym (own.closed (sym is-among ∙ f)))

    module _ (w : StoreSlot) (kept : IsStoreSlot g marks e.0 w) where
      abbrev new : List Entry
      new = set_value_at es i w

      each-set : AllByRecursion (λ (x : Entry). IsStoreSlot g marks x.0 x.1) new
      each-set = set-all (λ (x : Entry). IsStoreSlot g marks x.0 x.1) es i e w h.each at kept

      listed-set : w.listed ≡ e.1.listed → (k : ℕ) → is_listed new k ≡ is_listed es k
      listed-set l k = elim (cases_eq k i) [
        | inl p ↦ ap (is_listed new) p ∙ ap in_listed (set-here es i e w at) ∙ l ∙ sym (ap in_listed at) ∙ sym (ap (is_listed es) p)
        | inr n ↦ ap in_listed (set-elsewhere es i k w n)
      ]

      stays : w.listed ≡ e.1.listed → KeysAscend (states_in new order) → IsStore g marks new order cap
      stays l ascend = record {
        each = each-set;
        apart = set-apart es i w h.apart;
        listed = λ k. h.listed k ∙ sym (listed-set l k);
        ascend = ascend;
        count = (let c = set-count es i e w at in let q = h.count in let r = ap one_of l in omega (arith, c, q, r));
        room = (let r = h.room in let s = set-length es i w in omega (arith, r, s));
      }

      -- a listed slot is set
      pub set-listed : e.1.listed ≡ true → w.listed ≡ e.1.listed → IsStore g marks new order cap
          × (with_state w.slot.state (states_in es order) ≡ states_in new order)
      set-listed t l =
          let is = replaced g marks es h.each h.apart i e at w kept.key_is order (are-there h) h.ascend (is-among ∙ t) in (
            stays l (subst KeysAscend is (with_state-ascends w.slot.state (states_in es order) h.ascend)),
            is,
          )

      same-states : w.slot.state ≡ e.1.slot.state → (places : List ℕ) → states_in new places ≡ states_in es places
      same-states q [] = refl
      same-states q (j ∷ rest) =
          let one : state_in new j ≡ state_in es j = elim (cases_eq j i) [
            | inl p ↦ ap (state_in new) p ∙ ap in_state (set-here es i e w at) ∙ q ∙ sym (ap in_state at) ∙ sym (ap (state_in es) p)
            | inr n ↦ ap in_state (set-elsewhere es i j w n)
          ] in
          λ k. one k ∷ same-states q rest k

      -- a slot is set that is in the same state
      pub set-quiet : w.slot.state ≡ e.1.slot.state → w.listed ≡ e.1.listed → IsStore g marks new order cap × (states_in new order ≡ states_in es order)
      set-quiet q l = (stays l (subst KeysAscend (sym (same-states q order)) h.ascend), same-states q order)

      -- a slot is listed
      pub set-open : e.1.listed ≡ false → w.listed ≡ true → (p : ℕ) → p ≤ length order → IsSplit es e.0 p order
          → IsStore g marks new (insert order p i) cap × (with_state w.slot.state (states_in es order) ≡ states_in new (insert order p i))
      set-open f t p within split =
          let is = inserted g marks es h.each h.apart i e at w kept.key_is p order (are-there h) (is-among ∙ f) split in (
            record {
              each = each-set;
              apart = set-apart es i w h.apart;
              listed = λ k. any-inserted k i p order ∙ now k;
              ascend = subst KeysAscend is (with_state-ascends w.slot.state (states_in es order) h.ascend);
              count = (let c = set-count es i e w at in let q = h.count in let r = ap one_of f in
                  let s = ap one_of t in let l = length-insert order p i within in omega (arith, c, q, r, s, l));
              room = (let r = h.room in let s = set-length es i w in omega (arith, r, s));
            },
            is,
          )
        where
          now : (k : ℕ) → (eqb i k || list_any (is_place k) order) ≡ is_listed new k
          now k = elim (cases_eq i k) [
            | inl q ↦ or_left (eqb i k) _ (eq-eqb i k q) ∙ sym (ap (is_listed new) (sym q) ∙ ap in_listed (set-here es i e w at) ∙ t)
            | inr n ↦ ap (λ b. b || list_any (is_place k) order) (ne_eqb i k n) ∙ h.listed k ∙ sym (ap in_listed (set-elsewhere es i k w (λ q. n (sym q))))
          ]

      -- there is room for a place more where one isn't listed
      pub unlisted-room : e.1.listed ≡ false → length order < cap
      unlisted-room f = let c = count-unlisted es i e at f in let q = h.count in let r = h.room in omega (arith, c, q, r)
