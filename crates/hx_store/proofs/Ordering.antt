-- The places of listed slots in byte order of keys, whatever the order in which they came.
use Rattle.std.proofs.Common.{◌≡◌, ℕ, zero, suc, ◌+◌, ◌<◌, ◌≤◌, nat_lt, Bool, true, false, ◌&&◌, ◌||◌, cond, List, []}
use Rattle.std.proofs.Common.{◌∷◌, ◌++◌, length, insert, inl, inr, Option, Some, refl, ap, sym, ◌∙◌, subst, arith, eqb}
use Rattle.std.proofs.Common.{take}
use Rattle.std.specs.List.{AllByRecursion, filter, slice_get}
use Rattle.std.proofs.lemmas.Bool.{cases_eq, cond_both, eq-eqb, eqb-true, false≢true, false_from_ne_true, lt-ltb, ltb-true, ne_eqb, or_cases, or_left, or_right}
use Rattle.indexmap.specs.IndexMap.{set_value_at}
use Rattle.hx_model.specs.Slots.{KeyState}
use Rattle.hx_model.specs.Types.{RegionId}
use Rattle.hx_types.proofs.Lemmas.{same_text-symm, text_below-other, text_below-trans}
use Rattle.hx_types.specs.Words.{same_text, text_below, when_some}
use Rattle.hx_index.specs.Orders.{stands_in}
use Rattle.hx_index.proofs.Lemmas.{stands-filter, within-at}
use Rattle.hx_store.specs.Indexed.{one_if, times}
use Rattle.hx_store.specs.Invariant.{AscendAt, HasMoved, IsAdded, IsLateStore, IsListedAt, IsSplit, IsStore, KeysApart}
use Rattle.hx_store.specs.Invariant.{below_from, in_order, is_listed, key_in, order_of, put_place, rooms_in, states_in}
use Rattle.hx_store.specs.Invariant.{stored_at}
use Rattle.hx_store.specs.Slots.{Entry, StoreSlot}
use Rattle.hx_store.specs.Stores.{StoreState, after_step, key_at, no_moves}
use Rattle.hx_store.proofs.Lists.{at-front, set-elsewhere, set-here}
use Rattle.hx_store.proofs.Order.{listed-there}
use Rattle.hx_store.proofs.Showing.{open-new, open-room, order-ascends, shown, stored-entry}
use Rattle.hx_store.proofs.Sorting.{ascend-times, differ, same-length, same-list, stands-times}
use Rattle.hx_store.proofs.Following.{times-end}

-- the numbers below one
stands-below : (n i : ℕ) → i < n → stands_in (below_from n) i ≡ true
stands-below zero i l = absurd (omega (arith, l))
stands-below (suc n) i l = elim (cases_eq n i) [
  | inl p ↦ or_left (eqb n i) _ (eq-eqb n i p)
  | inr d ↦ or_right (eqb n i) _ (stands-below n i (omega (arith, l, d)))
]

within-below : (n i : ℕ) → stands_in (below_from n) i ≡ true → i < n
within-below zero i t = absurd (false≢true t)
within-below (suc n) i t = elim (or_cases (eqb n i) (stands_in (below_from n) i) t) [
  | inl e ↦ (let q = eqb-true n i e in omega (arith, q))
  | inr s ↦ (let l = within-below n i s in omega (arith, l))
]

below-once : (n i : ℕ) → times i (below_from n) ≤ 1
below-once zero i = omega arith
below-once (suc n) i = cond_both (eqb n i) 1 0 (λ m. m + times i (below_from n) ≤ 1)
    (λ t. (let no = none t in omega (arith, no)))
    (λ f. (let more = below-once n i in omega (arith, more)))
  where
    past : eqb n i ≡ true → stands_in (below_from n) i ≡ false
    past t = false_from_ne_true (stands_in (below_from n) i) (λ s. (let l = within-below n i s in let q = eqb-true n i t in omega (arith, l, q)))

    none : eqb n i ≡ true → 0 < times i (below_from n) → ⊥
    none t l = false≢true (sym (sym (stands-times i (below_from n)) ∙ past t) ∙ lt-ltb 0 (times i (below_from n)) l)

module _ (es : List Entry) where
  -- a place more among places
  put-stands : (j i : ℕ) (xs : List ℕ) → stands_in (put_place es j xs) i ≡ (eqb j i || stands_in xs i)
  put-stands j i [] = refl
  put-stands j i (k ∷ rest) = by (text_below (key_in es j) (key_in es k)) (put-stands j i rest)
    where
      swap : (a b c : Bool) → (a || (b || c)) ≡ (b || (a || c))
      swap true true c = refl
      swap true false c = refl
      swap false true c = refl
      swap false false c = refl

      by : (b : Bool) → stands_in (put_place es j rest) i ≡ (eqb j i || stands_in rest i)
          → stands_in (cond b (j ∷ k ∷ rest) (k ∷ put_place es j rest)) i ≡ (eqb j i || (eqb k i || stands_in rest i))
      by true h = refl
      by false h = ap (λ b. eqb k i || b) h ∙ swap (eqb k i) (eqb j i) (stands_in rest i)

  order-stands : (i : ℕ) (xs : List ℕ) → stands_in (in_order es xs) i ≡ stands_in xs i
  order-stands i [] = refl
  order-stands i (j ∷ rest) = put-stands j i (in_order es rest) ∙ ap (λ b. eqb j i || b) (order-stands i rest)

  put-all : (Q : ℕ → Type 0) (j : ℕ) (xs : List ℕ) → Q j → AllByRecursion Q xs → AllByRecursion Q (put_place es j xs)
  put-all Q j [] q h = (q, tt)
  put-all Q j (k ∷ rest) q h = by (text_below (key_in es j) (key_in es k)) (put-all Q j rest q h.1)
    where
      by : (b : Bool) → AllByRecursion Q (put_place es j rest) → AllByRecursion Q (cond b (j ∷ k ∷ rest) (k ∷ put_place es j rest))
      by true m = (q, h)
      by false m = (h.0, m)

  -- a place of another key
  abbrev pub IsApart : ℕ → ℕ → Type 0
  IsApart j k = same_text (key_in es k) (key_in es j) ≡ false

  pub put-ascends : (j : ℕ) (xs : List ℕ) → AllByRecursion (IsApart j) xs → AscendAt es xs → AscendAt es (put_place es j xs)
  put-ascends j [] a h = (tt, tt)
  put-ascends j (k ∷ rest) a h = cond_both (text_below (key_in es j) (key_in es k)) (j ∷ k ∷ rest) (k ∷ put_place es j rest) (AscendAt es)
      (λ t. ((t, over rest t h.0), h))
      (λ f. (
        put-all (λ m. text_below (key_in es k) (key_in es m) ≡ true) j rest
            (text_below-other (key_in es j) (key_in es k) (same_text-symm (key_in es j) (key_in es k) ∙ a.0) f) h.0,
        put-ascends j rest a.1 h.1,
      ))
    where
      over : (ms : List ℕ) → text_below (key_in es j) (key_in es k) ≡ true → AllByRecursion (λ m. text_below (key_in es k) (key_in es m) ≡ true) ms
          → AllByRecursion (λ m. text_below (key_in es j) (key_in es m) ≡ true) ms
      over [] t h = tt
      over (m ∷ ms) t h = (text_below-trans (key_in es j) (key_in es k) (key_in es m) t h.0, over ms t h.1)

  module _ (apart : KeysApart es) where
    sorts : (xs : List ℕ) → ((i : ℕ) → times i xs ≤ 1) → ((i : ℕ) → stands_in xs i ≡ true → i < length es) → AscendAt es (in_order es xs)
    sorts [] once within = tt
    sorts (j ∷ rest) once within =
        put-ascends j (in_order es rest) (others (in_order es rest) (λ i t. sym (order-stands i rest) ∙ t))
        (sorts rest (λ i. (let n = once i in omega (arith, n))) (λ i t. within i (or_right (eqb j i) (stands_in rest i) t)))
      where
        one : (i : ℕ) → stands_in rest i ≡ true → j ≡ i → ⊥
        one i t e =
            let n = once i in
            let o = ap one_if (eq-eqb j i e) in
            let p = ltb-true 0 (times i rest) (sym (stands-times i rest) ∙ t) in
            omega (arith, n, o, p)

        others : (xs : List ℕ) → ((i : ℕ) → stands_in xs i ≡ true → stands_in rest i ≡ true) → AllByRecursion (IsApart j) xs
        others [] f = tt
        others (k ∷ ks) f =
            let here = f k (or_left (eqb k k) _ (eq-eqb k k refl)) in
            let before = within j (or_left (eqb j j) _ (eq-eqb j j refl)) in
            let after = within k (or_right (eqb j k) (stands_in rest k) here) in
            (differ es apart k j after before (λ e. one k here (sym e)), others ks (λ i t. f i (or_right (eqb k i) _ t)))

filter-times : (p : ℕ → Bool) (i : ℕ) (xs : List ℕ) → times i (filter p xs) ≤ times i xs
filter-times p i [] = omega arith
filter-times p i (x ∷ xs) = by (p x) (filter-times p i xs)
  where
    by : (b : Bool) → times i (filter p xs) ≤ times i xs → times i (cond b (x ∷ filter p xs) (filter p xs)) ≤ one_if (eqb x i) + times i xs
    by true h = omega (arith, h)
    by false h = omega (arith, h)

listed-within : (es : List Entry) (i : ℕ) → is_listed es i ≡ true → i < length es
listed-within es i t = let there = listed-there es i t in within-at es i there.0 there.1

-- the places of the listed slots are those in the order
pub order-members : (es : List Entry) (i : ℕ) → stands_in (order_of es) i ≡ is_listed es i
order-members es i =
    order-stands es i (filter (is_listed es) (below_from (length es)))
    ∙ stands-filter (is_listed es) i (below_from (length es))
    ∙ both (is_listed es i) (stands_in (below_from (length es)) i) (λ t. stands-below (length es) i (listed-within es i t))
  where
    both : (a b : Bool) → (a ≡ true → b ≡ true) → (a && b) ≡ a
    both true b f = f refl
    both false b f = refl

pub order-sorts : (es : List Entry) → KeysApart es → AscendAt es (order_of es)
order-sorts es apart =
    sorts es apart (filter (is_listed es) (below_from (length es)))
    (λ i. (let f = filter-times (is_listed es) i (below_from (length es)) in let o = below-once (length es) i in omega (arith, f, o)))
    (λ i t. listed-within es i (sym (order-members es i) ∙ order-stands es i (filter (is_listed es) (below_from (length es))) ∙ t))

-- and there is no other list of these places in byte order of keys
pub settled : {g : RegionId} {marks : Bool} {es : List Entry} {order : List ℕ} {cap : ℕ} → IsStore g marks es order cap → order_of es ≡ order
settled {es = es} {order = order} h =
    let ascend = order-ascends {attributes = 0} {ordered = true} h refl in
    same-list es (order_of es) order (order-sorts es h.apart) ascend (λ i. order-members es i ∙ sym (h.listed i))

pub ascend-same : (es new : List Entry) (xs : List ℕ) → ((j : ℕ) → stands_in xs j ≡ true → key_in new j ≡ key_in es j) → AscendAt es xs → AscendAt new xs
ascend-same es new [] f h = tt
ascend-same es new (x ∷ xs) f h = (
  all xs (λ j t. f j (or_right (eqb x j) _ t)) h.0,
  ascend-same es new xs (λ j t. f j (or_right (eqb x j) _ t)) h.1,
)
  where
    all : (ys : List ℕ) → ((j : ℕ) → stands_in ys j ≡ true → key_in new j ≡ key_in es j)
        → AllByRecursion (λ k. text_below (key_in es x) (key_in es k) ≡ true) ys → AllByRecursion (λ k. text_below (key_in new x) (key_in new k) ≡ true) ys
    all [] g h = tt
    all (y ∷ ys) g h =
        let first = f x (or_left (eqb x x) _ (eq-eqb x x refl)) in
        let second = g y (or_left (eqb y y) _ (eq-eqb y y refl)) in
        ((λ i. text_below (first i) (second i)) ∙ h.0, all ys (λ j t. g j (or_right (eqb y j) _ t)) h.1)

pub take-stands : (n i : ℕ) (xs : List ℕ) → stands_in (take n xs) i ≡ true → stands_in xs i ≡ true
take-stands zero i xs t = absurd (false≢true t)
take-stands (suc n) i [] t = absurd (false≢true t)
take-stands (suc n) i (x ∷ xs) t = elim (or_cases (eqb x i) (stands_in (take n xs) i) t) [
  | inl e ↦ or_left (eqb x i) _ e
  | inr s ↦ or_right (eqb x i) _ (take-stands n i xs s)
]

each-listed : (es : List Entry) (places : List ℕ) → ((i : ℕ) → times i places ≡ one_if (is_listed es i)) → (i : ℕ) → stands_in places i ≡ is_listed es i
each-listed es places f i = stands-times i places ∙ ap (nat_lt 0) (f i) ∙ by (is_listed es i)
  where
    by : (b : Bool) → nat_lt 0 (one_if b) ≡ b
    by true = refl
    by false = refl

order-each : (es : List Entry) → KeysApart es → (i : ℕ) → times i (order_of es) ≡ one_if (is_listed es i)
order-each es apart i =
    let once = ascend-times es (order_of es) (order-sorts es apart) i in
    by (times i (order_of es)) (is_listed es i) once (sym (stands-times i (order_of es)) ∙ order-members es i)
  where
    by : (n : ℕ) (b : Bool) → n ≤ 1 → nat_lt 0 n ≡ b → n ≡ one_if b
    by zero true l e = absurd (false≢true e)
    by zero false l e = refl
    by (suc n) true l e = omega (arith, l)
    by (suc n) false l e = absurd (false≢true (sym e ∙ lt-ltb 0 (suc n) (omega arith)))

pub take-all : (xs : List ℕ) (n : ℕ) → n ≡ length xs → take n xs ≡ xs
take-all [] n e = ap (λ m. take m []) e
take-all (x ∷ xs) zero e = absurd (omega (arith, e))
take-all (x ∷ xs) (suc n) e = ap (λ (ys : List ℕ). x ∷ ys) (take-all xs n (omega (arith, e)))

module _ {g : RegionId} {marks : Bool} {es : List Entry} {places : List ℕ} {sorted cap : ℕ} (h : IsLateStore g marks es places sorted cap) where
  -- the slots at the same places are others, of the same keys
  pub late-kept : (new : List Entry) (wide : ℕ) → IsStore g marks new (order_of es) wide
      → ((j : ℕ) → is_listed es j ≡ true → key_in new j ≡ key_in es j) → IsLateStore g marks new places sorted wide
  late-kept new wide store keys = record {
    store = subst (λ (order : List ℕ). IsStore g marks new order wide) (sym (settled store)) store;
    each = λ i. h.each i ∙ ap one_if (sym (h.store.listed i) ∙ store.listed i);
    begun = h.begun;
    ascend = ascend-same es new (take sorted places) (λ j t. keys j (sym (each-listed es places h.each j) ∙ take-stands sorted j places t)) h.ascend;
  }

  -- where all stand in order the list is the order
  pub late-order : sorted ≡ length places → places ≡ order_of es
  late-order e =
      let ascend = subst (AscendAt es) (take-all places sorted e) h.ascend in
      same-list es places (order_of es) ascend (order-sorts es h.store.apart) (λ i. each-listed es places h.each i ∙ sym (order-members es i))

  -- as many
  pub late-each : (i : ℕ) → times i places ≡ times i (order_of es)
  late-each i = h.each i ∙ sym (order-each es h.store.apart i)

  pub late-length : length places ≡ length (order_of es)
  late-length = same-length places (order_of es) late-each

  pub each-within : (i : ℕ) → stands_in places i ≡ true → i < length es
  each-within i t = listed-within es i (sym (each-listed es places h.each i) ∙ t)

  -- their states in the order, which is the same
  pub late-states : (new : List Entry) (wide : ℕ) {X : List KeyState} → IsStore g marks new (order_of es) wide → states_in new (order_of es) ≡ X
      → states_in new (order_of new) ≡ X
  late-states new wide store e = ap (states_in new) (settled store) ∙ e

key-set : (es : List Entry) (i : ℕ) (w : StoreSlot) (j : ℕ) → key_in (set_value_at es i w) j ≡ key_in es j
key-set [] i w j = refl
key-set (x ∷ es) zero w zero = refl
key-set (x ∷ es) zero w (suc j) = refl
key-set (x ∷ es) (suc i) w zero = refl
key-set (x ∷ es) (suc i) w (suc j) = key-set es i w j

-- keys stay where a slot is set, or a key comes
pub keys-set : (es new : List Entry) (i : ℕ) (w : StoreSlot) → new ≡ set_value_at es i w → (j : ℕ) → is_listed es j ≡ true → key_in new j ≡ key_in es j
keys-set es new i w e j t = ap (λ (xs : List Entry). key_in xs j) e ∙ key-set es i w j

pub keys-moved : {i fall : ℕ} {step : RegionId → KeyState → KeyState} {es new : List Entry} → HasMoved i step fall es new → (j : ℕ)
    → is_listed es j ≡ true → key_in new j ≡ key_in es j
keys-moved {i = i} {es = es} {new = new} m = keys-set es new i m.after m.set

pub keys-added : {g : RegionId} {marks : Bool} {key : List ℕ} {es new : List Entry} → IsAdded g marks key es new → (j : ℕ) → is_listed es j ≡ true
    → key_in new j ≡ key_in es j
keys-added {key = key} {es = es} a j t =
    let there = listed-there es j t in
    let x : Entry = (key, record { slot = a.slot; listed = false }) in
    ap (λ (xs : List Entry). key_in xs j) a.set
    ∙ ap (λ (o : Option Entry). when_some o [] (λ (e : Entry). e.0)) (at-front es (x ∷ []) j there.0 there.1 ∙ sym there.1)

-- how many places are of lower keys, up to the first that isn't
abbrev split_of : List Entry → List ℕ → List ℕ → ℕ
split_of es key [] = 0
split_of es key (k ∷ rest) = cond (text_below (key_in es k) key) (suc (split_of es key rest)) 0

split-within : (es : List Entry) (key : List ℕ) (xs : List ℕ) → split_of es key xs ≤ length xs
split-within es key [] = omega arith
split-within es key (k ∷ rest) = by (text_below (key_in es k) key) (split-within es key rest)
  where
    by : (b : Bool) → split_of es key rest ≤ length rest → cond b (suc (split_of es key rest)) 0 ≤ length (k ∷ rest)
    by true l = omega (arith, l)
    by false l = omega arith

split-is : (es : List Entry) (key : List ℕ) (xs : List ℕ) → IsSplit es key (split_of es key xs) xs
split-is es key [] = tt
split-is es key (k ∷ rest) = cond_both (text_below (key_in es k) key) (suc (split_of es key rest)) 0 (λ n. IsSplit es key n (k ∷ rest))
    (λ t. (t, split-is es key rest))
    (λ f. f)

take-front : (n : ℕ) (xs : List ℕ) (x : ℕ) → n ≤ length xs → take n (xs ++ x ∷ []) ≡ take n xs
take-front zero xs x l = refl
take-front (suc n) [] x l = absurd (omega (arith, l))
take-front (suc n) (y ∷ xs) x l = ap (λ (ys : List ℕ). y ∷ ys) (take-front n xs x (omega (arith, l)))

length-last : (xs : List ℕ) (x : ℕ) → length (xs ++ x ∷ []) ≡ length xs + 1
length-last [] x = refl
length-last (y ∷ xs) x = let more = length-last xs x in omega (arith, more)

abbrev in-listed : Option Entry → Bool
in-listed o = when_some o false (λ (x : Entry). x.1.listed)

module _ {g : RegionId} {marks : Bool} {es : List Entry} {places : List ℕ} {sorted cap attributes : ℕ} {ordered : Bool} {self : StoreState}
    (h : IsLateStore g marks es places sorted cap) (view : shown g marks attributes es (order_of es) ordered ≡ self) (place : ℕ)
    {w : StoreSlot} (stored : stored_at es place ≡ Some w) (closed : w.listed ≡ false) where
  -- there is room for a slot that is opened
  pub open-room-late : length places < cap
  open-room-late =
      let r = open-room h.store view place w stored closed in
      let l = late-length h in
      omega (arith, r, l)

  -- it is opened: its place comes last
  module _ {new : List Entry} (m : IsListedAt place es new) where
    abbrev number : ℕ
    number = split_of es (key_at self place) (order_of es)

    opened : IsStore g marks new (insert (order_of es) number place) cap
        × (states_in new (insert (order_of es) number place) ≡ after_step self (key_at self place) no_moves) × (rooms_in new ≡ self.rooms)
    opened =
        let within = split-within es (key_at self place) (order_of es) in
        let split = split-is es (key_at self place) (order_of es) in
        open-new h.store view place number w new (insert (order_of es) number place) cap stored closed within split m refl
        (omega arith)

    pub open-states-late : states_in new (order_of new) ≡ after_step self (key_at self place) no_moves
    open-states-late = ap (states_in new) (settled opened.0) ∙ opened.1

    pub open-rooms-late : rooms_in new ≡ self.rooms
    open-rooms-late = opened.2

    pub open-late : IsLateStore g marks new (places ++ place ∷ []) sorted cap
    open-late = record {
      store = subst (λ (order : List ℕ). IsStore g marks new order cap) (sym (settled opened.0)) opened.0;
      each = one;
      begun = (let b = h.begun in let l = length-last places place in omega (arith, b, l));
      ascend = subst (AscendAt new) (sym (take-front sorted places place h.begun)) (ascend-same es new (take sorted places) keys h.ascend);
    }
      where
        keys : (j : ℕ) → stands_in (take sorted places) j ≡ true → key_in new j ≡ key_in es j
        keys j t =
            let listed = sym (each-listed es places h.each j) ∙ take-stands sorted j places t in
            keys-set es new place (record m.before { listed = true }) m.set j listed

        at : (e : Entry) × (slice_get es place ≡ Some e) × (e.1 ≡ w)
        at = stored-entry es place w stored

        was : is_listed es place ≡ false
        was = ap in-listed at.1 ∙ ap (λ (x : StoreSlot). x.listed) at.2 ∙ closed

        now : is_listed new place ≡ true
        now = ap (λ (xs : List Entry). is_listed xs place) m.set ∙ ap in-listed (set-here es place at.0 (record m.before { listed = true }) at.1)

        rest : (i : ℕ) → (i ≡ place → ⊥) → is_listed new i ≡ is_listed es i
        rest i n = ap (λ (xs : List Entry). is_listed xs i) m.set ∙ ap in-listed (set-elsewhere es place i (record m.before { listed = true }) n)

        one : (i : ℕ) → times i (places ++ place ∷ []) ≡ one_if (is_listed new i)
        one i = elim (cases_eq i place) [
          | inl p ↦ subst (λ j. times j (places ++ place ∷ []) ≡ one_if (is_listed new j)) (sym p)
              (
              let t = times-end place places place in
              let e = ap one_if (eq-eqb place place refl) in
              let b = h.each place in
              let z = ap one_if was in
              let o = ap one_if now in
              omega (arith, t, e, b, z, o)
              )
          | inr n ↦ (
              let t = times-end i places place in
              let e = ap one_if (ne_eqb place i (λ q. n (sym q))) in
              let b = h.each i in
              let o = ap one_if (rest i n) in
              omega (arith, t, e, b, o)
              )
        ]

pub all-sorted : (sorted n : ℕ) (ordered : Bool) → eqb sorted n ≡ ordered → ordered ≡ true → sorted ≡ n
all-sorted sorted n ordered e t = eqb-true sorted n (e ∙ t)
