-- An index that follows the rows of slots: one row changes, and then its place in the index; and the marks of the places that wait for that.
use Rattle.std.proofs.Common.{◌≡◌, ℕ, zero, suc, ◌+◌, ◌-◌, ◌^◌, ◌<◌, ◌≤◌, Bool, true, false, cond, List, [], ◌∷◌, ◌++◌}
use Rattle.std.proofs.Common.{length, take, inl, inr, is_some, Option, None, Some, get_or, refl, ap, sym, ◌∙◌, subst}
use Rattle.std.proofs.Common.{arith, eqb}
use Rattle.std.specs.List.{slice_get, slice_set}
use Rattle.std.proofs.lemmas.Bool.{cases_eq, cases_lt, cases_order, cond-true, eq-eqb, false≢true, ne_eqb}
use Rattle.std.proofs.lemmas.Option.{same_Some, slice_get-get_or}
use Rattle.hx_model.specs.Types.{Row}
use Rattle.hx_types.specs.Words.{when_some}
use Rattle.hx_slot.specs.States.{SlotState}
use Rattle.hx_index.specs.Orders.{IndexState, IsIndexOf, count_of, rows_at, rows_with, rows_without}
use Rattle.hx_index.proofs.Lemmas.{set-elsewhere, set-here, set-length, same-orders, with-own, within-at}
use Rattle.hx_store.specs.Indexed.{AreIndexed, IndexedState, IsKept, IsKeptAs, IsOf, IsWider, is_marked, kept_at}
use Rattle.hx_store.specs.Indexed.{marked_count, one_if, one_kept, row_count, times}

-- the item at a place
pub at-item : {A : Type 0} (xs : List A) (i : ℕ) (x : A) → i < length xs → x ≡ get_or xs i x → slice_get xs i ≡ Some x
at-item xs i x l e = slice_get-get_or xs i x l ∙ ap (λ y. Some y) (sym e)

none-of : (o : Option Row) → is_some o ≡ false → o ≡ None
none-of None e = refl
none-of (Some r) e = absurd (false≢true (sym e))

one-of : (o : Option Row) → is_some o ≡ true → one_kept o ≡ 1
one-of o e = cond-true (is_some o) 1 0 e

most-one : (o : Option Row) → one_kept o ≤ 1
most-one None = omega arith
most-one (Some r) = omega arith

count-most : (rows : List (Option Row)) → row_count rows ≤ length rows
count-most [] = omega arith
count-most (r ∷ rows) = let more = count-most rows in let one = most-one r in omega (arith, more, one)

count-set : (rows : List (Option Row)) (i : ℕ) (s w : Option Row) → slice_get rows i ≡ Some s
    → row_count (slice_set rows i w) + one_kept s ≡ row_count rows + one_kept w
count-set [] i s w at = absurd cc
count-set (x ∷ rows) zero s w at = let is : one_kept x ≡ one_kept s = ap one_kept (same_Some x s at) in omega (arith, is)
count-set (x ∷ rows) (suc i) s w at = let more = count-set rows i s w at in omega (arith, more)

abbrev flat : Option (Option Row) → Option Row
flat o = when_some o None (λ (r : Option Row). r)

module _ (rows : List (Option Row)) (place : ℕ) (s : Option Row) (at : slice_get rows place ≡ Some s) where
  pub row-is : rows_at rows place ≡ s
  row-is = ap flat at

  one-count : is_some s ≡ true → one_kept (rows_at rows place) ≡ 1
  one-count e = ap one_kept row-is ∙ one-of s e

  no-count : is_some s ≡ false → one_kept (rows_at rows place) ≡ 0
  no-count e = ap one_kept (row-is ∙ none-of s e)

  none-there : is_some s ≡ false → rows_without place (rows_at rows) ≡ rows_at rows
  none-there e = with-own (rows_at rows) place None (row-is ∙ none-of s e)

  -- a row comes in, or stays out
  pub in-none : (index : IndexState) → IsKeptAs None place rows index → is_some s ≡ false → IsKept rows index
  in-none index h e = record {
    index_is = subst (λ (r : ℕ → Option Row). IsIndexOf r index) (none-there e) h.index_is;
    count = (let c = h.count in let n = no-count e in omega (arith, c, n));
    room = h.room;
    few = h.few;
  }

  pub in-room : (index : IndexState) → IsKeptAs None place rows index → is_some s ≡ true → count_of index < index.room
  in-room index h e = let c = h.count in let n = one-count e in let m = count-most rows in let r = h.room in omega (arith, c, n, m, r)

  pub in-some : (old new : IndexState) → IsKeptAs None place rows old → is_some s ≡ true
      → IsIndexOf (rows_at rows) new → count_of new ≡ count_of old + 1 → new.room ≡ old.room → IsKept rows new
  in-some old new h e is more same = record {
    index_is = is;
    count = (let c = h.count in let n = one-count e in omega (arith, c, n, more));
    room = (let r = h.room in omega (arith, r, same));
    few = h.few;
  }

  module _ (former : Row) (old new : IndexState) (h : IsKeptAs (Some former) place rows old) (same : new.room ≡ old.room) where
    -- it is there no more
    pub forgotten : is_some s ≡ false → IsIndexOf (rows_without place (rows_at rows)) new → count_of new + 1 ≡ count_of old → IsKept rows new
    forgotten e is less = record {
      index_is = subst (λ (r : ℕ → Option Row). IsIndexOf r new) (none-there e) is;
      count = (let c = h.count in let n = no-count e in omega (arith, c, n, less));
      room = (let r = h.room in omega (arith, r, same));
      few = h.few;
    }

    -- or another one
    pub replaced : is_some s ≡ true → IsIndexOf (rows_at rows) new → count_of new ≡ count_of old → IsKept rows new
    replaced e is count = record {
      index_is = is;
      count = (let c = h.count in let n = one-count e in omega (arith, c, n, count));
      room = (let r = h.room in omega (arith, r, same));
      few = h.few;
    }

  module _ (w : Option Row) where
    abbrev new : List (Option Row)
    new = slice_set rows place w

    pub row-new : rows_at new place ≡ w
    row-new = ap flat (set-here rows place w (within-at rows place s at))

    pub row-other : (i : ℕ) → (i ≡ place → ⊥) → rows_at new i ≡ rows_at rows i
    row-other i n = ap flat (set-elsewhere rows place i w n)

    same-others : rows_at rows ≡ rows_with place s (rows_at new)
    same-others = λ k i. one i k
      where
        one : (i : ℕ) → rows_at rows i ≡ rows_with place s (rows_at new) i
        one i = elim (cases_eq i place) [
          | inl p ↦ ap (rows_at rows) p ∙ row-is ∙ sym (cond-true (eqb i place) s (rows_at new i) (eq-eqb i place p))
          | inr n ↦ sym (row-other i n) ∙ sym (ap (λ b. cond b s (rows_at new i)) (ne_eqb i place n))
        ]

    -- the row changes, and the index has it as before
    pub but-set : (index : IndexState) → IsKept rows index → IsKeptAs s place new index
    but-set index h = record {
      index_is = subst (λ (r : ℕ → Option Row). IsIndexOf r index) same-others h.index_is;
      count = (let c = h.count in let b = ap one_kept row-new in let m = count-set rows place s w at in omega (arith, c, b, m));
      room = (let r = h.room in let l = set-length rows place w in omega (arith, r, l));
      few = (let r = h.few in let l = set-length rows place w in omega (arith, r, l));
    }

-- beyond the rows there is none
pub rows-past : (rows : List (Option Row)) (i : ℕ) → length rows ≤ i → rows_at rows i ≡ None
rows-past [] i l = refl
rows-past (s ∷ rows) zero l = absurd (omega (arith, l))
rows-past (s ∷ rows) (suc i) l = rows-past rows i (omega (arith, l))

-- marks of places
pub marked-within : (marks : List Bool) (i : ℕ) → is_marked marks i ≡ true → i < length marks
marked-within [] i e = absurd (false≢true e)
marked-within (m ∷ marks) zero e = omega arith
marked-within (m ∷ marks) (suc i) e = let l = marked-within marks i e in omega (arith, l)

pub marked-is : (marks : List Bool) (i : ℕ) (b : Bool) → i < length marks → b ≡ get_or marks i b → is_marked marks i ≡ b
marked-is marks i b l e = ap (λ (o : Option Bool). when_some o false (λ (m : Bool). m)) (at-item marks i b l e)

pub set-marked : (marks : List Bool) (i : ℕ) (b : Bool) → i < length marks → is_marked (slice_set marks i b) i ≡ b
set-marked marks i b l = ap (λ (o : Option Bool). when_some o false (λ (m : Bool). m)) (set-here marks i b l)

pub set-unmarked : (marks : List Bool) (i k : ℕ) (b : Bool) → (k ≡ i → ⊥) → is_marked (slice_set marks i b) k ≡ is_marked marks k
set-unmarked marks i k b n = ap (λ (o : Option Bool). when_some o false (λ (m : Bool). m)) (set-elsewhere marks i k b n)

one-most : (b : Bool) → one_if b ≤ 1
one-most true = omega arith
one-most false = omega arith

pub marked-most : (marks : List Bool) → marked_count marks ≤ length marks
marked-most [] = omega arith
marked-most (m ∷ marks) = let more = marked-most marks in let one = one-most m in omega (arith, more, one)

marked-set : (marks : List Bool) (i : ℕ) (b : Bool) → i < length marks
    → marked_count (slice_set marks i b) + one_if (is_marked marks i) ≡ marked_count marks + one_if b
marked-set [] i b l = absurd (omega (arith, l))
marked-set (m ∷ marks) zero b l = omega arith
marked-set (m ∷ marks) (suc i) b l = let more = marked-set marks i b (omega (arith, l)) in omega (arith, more)

none-marked : (marks : List Bool) → marked_count marks ≡ 0 → (i : ℕ) → is_marked marks i ≡ false
none-marked [] e i = refl
none-marked (true ∷ marks) e i = absurd (omega (arith, e))
none-marked (false ∷ marks) e zero = refl
none-marked (false ∷ marks) e (suc i) = none-marked marks (omega (arith, e)) i

pub times-end : (i : ℕ) (xs : List ℕ) (x : ℕ) → times i (xs ++ x ∷ []) ≡ times i xs + one_if (eqb x i)
times-end i [] x = omega arith
times-end i (y ∷ xs) x = let more = times-end i xs x in omega (arith, more)

length-end : {A : Type 0} (xs : List A) (x : A) → length (xs ++ x ∷ []) ≡ length xs + 1
length-end [] x = refl
length-end (y ∷ xs) x = let more = length-end xs x in omega (arith, more)

is-one : (b : Bool) → 1 ≤ one_if b → b ≡ true
is-one true l = refl
is-one false l = absurd (omega (arith, l))

same-one : (x i : ℕ) → (x ≡ i → ⊥) → one_if (eqb x i) ≡ 0
same-one x i n = ap one_if (ne_eqb x i n)

self-one : (x : ℕ) → one_if (eqb x x) ≡ 1
self-one x = ap one_if (eq-eqb x x refl)

-- a place is marked
pub marked : (index : IndexState) (rows : List (Option Row)) (marks : List Bool) (places : List ℕ) (cap place : ℕ)
    → AreIndexed index rows marks places cap → place < length marks → is_marked marks place ≡ false
    → AreIndexed index rows (slice_set marks place true) (places ++ place ∷ []) cap
marked index rows marks places cap place h l e = record {
  kept = h.kept;
  each_marked = set-length marks place true ∙ h.each_marked;
  each = one;
  all = (let a = h.all in let n = length-end places place in let m = marked-set marks place true l in let z = ap one_if e in omega (arith, a, n, m, z));
  capacity_is = h.capacity_is;
}
  where
    one : (i : ℕ) → times i (places ++ place ∷ []) ≡ one_if (is_marked (slice_set marks place true) i)
    one i = elim (cases_eq i place) [
      | inl p ↦ subst (λ j. times j (places ++ place ∷ []) ≡ one_if (is_marked (slice_set marks place true) j)) (sym p)
          (let t = times-end place places place in let s = self-one place in let b = h.each place in
          let z = ap one_if e in let n = ap one_if (set-marked marks place true l) in omega (arith, t, s, b, z, n))
      | inr n ↦ (let t = times-end i places place in let s = same-one place i (λ q. n (sym q)) in let b = h.each i in
          let m = ap one_if (set-unmarked marks place i true n) in omega (arith, t, s, b, m))
    ]

pub marked-room : (index : IndexState) (rows : List (Option Row)) (marks : List Bool) (places : List ℕ)
    (cap place : ℕ) → AreIndexed index rows marks places cap → place < length marks → is_marked marks place ≡ false
    → length places < cap
marked-room index rows marks places cap place h l e =
    let a = h.all in let r = h.capacity_is in let c = h.each_marked in
    let m = marked-set marks place true l in
    let z = ap one_if e in
    let n = marked-most (slice_set marks place true) in
    let s = set-length marks place true in
    omega (arith, a, r, c, m, z, n, s)

-- a list by its last item
last-split : (xs : List ℕ) (n x : ℕ) → length xs ≡ n + 1 → Some x ≡ slice_get xs n → xs ≡ take n xs ++ x ∷ []
last-split [] n x l e = absurd (omega (arith, l))
last-split (y ∷ []) zero x l e = ap (λ (z : ℕ). z ∷ []) (sym (same_Some x y e))
last-split (y ∷ z ∷ ys) zero x l e = absurd (omega (arith, l))
last-split (y ∷ ys) (suc n) x l e = ap (λ (zs : List ℕ). y ∷ zs) (last-split ys n x (omega (arith, l)) e)

-- the places by the one that is read last
pub last-place : {index : IndexState} {rows : List (Option Row)} {marks : List Bool} {places : List ℕ} {cap : ℕ}
    → AreIndexed index rows marks places cap → (place : ℕ) → 0 < marked_count marks → Some place ≡ slice_get places (length places - 1)
    → places ≡ take (length places - 1) places ++ place ∷ []
last-place {places = places} h place some read =
    last-split places (length places - 1) place (let all = h.all in omega (arith, some, all)) read

-- the place that was marked last
module _ {index : IndexState} {rows : List (Option Row)} {marks : List Bool} {places : List ℕ} {cap : ℕ} (h : AreIndexed index rows marks places cap)
    (rest : List ℕ) (place : ℕ) (last : places ≡ rest ++ place ∷ []) where
  once : times place rest + 1 ≡ one_if (is_marked marks place)
  once = let t = times-end place rest place in let s = self-one place in let e = h.each place in let q = ap (times place) last in omega (arith, t, s, e, q)

  pub last-marked : is_marked marks place ≡ true
  last-marked = is-one (is_marked marks place) (let o = once in omega (arith, o))

  pub last-within : place < length rows
  last-within = let l = marked-within marks place last-marked in let e = h.each_marked in omega (arith, l, e)

  -- is marked no more once the index has the row there
  pub unmarked : (next : IndexState) (now : List (Option Row)) → IsKept now next → length now ≡ length rows
      → AreIndexed next now (slice_set marks place false) rest cap
  unmarked next now kept same = record {
    kept = kept;
    each_marked = set-length marks place false ∙ h.each_marked ∙ sym same;
    each = one;
    all = (let a = h.all in let q = ap length last in let n = length-end rest place in
        let m = marked-set marks place false within in let z = ap one_if last-marked in omega (arith, a, q, n, m, z));
    capacity_is = (let r = h.capacity_is in omega (arith, r, same));
  }
    where
      within : place < length marks
      within = marked-within marks place last-marked

      one : (i : ℕ) → times i rest ≡ one_if (is_marked (slice_set marks place false) i)
      one i = elim (cases_eq i place) [
        | inl p ↦ subst (λ j. times j rest ≡ one_if (is_marked (slice_set marks place false) j)) (sym p)
            (let o = once in let l = one-most (is_marked marks place) in let n = ap one_if (set-marked marks place false within) in omega (arith, o, l, n))
        | inr n ↦ (let t = times-end i rest place in let s = same-one place i (λ q. n (sym q)) in let b = h.each i in
            let q = ap (times i) last in let m = ap one_if (set-unmarked marks place i false n) in omega (arith, t, s, b, q, m))
      ]

  pub less-marked : marked_count (slice_set marks place false) + 1 ≡ marked_count marks
  less-marked = let m = marked-set marks place false (marked-within marks place last-marked) in let z = ap one_if last-marked in omega (arith, m, z)

  -- and then it has one slot more by its object
  pub one-fresh : (slots : List SlotState) (x : IndexedState) (row : Option Row) (new : IndexState) → x.rows ≡ rows → x.stale ≡ marks
      → IsOf slots x → row ≡ kept_at slots place
      → IsOf slots (record { index = new; rows = slice_set rows place row; stale = slice_set marks place false })
  one-fresh slots x row new rs ms of e = record {
    few = of.few;
    fresh = λ i l f. elim (cases_eq i place) [
      | inl p ↦ ap (rows_at (slice_set rows place row)) p ∙ ap flat (set-here rows place row last-within) ∙ e ∙ ap (kept_at slots) (sym p)
      | inr n ↦ ap flat (set-elsewhere rows place i row n) ∙ ap (λ (r : List (Option Row)). rows_at r i) (sym rs)
          ∙ of.fresh i (let q = ap length ms in let s = set-length marks place false in omega (arith, l, q, s))
          (ap (λ (m : List Bool). is_marked m i) ms ∙ sym (set-unmarked marks place i false n) ∙ f)
    ];
    past = λ i l.
        let s = set-length marks place false in
        let q = ap length ms in
        let m = marked-within marks place last-marked in
        ap flat (set-elsewhere rows place i row (λ p. omega (arith, l, s, m, p))) ∙ ap (λ (r : List (Option Row)). rows_at r i) (sym rs)
        ∙ of.past i (omega (arith, l, s, q));
  }

-- beyond the slots is no object
kept-past : (slots : List SlotState) (i : ℕ) → length slots ≤ i → kept_at slots i ≡ None
kept-past [] i l = refl
kept-past (s ∷ slots) zero l = absurd (omega (arith, l))
kept-past (s ∷ slots) (suc i) l = kept-past slots i (omega (arith, l))

-- where each slot has a place and nothing is marked the index has each slot by its object
pub all-fresh : (slots : List SlotState) (x : IndexedState) → IsOf slots x → length slots ≤ length x.stale → marked_count x.stale ≡ 0
    → rows_at x.rows ≡ kept_at slots
all-fresh slots x of n e = λ k i. at i k
  where
    at : (i : ℕ) → rows_at x.rows i ≡ kept_at slots i
    at i = elim (cases_lt i (length x.stale)) [
      | inl l ↦ of.fresh i l (none-marked x.stale e i)
      | inr l ↦ of.past i l ∙ sym (kept-past slots i (omega (arith, n, l)))
    ]

-- a place more, at which nothing is yet, and which is marked
rows-end : (rows : List (Option Row)) (i : ℕ) → rows_at (rows ++ None ∷ []) i ≡ rows_at rows i
rows-end [] zero = refl
rows-end [] (suc i) = refl
rows-end (r ∷ rows) zero = refl
rows-end (r ∷ rows) (suc i) = rows-end rows i

marks-front : (marks : List Bool) (i : ℕ) → i < length marks → is_marked (marks ++ true ∷ []) i ≡ is_marked marks i
marks-front [] i l = absurd (omega (arith, l))
marks-front (m ∷ marks) zero l = refl
marks-front (m ∷ marks) (suc i) l = marks-front marks i (omega (arith, l))

marks-end : (marks : List Bool) → is_marked (marks ++ true ∷ []) (length marks) ≡ true
marks-end [] = refl
marks-end (m ∷ marks) = marks-end marks

marks-past : (marks : List Bool) (i : ℕ) → length marks ≤ i → is_marked marks i ≡ false
marks-past [] i l = refl
marks-past (m ∷ marks) zero l = absurd (omega (arith, l))
marks-past (m ∷ marks) (suc i) l = marks-past marks i (omega (arith, l))

row-count-end : (rows : List (Option Row)) → row_count (rows ++ None ∷ []) ≡ row_count rows
row-count-end [] = refl
row-count-end (r ∷ rows) = let more = row-count-end rows in omega (arith, more)

marked-count-end : (marks : List Bool) → marked_count (marks ++ true ∷ []) ≡ marked_count marks + 1
marked-count-end [] = refl
marked-count-end (m ∷ marks) = let more = marked-count-end marks in omega (arith, more)

pub wider : (old new : IndexedState) → new.rows ≡ old.rows ++ None ∷ [] → new.stale ≡ old.stale ++ true ∷ [] → IsWider old new
wider old new rs ms = record {
  rows = λ i. ap (λ (r : List (Option Row)). rows_at r i) rs ∙ rows-end old.rows i;
  stale = λ i l. ap (λ (m : List Bool). is_marked m i) ms ∙ marks-front old.stale i l;
  marked = λ i l m.
      let q = ap length ms in
      let n = length-end old.stale true in
      let here : i ≡ length old.stale = omega (arith, l, m, q, n) in
      ap (λ (x : List Bool). is_marked x i) ms ∙ ap (is_marked (old.stale ++ true ∷ [])) here ∙ marks-end old.stale;
  count = (let q = ap length ms in let l = length-end old.stale true in omega (arith, q, l));
}

-- the index got room
pub roomy : (rows : List (Option Row)) (old new : IndexState) → IsKept rows old → new.orders ≡ old.orders → old.room ≤ new.room → IsKept rows new
roomy rows old new h same room = record {
  index_is = same-orders (rows_at rows) old new same h.index_is;
  count = (let c = h.count in let q = ap (λ (os : List (List ℕ)). length (when_some (slice_get os 0) [] (λ (o : List ℕ). o))) same in omega (arith, c, q));
  room = (let r = h.room in omega (arith, r, room));
  few = h.few;
}

pub kept-end : (rows : List (Option Row)) (index : IndexState) → IsKept rows index → length rows + 1 ≤ index.room
    → length rows + 1 < 2 ^ 32 → IsKept (rows ++ None ∷ []) index
kept-end rows index h room few = record {
  index_is = subst (λ (r : ℕ → Option Row). IsIndexOf r index) (λ k i. sym (rows-end rows i) k) h.index_is;
  count = (let c = h.count in let m = row-count-end rows in omega (arith, c, m));
  room = (let l = length-end rows None in omega (arith, l, room));
  few = (let l = length-end rows None in omega (arith, l, few));
}

pub indexed-end : (index : IndexState) (rows : List (Option Row)) (marks : List Bool) (places : List ℕ) (cap : ℕ)
    → AreIndexed index rows marks places cap → (next : IndexState) (most : ℕ) → IsKept rows next
    → length rows + 1 ≤ next.room → length rows + 1 < 2 ^ 32 → length rows + 1 ≤ most
    → AreIndexed next (rows ++ None ∷ []) (marks ++ true ∷ []) (places ++ length rows ∷ []) most
indexed-end index rows marks places cap h next most kept room few enough = record {
  kept = kept-end rows next kept room few;
  each_marked = length-end marks true ∙ ap (λ n. n + 1) h.each_marked ∙ sym (length-end rows None);
  each = one;
  all = (let a = h.all in let n = length-end places (length rows) in let m = marked-count-end marks in omega (arith, a, n, m));
  capacity_is = (let l = length-end rows None in omega (arith, l, enough));
}
  where
    new-marks : List Bool
    new-marks = marks ++ true ∷ []

    same : length marks ≡ length rows
    same = h.each_marked

    -- at the new place
    last : times (length marks) (places ++ length rows ∷ []) ≡ one_if (is_marked new-marks (length marks))
    last =
        let t = times-end (length marks) places (length rows) in
        let s = ap one_if (eq-eqb (length rows) (length marks) (sym same)) in
        let b = h.each (length marks) in
        let z = ap one_if (marks-past marks (length marks) (omega arith)) in
        let n = ap one_if (marks-end marks) in
        omega (arith, t, s, b, z, n)

    -- and at another
    other : (i : ℕ) → (length rows ≡ i → ⊥) → is_marked new-marks i ≡ is_marked marks i
        → times i (places ++ length rows ∷ []) ≡ one_if (is_marked new-marks i)
    other i apart e =
        let t = times-end i places (length rows) in
        let s = same-one (length rows) i apart in
        let b = h.each i in
        let n = ap one_if e in
        omega (arith, t, s, b, n)

    beyond : (i : ℕ) → length marks < i → is_marked new-marks i ≡ is_marked marks i
    beyond i l = marks-past new-marks i (let e = length-end marks true in omega (arith, l, e)) ∙ sym (marks-past marks i (omega (arith, l)))

    one : (i : ℕ) → times i (places ++ length rows ∷ []) ≡ one_if (is_marked new-marks i)
    one i = elim (cases_order i (length marks)) [
      | inl p ↦ subst (λ j. times j (places ++ length rows ∷ []) ≡ one_if (is_marked new-marks j)) (sym p) last
      | inr (inl l) ↦ other i (λ p. (let q = same in omega (arith, p, q, l))) (marks-front marks i l)
      | inr (inr l) ↦ other i (λ p. (let q = same in omega (arith, p, q, l))) (beyond i l)
    ]
