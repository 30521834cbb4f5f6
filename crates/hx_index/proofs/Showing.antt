-- What an index keeps, and what contracts see of it.
use Rattle.std.proofs.Common.{◌≡◌, ℕ, zero, suc, ◌+◌, ◌<◌, ◌≤◌, ◌^◌, List, [], ◌∷◌, ◌++◌, length, map, slice_get, Some}
use Rattle.std.proofs.Common.{Option, Vec, vec_capacity, refl, ap, sym, ◌∙◌, subst, arith}
use Rattle.std.specs.List.{repeat}
use Rattle.std.specs.List.Sorted.{IsStrictlySortedBy}
use Rattle.std.proofs.lemmas.Option.{same_Some, slice_get_within}
use Rattle.hx_types.specs.Words.{when_some}
use Rattle.hx_model.specs.Types.{Row}
use Rattle.hx_index.specs.Invariant.{AreOrders, EachMoves, HasOrders, HaveRoom, IsAdded, IsRemoved, IsReplaced, IsWidened, items_of}
use Rattle.hx_index.specs.Orders.{IndexState, IsIndexOf, IsOrder, no_rows, order_of, rows_without, without}

-- an empty list more
repeat-more : (n : ℕ) (xs : List (List ℕ)) → repeat n xs ++ xs ≡ xs ++ repeat n xs → repeat (suc n) xs ++ xs ≡ xs ++ repeat (suc n) xs
repeat-more n xs e = assoc xs (repeat n xs) xs ∙ ap (λ (l : List (List ℕ)). xs ++ l) e
  where
    assoc : (a b c : List (List ℕ)) → (a ++ b) ++ c ≡ a ++ (b ++ c)
    assoc [] b c = refl
    assoc (x ∷ a) b c = ap (λ (l : List (List ℕ)). x ∷ l) (assoc a b c)

repeat-swap : (n : ℕ) (xs : List (List ℕ)) → repeat n xs ++ xs ≡ xs ++ repeat n xs
repeat-swap zero xs = sym (end xs)
  where
    end : (a : List (List ℕ)) → a ++ [] ≡ a
    end [] = refl
    end (x ∷ a) = ap (λ (l : List (List ℕ)). x ∷ l) (end a)
repeat-swap (suc n) xs = repeat-more n xs (repeat-swap n xs)

pub repeat-next : (n : ℕ) (xs : List (List ℕ)) → repeat (n + 1) xs ≡ repeat n xs ++ xs
repeat-next n xs = ap (λ m. repeat m xs) (let e : n + 1 ≡ suc n = omega arith in e) ∙ sym (repeat-swap n xs)

abbrev no-numbers : List ℕ
no-numbers = []

pub length-repeat : (n : ℕ) → length (repeat n (no-numbers ∷ [])) ≡ n
length-repeat zero = refl
length-repeat (suc n) = ap suc (length-repeat n)

pub repeat-at : (n k : ℕ) (numbers : List ℕ) → slice_get (repeat n ([] ∷ [])) k ≡ Some numbers → numbers ≡ []
repeat-at zero k numbers e = absurd cc
repeat-at (suc n) zero numbers e = sym (same_Some [] numbers e)
repeat-at (suc n) (suc k) numbers e = repeat-at n k numbers e

module _ {Z : Type 0} where
  pub items-append : (os : List (Vec ℕ Z)) (o : Vec ℕ Z) → items_of (os ++ o ∷ []) ≡ items_of os ++ o.items ∷ []
  items-append [] o = refl
  items-append (x ∷ os) o = ap (λ (l : List (List ℕ)). x.items ∷ l) (items-append os o)

  pub items-length : (os : List (Vec ℕ Z)) → length (items_of os) ≡ length os
  items-length [] = refl
  items-length (x ∷ os) = ap suc (items-length os)

  pub items-at : (os : List (Vec ℕ Z)) (k : ℕ) (o : Vec ℕ Z) → slice_get os k ≡ Some o → slice_get (items_of os) k ≡ Some o.items
  items-at [] k o e = absurd cc
  items-at (x ∷ os) zero o e = ap (λ (v : Vec ℕ Z). Some v.items) (same_Some x o e)
  items-at (x ∷ os) (suc k) o e = items-at os k o e

  pub at-within : (os : List (Vec ℕ Z)) (k : ℕ) → k < length os → (o : Vec ℕ Z) × (slice_get os k ≡ Some o)
  at-within [] k l = absurd (omega arith)
  at-within (x ∷ os) zero l = (x, refl)
  at-within (x ∷ os) (suc k) l = at-within os k (omega arith)

  -- the order of an attribute is the list at its place
  pub order-at : (os : List (Vec ℕ Z)) (room k : ℕ) (o : Vec ℕ Z) → slice_get os k ≡ Some o
      → order_of (record { orders = items_of os; room = room }) k ≡ o.items
  order-at os room k o e = ap (λ (f : Option (List ℕ)). when_some f [] (λ (numbers : List ℕ). numbers)) (items-at os k o e)

  -- what is asked of the lists
  pub are-orders : (rows : ℕ → Option Row) (os : List (Vec ℕ Z)) (room : ℕ) → IsIndexOf rows (record { orders = items_of os; room = room }) → AreOrders rows os
  are-orders rows os room h k o e =
      subst (IsOrder rows k) (order-at os room k o e) (h k (let l = slice_get_within os k o e in let n = items-length os in omega (arith, l, n)))

  pub is-index : (rows : ℕ → Option Row) (os : List (Vec ℕ Z)) (room : ℕ) → AreOrders rows os → IsIndexOf rows (record { orders = items_of os; room = room })
  is-index rows os room h k l =
      let n = items-length os in
      let o = at-within os k (omega (arith, l, n)) in
      subst (IsOrder rows k) (sym (order-at os room k o.0 o.1)) (h k o.0 o.1)

  abbrev count_in : List (Vec ℕ Z) → ℕ
  count_in os = length (when_some (slice_get (items_of os) 0) [] (λ (numbers : List ℕ). numbers))

  -- each order moved from one that was there
  moved-from : (P : ℕ → Vec ℕ Z → Vec ℕ Z → Type 0) (old new : List (Vec ℕ Z)) → EachMoves P old new
      → (k : ℕ) (after : Vec ℕ Z) → slice_get new k ≡ Some after → (before : Vec ℕ Z)
      × (slice_get old k ≡ Some before) × P k before after
  moved-from P old new m k after e =
      let l = slice_get_within new k after e in
      let n = m.count in
      let b = at-within old k (omega (arith, l, n)) in
      (b.0, b.1, m.each k b.0 after b.1 e)

  -- lists that differ place by place alone
  mapped : (f : List ℕ → List ℕ) (old new : List (Vec ℕ Z)) → length new ≡ length old
      → ((k : ℕ) (before after : Vec ℕ Z) → slice_get old k ≡ Some before → slice_get new k ≡ Some after
      → before.items ≡ f after.items) → items_of old ≡ map f (items_of new)
  mapped f [] [] n h = refl
  mapped f [] (y ∷ ys) n h = absurd (omega (arith, n))
  mapped f (x ∷ xs) [] n h = absurd (omega (arith, n))
  mapped f (x ∷ xs) (y ∷ ys) n h = λ i. h 0 x y refl refl i ∷ mapped f xs ys (omega (arith, n)) (λ k. h (suc k)) i

  module _ (os : List (Vec ℕ Z)) (room : ℕ) (h : HasOrders os room) where
    first-there : (o : Vec ℕ Z) × (slice_get os 0 ≡ Some o)
    first-there = at-within os 0 h.some

    pub room-at : count_in os < room → HaveRoom os
    room-at l k o e = let r = h.each k o e in let a = r.len in let b = r.room in let ok = o.ok.0 in omega (arith, l, a, b, ok)

    module _ (rows : ℕ → Option Row) (id : ℕ) (new : List (Vec ℕ Z)) where
      first-after : length new ≡ length os → (o : Vec ℕ Z) × (slice_get new 0 ≡ Some o)
      first-after n = at-within new 0 (let s = h.some in omega (arith, s, n))

      pub added-count : EachMoves (IsAdded rows id) os new → count_in new ≡ count_in os + 1
      added-count m =
          let a = first-after m.count in
          let b = first-there in
          let p = m.each 0 b.0 a.0 b.1 a.1 in
          let q = ap length (order-at new room 0 a.0 a.1) in
          let r = ap length (order-at os room 0 b.0 b.1) in
          let l = p.len in let s = a.0.ok.0 in let t = b.0.ok.0 in
          omega (arith, q, r, l, s, t)

      pub added-orders : EachMoves (IsAdded rows id) os new → count_in os < room → HasOrders new room
      added-orders m less = record {
        small = h.small;
        within = (let c = added-count m in omega (arith, c, less));
        some = (let s = h.some in let n = m.count in omega (arith, s, n));
        few = (let s = h.few in let n = m.count in omega (arith, s, n));
        each = λ k o e.
            let b = moved-from (IsAdded rows id) os new m k o e in
            let r = h.each k b.0 b.1 in
            let c = added-count m in
            let l = b.2.len in let p = b.2.capacity in let s = o.ok.0 in let t = b.0.ok.0 in let u = r.len in let v = r.room in
            record { len = omega (arith, c, l, s, t, u); room = omega (arith, p, v) };
      }

      pub added-index : EachMoves (IsAdded rows id) os new → IsIndexOf rows (record { orders = items_of new; room = room })
      added-index m = is-index rows new room (λ k o e. (moved-from (IsAdded rows id) os new m k o e).2.order)

      pub added-without : EachMoves (IsAdded rows id) os new → items_of os ≡ map (without id) (items_of new)
      added-without m = mapped (without id) os new m.count (λ k b a e f. (m.each k b a e f).others)

      pub removed-count : EachMoves (IsRemoved rows id) os new → count_in new + 1 ≡ count_in os
      removed-count m =
          let a = first-after m.count in
          let b = first-there in
          let p = m.each 0 b.0 a.0 b.1 a.1 in
          let q = ap length (order-at new room 0 a.0 a.1) in
          let r = ap length (order-at os room 0 b.0 b.1) in
          let l = p.len in let s = a.0.ok.0 in let t = b.0.ok.0 in
          omega (arith, q, r, l, s, t)

      pub removed-orders : EachMoves (IsRemoved rows id) os new → HasOrders new room
      removed-orders m = record {
        small = h.small;
        within = (let c = removed-count m in let w = h.within in omega (arith, c, w));
        some = (let s = h.some in let n = m.count in omega (arith, s, n));
        few = (let s = h.few in let n = m.count in omega (arith, s, n));
        each = λ k o e.
            let b = moved-from (IsRemoved rows id) os new m k o e in
            let r = h.each k b.0 b.1 in
            let c = removed-count m in
            let l = b.2.len in let p = b.2.capacity in let s = o.ok.0 in let t = b.0.ok.0 in let u = r.len in let v = r.room in
            record { len = omega (arith, c, l, s, t, u); room = omega (arith, p, v) };
      }

      pub removed-index : EachMoves (IsRemoved rows id) os new → IsIndexOf (rows_without id rows) (record { orders = items_of new; room = room })
      removed-index m = is-index (rows_without id rows) new room (λ k o e. (moved-from (IsRemoved rows id) os new m k o e).2.order)

      pub removed-without : EachMoves (IsRemoved rows id) os new → items_of new ≡ map (without id) (items_of os)
      removed-without m = mapped (without id) new os (sym m.count) (λ k a b f e. (m.each k b a e f).others)

      pub replaced-count : EachMoves (IsReplaced rows) os new → count_in new ≡ count_in os
      replaced-count m =
          let a = first-after m.count in
          let b = first-there in
          let p = m.each 0 b.0 a.0 b.1 a.1 in
          let q = ap length (order-at new room 0 a.0 a.1) in
          let r = ap length (order-at os room 0 b.0 b.1) in
          let l = p.len in let s = a.0.ok.0 in let t = b.0.ok.0 in
          omega (arith, q, r, l, s, t)

      pub replaced-orders : EachMoves (IsReplaced rows) os new → HasOrders new room
      replaced-orders m = record {
        small = h.small;
        within = (let c = replaced-count m in let w = h.within in omega (arith, c, w));
        some = (let s = h.some in let n = m.count in omega (arith, s, n));
        few = (let s = h.few in let n = m.count in omega (arith, s, n));
        each = λ k o e.
            let b = moved-from (IsReplaced rows) os new m k o e in
            let r = h.each k b.0 b.1 in
            let c = replaced-count m in
            let l = b.2.len in let p = b.2.capacity in let s = o.ok.0 in let t = b.0.ok.0 in let u = r.len in let v = r.room in
            record { len = omega (arith, c, l, s, t, u); room = omega (arith, p, v) };
      }

      pub replaced-index : EachMoves (IsReplaced rows) os new → IsIndexOf rows (record { orders = items_of new; room = room })
      replaced-index m = is-index rows new room (λ k o e. (moved-from (IsReplaced rows) os new m k o e).2.order)

    pub widened-same : (new : List (Vec ℕ Z)) → EachMoves IsWidened os new → items_of new ≡ items_of os
    widened-same new m = mapped (λ l. l) new os (sym m.count) (λ k a b f e. (m.each k b a e f).items) ∙ map-same (items_of os)
      where
        map-same : (xs : List (List ℕ)) → map (λ l. l) xs ≡ xs
        map-same [] = refl
        map-same (x ∷ xs) = ap (λ (l : List (List ℕ)). x ∷ l) (map-same xs)

    pub widened-orders : (new : List (Vec ℕ Z)) (most : ℕ) → room ≤ most → most < 2 ^ 32 → EachMoves IsWidened os new
        → ((k : ℕ) (o : Vec ℕ Z) → slice_get new k ≡ Some o → room ≤ vec_capacity o → most ≤ vec_capacity o) → HasOrders new most
    widened-orders new most least small m more = record {
      small = small;
      within = (let w = h.within in let c = ap (λ (l : List (List ℕ)). length
          (when_some (slice_get l 0) [] (λ (numbers : List ℕ). numbers))) (widened-same new m) in omega (arith, c, w, least));
      some = (let s = h.some in let n = m.count in omega (arith, s, n));
      few = (let s = h.few in let n = m.count in omega (arith, s, n));
      each = λ k o e.
          let b = moved-from IsWidened os new m k o e in
          let r = h.each k b.0 b.1 in
          let same = widened-same new m in
          let c = ap (λ (l : List (List ℕ)). length (when_some (slice_get l 0) [] (λ (numbers : List ℕ). numbers))) same in
          let l = ap length b.2.items in let p = b.2.capacity in let u = r.len in let v = r.room in
          record { len = omega (arith, c, l, u); room = more k o e (omega (arith, p, v)) };
    }

pub empty-orders : {Z : Type 0} (os : List (Vec ℕ Z)) (n : ℕ) → items_of os ≡ repeat (n + 1) ([] ∷ []) → n + 1 ≤ 2 ^ 32 → HasOrders os 0
empty-orders os n e few =
    let count : length os ≡ n + 1 = sym (items-length os) ∙ ap length e ∙ length-repeat (n + 1) in
    record {
      small = omega arith;
      some = omega (arith, count);
      few = omega (arith, count, few);
      within = (let first : length (when_some (slice_get (items_of os) 0) [] (λ (numbers : List ℕ). numbers)) ≡ 0 =
          ap (λ (l : List (List ℕ)). length (when_some (slice_get l 0) [] (λ (numbers : List ℕ). numbers)))
          (e ∙ ap (λ m. repeat m ([] ∷ [])) (let s : n + 1 ≡ suc n = omega arith in s)) in omega (arith, first));
      each = λ k o at.
          let none : o.items ≡ [] = repeat-at (n + 1) k o.items (sym (ap (λ (l : List (List ℕ)). slice_get l k) e) ∙ items-at os k o at) in
          let first : length (when_some (slice_get (items_of os) 0) [] (λ (numbers : List ℕ). numbers)) ≡ 0 =
          ap (λ (l : List (List ℕ)). length (when_some (slice_get l 0) [] (λ (numbers : List ℕ). numbers)))
          (e ∙ ap (λ m. repeat m ([] ∷ [])) (let s : n + 1 ≡ suc n = omega arith in s)) in
          let zero_len = ap length none in
          record { len = omega (arith, zero_len, first); room = omega arith };
    }

-- the index of no slots
pub empty-index : (index : IndexState) (n : ℕ) → index.orders ≡ repeat n ([] ∷ []) → IsIndexOf no_rows index
unfolding IsStrictlySortedBy
empty-index index n e k l =
    let none : order_of index k ≡ [] = ap (λ (os : List (List ℕ)). when_some (slice_get os k) [] (λ (numbers : List ℕ). numbers)) e ∙ by n k in
    subst (IsOrder no_rows k) (sym none) (record { ascend = tt; each = λ i. refl })
  where
    by : (n k : ℕ) → when_some (slice_get (repeat n (no-numbers ∷ [])) k) [] (λ (numbers : List ℕ). numbers) ≡ []
    by zero k = refl
    by (suc n) zero = refl
    by (suc n) (suc k) = by n k
