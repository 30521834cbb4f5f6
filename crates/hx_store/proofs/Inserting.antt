-- A place goes to its key's point among places in byte order of their keys, found by halving.
use Rattle.std.proofs.Common.{◌≡◌, ℕ, zero, suc, ◌+◌, ◌<◌, ◌≤◌, Bool, true, false, List, [], ◌∷◌, insert, remove, length, take}
use Rattle.std.proofs.Common.{slice_index_or, refl, ap, sym, ◌∙◌, subst, arith, eqb, add-one}
use denote.Ref.{Bor}
use denote.Param.Members.{Mut}
use Rattle.std.specs.Cmp.Lexicographic.{slice_cmp}
use Rattle.std.specs.Fn.{Called, ComputesKey}
use Rattle.std.specs.List.{AllByRecursion}
use Rattle.std.specs.List.Sorted.{IsPartitionedBy, IsPartitionPoint}
use Rattle.std.specs.Ordering.{is_lt, nat_cmp}
use Rattle.std.proofs.lemmas.Bool.{cond-false, cond-true, eq-eqb, ltb-true}
use Rattle.std.proofs.lemmas.List.Sorted.{IsPartitionPoint-from_clause}
use Rattle.hx_types.proofs.Lemmas.{text_below-back, text_below-is_lt, text_below-other, text_below-trans}
use Rattle.hx_types.specs.Words.{text_below}
use Rattle.hx_index.specs.Orders.{stands_in}
use Rattle.hx_store.specs.Indexed.{one_if, times}
use Rattle.hx_store.specs.Invariant.{AscendAt, IsSplit, KeysApart, key_in, put_place}
use Rattle.hx_store.specs.Slots.{Entry}
use Rattle.hx_store.proofs.Lists.{all-among}
use Rattle.hx_store.proofs.Ordering.{IsApart, put-ascends, take-stands}
use Rattle.hx_store.proofs.Sorting.{differ, stands-times}
use Rattle.hx_store.proofs.Walking.{stands-at}

-- what stands before an item stays there where the item is taken out
take-removed : (xs : List ℕ) (at : ℕ) → take at (remove xs at) ≡ take at xs
take-removed xs zero = refl
take-removed [] (suc at) = refl
take-removed (x ∷ xs) (suc at) = ap (λ (ys : List ℕ). x ∷ ys) (take-removed xs at)

-- and has it in the midst where it is put in again
take-inserted : (xs : List ℕ) (at p x : ℕ) → p ≤ at → at < length xs → take (suc at) (insert (remove xs at) p x) ≡ insert (take at xs) p x
take-inserted xs at zero x l m = ap (λ (ys : List ℕ). x ∷ ys) (take-removed xs at)
take-inserted [] at (suc p) x l m = absurd (omega (arith, m))
take-inserted (y ∷ xs) zero (suc p) x l m = absurd (omega (arith, l))
take-inserted (y ∷ xs) (suc at) (suc p) x l m = ap (λ (ys : List ℕ). y ∷ ys) (take-inserted xs at p x (omega (arith, l)) (omega (arith, m)))

take-within : (n : ℕ) (xs : List ℕ) → length (take n xs) ≤ n
take-within zero xs = omega arith
take-within (suc n) [] = omega arith
take-within (suc n) (x ∷ xs) = let l = take-within n xs in omega (arith, l)

times-inserted : (i p x : ℕ) (xs : List ℕ) → times i (insert xs p x) ≡ one_if (eqb x i) + times i xs
times-inserted i zero x xs = refl
times-inserted i (suc p) x [] = refl
times-inserted i (suc p) x (y ∷ xs) = let more = times-inserted i p x xs in omega (arith, more)

times-removed : (i at d : ℕ) (xs : List ℕ) → at < length xs → one_if (eqb (slice_index_or xs at d) i) + times i (remove xs at) ≡ times i xs
times-removed i at d [] l = absurd (omega (arith, l))
times-removed i zero d (x ∷ xs) l = refl
times-removed i (suc at) d (x ∷ xs) l = let more = times-removed i at d xs (omega (arith, l)) in omega (arith, more)

-- an item that goes elsewhere
pub times-moved : (i at p d : ℕ) (xs : List ℕ) → at < length xs → times i (insert (remove xs at) p (slice_index_or xs at d)) ≡ times i xs
times-moved i at p d xs l = times-inserted i p (slice_index_or xs at d) (remove xs at) ∙ times-removed i at d xs l

-- an item and those before it
times-front : (i at d : ℕ) (xs : List ℕ) → at < length xs → times i (take at xs) + one_if (eqb (slice_index_or xs at d) i) ≤ times i xs
times-front i at d [] l = absurd (omega (arith, l))
times-front i zero d (x ∷ xs) l = omega arith
times-front i (suc at) d (x ∷ xs) l = let more = times-front i at d xs (omega (arith, l)) in omega (arith, more)

module _ (es : List Entry) where
  -- what is below a key is before all that isn't
  partitioned : (key : List ℕ) (xs : List ℕ) → AscendAt es xs → IsPartitionedBy (λ j. text_below (key_in es j) key) xs
  partitioned key [] h i j d l m e = absurd (omega (arith, m))
  partitioned key (x ∷ xs) h zero zero d l m e = e
  partitioned key (x ∷ xs) h zero (suc j) d l m e = text_below-trans (key_in es x) (key_in es (slice_index_or xs j d)) key (at xs j h.0 (omega (arith, m))) e
    where
      at : (ys : List ℕ) (j : ℕ) → AllByRecursion (λ k. text_below (key_in es x) (key_in es k) ≡ true) ys → j < length ys
          → text_below (key_in es x) (key_in es (slice_index_or ys j d)) ≡ true
      at [] j a n = absurd (omega (arith, n))
      at (y ∷ ys) zero a n = a.0
      at (y ∷ ys) (suc j) a n = at ys j a.1 (omega (arith, n))
  partitioned key (x ∷ xs) h (suc i) zero d l m e = absurd (omega (arith, l))
  partitioned key (x ∷ xs) h (suc i) (suc j) d l m e = partitioned key xs h.1 i j d (omega (arith, l)) (omega (arith, m)) e

  split-at : (key : List ℕ) (p : ℕ) (xs : List ℕ) → p ≤ length xs
      → ((i : ℕ) → i < p → text_below (key_in es (slice_index_or xs i 0)) key ≡ true)
      → ((i : ℕ) → p ≤ i → i < length xs → text_below (key_in es (slice_index_or xs i 0)) key ≡ false) → IsSplit es key p xs
  split-at key zero [] l before from = tt
  split-at key zero (x ∷ xs) l before from = from 0 (omega arith) (omega arith)
  split-at key (suc p) [] l before from = absurd (omega (arith, l))
  split-at key (suc p) (x ∷ xs) l before from = (
    before 0 (omega arith),
    split-at key p xs (omega (arith, l)) (λ i b. before (suc i) (omega (arith, b))) (λ i b n. from (suc i) (omega (arith, b)) (omega (arith, n))),
  )

  -- what a search by keys finds
  pub split-from : {F : Type 0} {g : Mut F (Bor ℕ × Unit {0}) Bool} {f : F} (key : List ℕ) (xs : List ℕ) (p : ℕ) → AscendAt es xs → p ≤ length xs
      → ((q : ℕ → Bool) → ComputesKey g q f → IsPartitionedBy q xs → IsPartitionPoint (λ y. q y ≡ true) (λ y. q y ≡ false) xs p)
      → ((a : Bor ℕ × Unit {0}) (r : Bool) (f' : F) → Called g f a r f' → (r ≡ is_lt (slice_cmp nat_cmp (key_in es a.0.now) key)) × (f' ≡ f))
      → IsSplit es key p xs
  split-from key xs p ascend l found calls =
      let below = λ (j : ℕ). text_below (key_in es j) key in
      let point = IsPartitionPoint-from_clause below xs p found (partitioned key xs ascend)
      (λ a r f' k. ((calls a r f' k).0 ∙ sym (text_below-is_lt (key_in es a.0.now) key), (calls a r f' k).1)) in
      split-at key p xs l (λ i b. point.0 i 0 (omega arith) b) (λ i b n. point.1 i 0 b n)

  split-within : (key : List ℕ) (p : ℕ) (xs : List ℕ) → IsSplit es key p xs → p ≤ length xs
  split-within key zero xs s = omega arith
  split-within key (suc p) [] s = absurd s
  split-within key (suc p) (x ∷ xs) s = let l = split-within key p xs s.1 in omega (arith, l)

  -- the point of a key is where its place goes
  insert-put : (j p : ℕ) (xs : List ℕ) → AllByRecursion (IsApart es j) xs → IsSplit es (key_in es j) p xs → insert xs p j ≡ put_place es j xs
  insert-put j zero [] a s = refl
  insert-put j zero (k ∷ rest) a s =
      sym (cond-true (text_below (key_in es j) (key_in es k)) (j ∷ k ∷ rest) (k ∷ put_place es j rest)
      (text_below-other (key_in es k) (key_in es j) a.0 s))
  insert-put j (suc p) [] a s = absurd s
  insert-put j (suc p) (k ∷ rest) a s =
      ap (λ (ys : List ℕ). k ∷ ys) (insert-put j p rest a.1 s.1)
      ∙ sym (cond-false (text_below (key_in es j) (key_in es k)) (j ∷ k ∷ rest) (k ∷ put_place es j rest)
      (text_below-back (key_in es k) (key_in es j) s.0))

  module _ (apart : KeysApart es) (xs : List ℕ) (within : (i : ℕ) → stands_in xs i ≡ true → i < length es) (once : (i : ℕ) → times i xs ≤ 1)
      (at d : ℕ) (l : at < length xs) where
    abbrev place : ℕ
    place = slice_index_or xs at d

    others : AllByRecursion (IsApart es place) (take at xs)
    others = all-among (IsApart es place) (take at xs) (λ k t.
        differ es apart k place (within k (take-stands at k xs t)) (within place (stands-at xs at d l)) (another k t))
      where
        another : (k : ℕ) → stands_in (take at xs) k ≡ true → k ≡ place → ⊥
        another k t e =
            let n = once k in
            let both = times-front k at d xs l in
            let o = ap one_if (eq-eqb place k (sym e)) in
            let p = ltb-true 0 (times k (take at xs)) (sym (stands-times k (take at xs)) ∙ t) in
            omega (arith, n, both, o, p)

    -- the point among those before the place was found where it was out
    pub point-found : (rest : List ℕ) (out p : ℕ) → rest ≡ remove xs at → out ≡ place → IsSplit es (key_in es out) p (take at rest)
        → IsSplit es (key_in es place) p (take at xs)
    point-found rest out p removed is s =
        subst (IsSplit es (key_in es place) p) (ap (take at) removed ∙ take-removed xs at)
        (subst (λ j. IsSplit es (key_in es j) p (take at rest)) is s)

    -- a place that goes to its key's point among those before it
    pub point-within : (p : ℕ) → IsSplit es (key_in es place) p (take at xs) → p ≤ at
    point-within p s =
        let m = split-within (key_in es place) p (take at xs) s in
        let n = take-within at xs in
        omega (arith, m, n)

    pub moved-ascends : (p : ℕ) → AscendAt es (take at xs) → IsSplit es (key_in es place) p (take at xs)
        → AscendAt es (take (at + 1) (insert (remove xs at) p place))
    moved-ascends p ascend s =
        let is = ap (λ n. take n (insert (remove xs at) p place)) (add-one at) ∙ take-inserted xs at p place (point-within p s) l in
        subst (AscendAt es) (sym (is ∙ insert-put place p (take at xs) others s)) (put-ascends es place (take at xs) others ascend)
