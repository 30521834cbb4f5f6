-- Stretches in the order of their first stamps are entries in the order of theirs.
use Rattle.std.proofs.Common.{◌≡◌, ℕ, zero, suc, ◌+◌, ◌<◌, ◌≤◌, ◌⊎◌, inl, inr, Bool, false, List, [], ◌∷◌, ◌++◌}
use Rattle.std.proofs.Common.{length, get_or, eqb, refl, ap, sym, subst, ◌∙◌, arith, true≢false}
use Rattle.std.specs.Prelude.{nat_lt, ⊤}
use Rattle.std.specs.List.{AllByRecursion, IsDistinct}
use Rattle.std.specs.List.Sorted.{IsSortedBy, IsStrictlyIncreasing}
use Rattle.std.proofs.lemmas.Bool.{cond_both, eq-eqb, le-ltb, ltb-false}
use Rattle.std.proofs.lemmas.Map.Keys.{IsDistinct-head, IsDistinct-tail, IsStrictlyIncreasing-from_distinct}
use Rattle.hx_types.specs.Words.{IsIn}
use Rattle.hx_clock.specs.declared.parts.Stamped.{Stamped}
use Rattle.hx_clock.specs.Parts.{stamps_of}
use Rattle.hx_clock.proofs.Lemmas.{each_in, in_left, in_right}
use Rattle.hx_law_threads.proofs.Lemmas.{in_append, map_append}
use Rattle.hx_gather.specs.Stretches.{begun_with, stretches_from, with_first, StretchSeen}
use Rattle.hx_gather.proofs.Stretched.{entries_in, IsFollowing, IsStretchOf}

abbrev pub by_stamp : StretchSeen → StretchSeen → Bool
by_stamp s t = nat_lt s.stamp t.stamp

-- ---- the stretches of a part ascend

-- the first stamps don't fall, and none is below n
abbrev Ascends : ℕ → List StretchSeen → Type 0
Ascends n [] = ⊤
Ascends n (s ∷ ss) = (n ≤ s.stamp) × Ascends s.stamp ss

-- the same of entries
abbrev Rises : ℕ → List Stamped → Type 0
Rises n [] = ⊤
Rises n (x ∷ xs) = (n ≤ x.stamp.0) × Rises x.stamp.0 xs

rises_rest : (x : Stamped) (xs : List Stamped) → IsStrictlyIncreasing (stamps_of (x ∷ xs)) → IsStrictlyIncreasing (stamps_of xs)
rises_rest x xs h = λ k lt. let next : suc k + 1 ≡ suc (k + 1) = omega arith in
    subst (λ i. get_or (stamps_of (x ∷ xs)) (suc k) 0 < get_or (stamps_of (x ∷ xs)) i 0) next (h (suc k) (omega (arith, lt)))

rises : (n : ℕ) (x : Stamped) (xs : List Stamped) → n ≤ x.stamp.0 → IsStrictlyIncreasing (stamps_of (x ∷ xs)) → Rises n (x ∷ xs)
rises n x [] le h = (le, tt)
rises n x (y ∷ ys) le h = let lt : x.stamp.0 < y.stamp.0 = h 0 (omega arith) in (le, rises x.stamp.0 y ys (omega (arith, lt)) (rises_rest x (y ∷ ys) h))

lower : (n m : ℕ) (ss : List StretchSeen) → n ≤ m → Ascends m ss → Ascends n ss
lower n m [] le h = tt
lower n m (s ∷ ss) le h = (omega (arith, le, h.0), h.1)

ascends_with : (n part at : ℕ) (x : Stamped) (ss : List StretchSeen) → n ≤ x.stamp.0 → Ascends x.stamp.0 ss → Ascends n (with_first part at x ss)
ascends_with n part at x [] le h = (le, tt)
ascends_with n part at x (s ∷ ss) le h =
    cond_both (eqb s.stamp (x.stamp.0 + 1)) (begun_with part at x s.entries ∷ ss) (begun_with part at x [] ∷ s ∷ ss)
    (Ascends n) (λ t. (le, lower x.stamp.0 s.stamp ss h.0 h.1)) (λ t. (le, h))

ascends : (n part at : ℕ) (xs : List Stamped) → Rises n xs → Ascends n (stretches_from part at xs)
ascends n part at [] h = tt
ascends n part at (x ∷ xs) h = ascends_with n part at x (stretches_from part (at + 1) xs) h.0 (ascends x.stamp.0 part (at + 1) xs h.1)

step_up : (n : ℕ) (ss : List StretchSeen) (k : ℕ) (d : StretchSeen) → Ascends n ss → suc k < length ss → (get_or ss k d).stamp ≤ (get_or ss (suc k) d).stamp
step_up n [] k d h lt = absurd (omega arith)
step_up n (s ∷ []) k d h lt = absurd (omega (arith, lt))
step_up n (s ∷ t ∷ ss) zero d h lt = h.1.0
step_up n (s ∷ t ∷ ss) (suc k) d h lt = step_up s.stamp (t ∷ ss) k d h.1 (omega (arith, lt))

sorted : (n : ℕ) (ss : List StretchSeen) → Ascends n ss → IsSortedBy by_stamp ss
sorted n ss h k d low lt =
    let next : suc k ≡ k + 1 = omega arith in
    le-ltb _ _ (subst (λ i. (get_or ss k d).stamp ≤ (get_or ss i d).stamp) next (step_up n ss k d h (omega (arith, lt))))

pub sorted_stretches : (part : ℕ) (xs : List Stamped) → IsStrictlyIncreasing (stamps_of xs) → IsSortedBy by_stamp (stretches_from part 0 xs)
sorted_stretches part [] h = sorted 0 [] tt
sorted_stretches part (x ∷ xs) h = sorted 0 (stretches_from part 0 (x ∷ xs)) (ascends 0 part 0 (x ∷ xs) (rises 0 x xs (omega arith) h))

-- ---- sorted stretches ascend
tail_sorted : (s : StretchSeen) (ss : List StretchSeen) → IsSortedBy by_stamp (s ∷ ss) → IsSortedBy by_stamp ss
tail_sorted s ss h = λ k d low lt. let next : suc k + 1 ≡ suc (k + 1) = omega arith in
    subst (λ i. by_stamp (get_or (s ∷ ss) i d) (get_or (s ∷ ss) (suc k) d) ≡ false) next
    (h (suc k) d (omega arith) (omega (arith, lt)))

ascending : (n : ℕ) (s : StretchSeen) (ss : List StretchSeen) → n ≤ s.stamp → IsSortedBy by_stamp (s ∷ ss) → Ascends n (s ∷ ss)
ascending n s [] le h = (le, tt)
ascending n s (t ∷ ss) le h = (le, ascending s.stamp t ss (ltb-false t.stamp s.stamp (h 0 s (omega arith) (omega arith))) (tail_sorted s (t ∷ ss) h))

all_ascend : (ss : List StretchSeen) → IsSortedBy by_stamp ss → Ascends 0 ss
all_ascend [] h = tt
all_ascend (s ∷ ss) h = ascending 0 s ss (omega arith) h

above : (n : ℕ) (ss : List StretchSeen) (t : StretchSeen) → Ascends n ss → IsIn t ss → n ≤ t.stamp
above n [] t h i = absurd i
above n (s ∷ ss) t h (inl e) = omega (arith, h.0, ap (λ (u : StretchSeen). u.stamp) e)
above n (s ∷ ss) t h (inr i) = let le = above s.stamp ss t h.1 i in omega (arith, h.0, le)

-- ---- stamps that don't fall
abbrev Ordered : List ℕ → Type 0
Ordered [] = ⊤
Ordered (n ∷ ns) = ((m : ℕ) → IsIn m ns → n ≤ m) × Ordered ns

in_at : (ns : List ℕ) (j d : ℕ) → j < length ns → IsIn (get_or ns j d) ns
in_at [] j d lt = absurd (omega arith)
in_at (n ∷ ns) zero d lt = inl refl
in_at (n ∷ ns) (suc j) d lt = inr (in_at ns j d (omega arith))

ordered_at : (ns : List ℕ) (i j d : ℕ) → Ordered ns → i ≤ j → j < length ns → get_or ns i d ≤ get_or ns j d
ordered_at [] i j d h le lt = absurd (omega arith)
ordered_at (n ∷ ns) zero zero d h le lt = omega arith
ordered_at (n ∷ ns) zero (suc j) d h le lt = h.0 (get_or ns j d) (in_at ns j d (omega arith))
ordered_at (n ∷ ns) (suc i) zero d h le lt = absurd (omega (arith, le))
ordered_at (n ∷ ns) (suc i) (suc j) d h le lt = ordered_at ns i j d h.1 (omega (arith, le)) (omega (arith, lt))

ordered_both : (ns ms : List ℕ) → Ordered ns → Ordered ms → ((n m : ℕ) → IsIn n ns → IsIn m ms → n ≤ m) → Ordered (ns ++ ms)
ordered_both [] ms h g c = g
ordered_both (n ∷ ns) ms h g c = (
  (λ m i. elim (in_append ns ms m i) [ inl j ↦ h.0 m j | inr j ↦ c n m (inl refl) j ]),
  ordered_both ns ms h.1 g (λ a b i j. c a b (inr i) j),
)

-- ---- the stamps of a stretch
follow_range : (n : ℕ) (xs : List Stamped) (m : ℕ) → IsFollowing n xs → IsIn m (stamps_of xs) → (n ≤ m) × (m < n + length xs)
follow_range n [] m h i = absurd i
follow_range n (x ∷ xs) m h (inl e) = (omega (arith, e, h.0), omega (arith, e, h.0))
follow_range n (x ∷ xs) m h (inr i) = let r = follow_range (n + 1) xs m h.1 i in (omega (arith, r.0), omega (arith, r.1))

equal_or_above : (n m : ℕ) → n ≤ m → (m ≡ n) ⊎ (n + 1 ≤ m)
equal_or_above zero zero le = inl refl
equal_or_above zero (suc m) le = inr (omega arith)
equal_or_above (suc n) zero le = absurd (omega (arith, le))
equal_or_above (suc n) (suc m) le = elim (equal_or_above n m (omega (arith, le))) [ inl e ↦ inl (ap suc e) | inr l ↦ inr (omega (arith, l)) ]

follow_has : (n : ℕ) (xs : List Stamped) (m : ℕ) → IsFollowing n xs → n ≤ m → m < n + length xs → IsIn m (stamps_of xs)
follow_has n [] m h le lt = absurd (omega (arith, le, lt))
follow_has n (x ∷ xs) m h le lt = elim (equal_or_above n m le) [ inl e ↦ inl (e ∙ sym h.0) | inr l ↦ inr (follow_has (n + 1) xs m h.1 l (omega (arith, lt))) ]

follow_ordered : (n : ℕ) (xs : List Stamped) → IsFollowing n xs → Ordered (stamps_of xs)
follow_ordered n [] h = tt
follow_ordered n (x ∷ xs) h = ((λ m i. let r = follow_range (n + 1) xs m h.1 i in omega (arith, r.0, h.0)), follow_ordered (n + 1) xs h.1)

-- ---- no stamp stands twice
distinct_rest : (ns ms : List ℕ) → IsDistinct eqb (ns ++ ms) → IsDistinct eqb ms
distinct_rest [] ms h = h
distinct_rest (n ∷ ns) ms h = distinct_rest ns ms (IsDistinct-tail eqb n (ns ++ ms) h)

apart : (ns ms : List ℕ) (m : ℕ) → IsDistinct eqb (ns ++ ms) → IsIn m ns → IsIn m ms → ⊥
apart [] ms m h i j = i
apart (n ∷ ns) ms m h (inl e) j =
    let differ : eqb n m ≡ false = each_in (λ k. eqb n k ≡ false) (ns ++ ms) m (IsDistinct-head eqb n (ns ++ ms) h) (in_right m ns ms j) in
    true≢false (sym (eq-eqb n m (sym e)) ∙ differ)
apart (n ∷ ns) ms m h (inr i) j = apart ns ms m (IsDistinct-tail eqb n (ns ++ ms) h) i j

of_entries : (ss : List StretchSeen) (m : ℕ) → IsIn m (stamps_of (entries_in ss)) → (t : StretchSeen) × IsIn t ss × IsIn m (stamps_of t.entries)
of_entries [] m i = absurd i
of_entries (s ∷ ss) m i =
    elim (in_append (stamps_of s.entries) (stamps_of (entries_in ss)) m
    (subst (IsIn m) (map_append (λ (x : Stamped). x.stamp.0) s.entries (entries_in ss)) i)) [
      | inl j ↦ (s, inl refl, j)
      | inr j ↦ (let r = of_entries ss m j in (r.0, inr r.1, r.2))
    ]

to_entries : (ss : List StretchSeen) (t : StretchSeen) (m : ℕ) → IsIn t ss → IsIn m (stamps_of t.entries) → IsIn m (stamps_of (entries_in ss))
to_entries [] t m i j = absurd i
to_entries (s ∷ ss) t m i j =
    subst (IsIn m) (sym (map_append (λ (x : Stamped). x.stamp.0) s.entries (entries_in ss)))
    (elim i [
      | inl e ↦ in_left m (stamps_of s.entries) (stamps_of (entries_in ss)) (subst (λ (u : StretchSeen). IsIn m (stamps_of u.entries)) e j)
      | inr k ↦ in_right m (stamps_of s.entries) (stamps_of (entries_in ss)) (to_entries ss t m k j)
    ])

at_most_or_above : (a b : ℕ) → (a ≤ b) ⊎ (b < a)
at_most_or_above zero b = inl (omega arith)
at_most_or_above (suc a) zero = inr (omega arith)
at_most_or_above (suc a) (suc b) = elim (at_most_or_above a b) [ inl l ↦ inl (omega (arith, l)) | inr l ↦ inr (omega (arith, l)) ]

-- no entry of a stretch has a stamp above one of a later stretch
before : (parts : List (List Stamped)) (s : StretchSeen) (ss : List StretchSeen) (n m : ℕ) → IsStretchOf parts s
    → AllByRecursion (IsStretchOf parts) ss → Ascends s.stamp ss
    → IsDistinct eqb (stamps_of s.entries ++ stamps_of (entries_in ss)) → IsIn n (stamps_of s.entries) → IsIn m (stamps_of (entries_in ss)) → n ≤ m
before parts s ss n m w ws up differ i j =
    let t = of_entries ss m j in
    let v = each_in (IsStretchOf parts) ss t.0 ws t.1 in
    let later = above s.stamp ss t.0 up t.1 in
    let own = follow_range s.stamp s.entries n w.follow i in
    let other = follow_range t.0.stamp t.0.entries m v.follow t.2 in
    elim (at_most_or_above n t.0.stamp) [
      | inl le ↦ omega (arith, le, other.0)
      | inr lt ↦ absurd
          (apart (stamps_of s.entries) (stamps_of (entries_in ss)) t.0.stamp differ
          (follow_has s.stamp s.entries t.0.stamp w.follow later (omega (arith, lt, own.1)))
          (to_entries ss t.0 t.0.stamp t.1 (follow_has t.0.stamp t.0.entries t.0.stamp v.follow (omega arith) (omega (arith, v.some)))))
    ]

ordered : (parts : List (List Stamped)) (n : ℕ) (ss : List StretchSeen) → AllByRecursion (IsStretchOf parts) ss
    → Ascends n ss → IsDistinct eqb (stamps_of (entries_in ss)) → Ordered (stamps_of (entries_in ss))
ordered parts n [] w up differ = tt
ordered parts n (s ∷ ss) w up differ =
    let seam = map_append (λ (x : Stamped). x.stamp.0) s.entries (entries_in ss) in
    let here = subst (IsDistinct eqb) seam differ in
    subst Ordered (sym seam)
    (ordered_both (stamps_of s.entries) (stamps_of (entries_in ss)) (follow_ordered s.stamp s.entries w.0.follow)
    (ordered parts s.stamp ss w.1 up.1 (distinct_rest (stamps_of s.entries) (stamps_of (entries_in ss)) here))
    (λ a b i j. before parts s ss a b w.0 w.1 up.1 here i j))

pub entries_rise : (parts : List (List Stamped)) (ss : List StretchSeen) → AllByRecursion (IsStretchOf parts) ss
    → IsSortedBy by_stamp ss → IsDistinct eqb (stamps_of (entries_in ss)) → IsStrictlyIncreasing (stamps_of (entries_in ss))
entries_rise parts ss w up differ =
    IsStrictlyIncreasing-from_distinct (stamps_of (entries_in ss))
    (λ i j d le lt. ordered_at (stamps_of (entries_in ss)) i j d
    (ordered parts 0 ss w (all_ascend ss up) differ) le lt) differ
