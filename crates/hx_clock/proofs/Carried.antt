-- All parts together have the history and nothing else.
use Rattle.std.proofs.Common.{◌≡◌, ◌≢◌, ℕ, zero, suc, ◌+◌, ◌<◌, ◌≤◌, inl, inr, ⊎_elim, Bool, true, false, cond, eqb}
use Rattle.std.proofs.Common.{List, [], ◌∷◌, ◌++◌, map, length, Some, slice_get, refl, ap, sym, subst, ◌∙◌, arith}
use Rattle.std.proofs.Common.{add-zero, zero-add, get_or}
use Rattle.std.specs.Prelude.{flat_map, IsPermutation, slice_index}
use Rattle.std.specs.List.{AllByRecursion, Contains, IsDistinct}
use Rattle.std.specs.List.Sorted.{IsStrictlyIncreasing}
use Rattle.std.proofs.lemmas.Bool.Decides.{eqb_tells, nat_tests}
use Rattle.std.proofs.lemmas.List.Sorted.{IsPermutation-refl, IsPermutation-trans, IsPermutation-sym}
use Rattle.std.proofs.lemmas.List.Sorted.{IsPermutation-middle, IsPermutation-append_right, IsPermutation-cons}
use Rattle.std.proofs.lemmas.List.Sorted.{IsPermutation-map, length_permutation, Contains-permutation}
use Rattle.std.proofs.lemmas.Map.Keys.{IsDistinct-IsPermutation}
use Rattle.std.proofs.Math.Logic.{∥∥₁_map}
use Rattle.hx_types.specs.declared.traces.Entry.{Entry}
use Rattle.hx_types.specs.declared.messages.Post.{Post}
use Rattle.hx_types.specs.declared.messages.PostId.{PostId}
use Rattle.hx_types.specs.Words.{below, IsIn}
use Rattle.hx_clock.specs.declared.parts.Stamped.{Stamped}
use Rattle.hx_clock.specs.declared.view.NumberedPart.{NumberedPart}
use Rattle.hx_clock.specs.Parts.{all_of, stamped, stamps_of, DeliveryMeets, HasStampsBelow, IsCausal, IsPostedBefore, Posted}
use Rattle.hx_clock.specs.Rule.{part_from, part_in, Event, IsCausalHistory, IsPostedIn}
use Rattle.hx_clock.specs.Views.{one, times}
use Rattle.hx_clock.proofs.Lists.{each_all, each_map}
use Rattle.hx_clock.proofs.Histories.{meets_more, one-same}

-- the history with its stamps
abbrev pub history_from : ℕ → List Event → List Stamped
history_from n [] = []
history_from n (t ∷ ts) = stamped n t.entry ∷ history_from (suc n) ts

plus-other : (b : ℕ) (s : Stamped) (R : ℕ → List Stamped) (ps : List NumberedPart) → times b ps ≡ 0
    → flat_map (λ p. cond (eqb p.number b) (s ∷ R p.number) (R p.number)) ps ≡ flat_map (λ p. R p.number) ps
plus-other b s R [] e = refl
plus-other b s R (p ∷ ps) e =
    ⊎_elim
    (λ (h : (eqb p.number b ≡ true) × (p.number ≡ b)). let o = one-same b p.number (sym h.1) in absurd (omega arith))
    (λ (h : (eqb p.number b ≡ false) × (p.number ≢ b)).
    ap (λ c. cond c (s ∷ R p.number) (R p.number) ++ flat_map (λ p. cond (eqb p.number b) (s ∷ R p.number) (R p.number)) ps) h.0
    ∙ ap (λ w. R p.number ++ w) (plus-other b s R ps (omega arith)))
    (eqb_tells p.number b)

plus-own : (b : ℕ) (s : Stamped) (R : ℕ → List Stamped) (ps : List NumberedPart) → times b ps ≡ 1
    → IsPermutation (s ∷ flat_map (λ p. R p.number) ps) (flat_map (λ p. cond (eqb p.number b) (s ∷ R p.number) (R p.number)) ps)
plus-own b s R [] e = absurd (omega arith)
plus-own b s R (p ∷ ps) e =
    let P : Bool → Type 0 = λ c. IsPermutation (s ∷ (R p.number ++ flat_map (λ p. R p.number) ps))
    (cond c (s ∷ R p.number) (R p.number) ++ flat_map (λ p. cond (eqb p.number b) (s ∷ R p.number) (R p.number)) ps) in
    ⊎_elim
    (λ (h : (eqb p.number b ≡ true) × (p.number ≡ b)).
    let o = one-same b p.number (sym h.1) in
    subst P (sym h.0) (subst (λ w. IsPermutation (s ∷ (R p.number ++ flat_map (λ p. R p.number) ps))
    (s ∷ (R p.number ++ w))) (sym (plus-other b s R ps (omega arith))) (IsPermutation-refl _)))
    (λ (h : (eqb p.number b ≡ false) × (p.number ≢ b)).
    let z : one (eqb b p.number) ≡ 0 = grind (arith, nat_tests) in
    subst P (sym h.0)
    (IsPermutation-trans _ _ _
    (IsPermutation-sym _ _ (IsPermutation-middle (R p.number) s (flat_map (λ p. R p.number) ps)))
    (IsPermutation-append_right (R p.number) _ _ (plus-own b s R ps (omega arith)))))
    (eqb_tells p.number b)

no-parts-from : (n : ℕ) (ps : List NumberedPart) → flat_map (λ (p : NumberedPart). part_from p.number n []) ps ≡ []
no-parts-from n [] = refl
no-parts-from n (p ∷ ps) = no-parts-from n ps

-- the parts have the history and nothing else
all_parts : (n : ℕ) (history : List Event) (ps : List NumberedPart) → AllByRecursion (λ t. times t.by ps ≡ 1) history
    → IsPermutation (history_from n history) (flat_map (λ p. part_from p.number n history) ps)
all_parts n [] ps h = subst (IsPermutation []) (sym (no-parts-from n ps)) (IsPermutation-refl [])
all_parts n (t ∷ ts) ps h =
    IsPermutation-trans _ _ _ (IsPermutation-cons (stamped n t.entry) _ _ (all_parts (suc n) ts ps h.1))
    (plus-own t.by (stamped n t.entry) (λ k. part_from k (suc n) ts) ps h.0)

same_parts : (history : List Event) (ps : List NumberedPart)
    → AllByRecursion (λ p. p.entries ≡ part_in p.number history) ps
    → flat_map (λ part. part) (map (λ (p : NumberedPart). p.entries) ps) ≡ flat_map (λ p. part_in p.number history) ps
same_parts history [] h = refl
same_parts history (p ∷ ps) h = ap (λ w. w ++ flat_map (λ part. part) (map (λ (p : NumberedPart). p.entries) ps)) h.0
    ∙ ap (λ w. part_in p.number history ++ w) (same_parts history ps h.1)

contains_in : {A : Type 0} (xs : List A) (x : A) (k : ℕ) → k < length xs → get_or xs k x ≡ x → IsIn x xs
contains_in [] x k h e = absurd (omega arith)
contains_in (y ∷ xs) x zero h e = inl (sym e)
contains_in (y ∷ xs) x (suc k) h e = inr (contains_in xs x k (omega arith) e)

in_contains : {A : Type 0} (xs : List A) (x : A) → IsIn x xs → Contains xs x
in_contains [] x h = absurd h
in_contains (y ∷ xs) x h = ⊎_elim (λ e. (0, omega arith, sym e)) (λ r. let c = in_contains xs x r in (suc c.0, omega arith, c.2)) h

in_permutation : {A : Type 0} (xs ys : List A) (x : A) → IsPermutation xs ys → IsIn x xs → IsIn x ys
in_permutation xs ys x p h = let c = Contains-permutation xs ys x p (in_contains xs x h) in contains_in ys x c.0 c.1 c.2

history_in : (n m : ℕ) (history : List Event) (t : Event) → slice_get history m ≡ Some t → IsIn (stamped (n + m) t.entry) (history_from n history)
history_in n m [] t e = absurd cc
history_in n zero (u ∷ history) t e = let same : u ≡ t = cc in
    inl (sym (ap (λ k. stamped k u.entry) (sym (add-zero n)) ∙ ap (λ (w : Event). stamped (n + 0) w.entry) same))
history_in n (suc m) (u ∷ history) t e =
    let is : suc n + m ≡ n + suc m = omega arith in
    inr (subst (λ k. IsIn (stamped k t.entry) (history_from (suc n) history)) is (history_in (suc n) m history t e))

abbrev Placed : ℕ → List Event → Stamped → Type 0
Placed n history x = (m : ℕ) × (t : Event) × (slice_get history m ≡ Some t) × (x ≡ stamped (n + m) t.entry) × (m < length history)

in_history : (n : ℕ) (history : List Event) (x : Stamped) → IsIn x (history_from n history) → Placed n history x
in_history n [] x h = absurd h
in_history n (u ∷ history) x h =
    ⊎_elim (λ e. (0, u, refl, e ∙ ap (λ k. stamped k u.entry) (sym (add-zero n)), omega arith))
    (λ r.
    let c : Placed (suc n) history x = in_history (suc n) history x r in
    let is : suc n + c.0 ≡ n + suc c.0 = omega arith in
    (suc c.0, c.1, c.2, c.3 ∙ ap (λ k. stamped k c.1.entry) is, omega arith)) h

-- each is at least n, and above the one before it
abbrev Above : ℕ → List ℕ → Type 0
Above n [] = Unit {0}
Above n (x ∷ xs) = (n ≤ x) × Above (suc x) xs

above_less : (m n : ℕ) (xs : List ℕ) → m ≤ n → Above n xs → Above m xs
above_less m n [] le h = tt
above_less m n (x ∷ xs) le h = let a = h.0 in (omega arith, h.1)

rising : (n : ℕ) (xs : List ℕ) → Above n xs → IsStrictlyIncreasing xs
rising n [] h k lt = absurd (omega arith)
rising n (x ∷ []) h k lt = absurd (omega arith)
rising n (x ∷ y ∷ xs) h zero lt = let a = h.1.0 in omega arith
rising n (x ∷ y ∷ xs) h (suc k) lt =
    let a : slice_index (y ∷ xs) k < slice_index (y ∷ xs) (k + 1) = rising (suc x) (y ∷ xs) h.1 k (omega arith) in
    let is : suc (k + 1) ≡ suc k + 1 = omega arith in
    subst (λ j. slice_index (x ∷ y ∷ xs) (suc k) < slice_index (x ∷ y ∷ xs) j) is a

apart_from : (n x : ℕ) (xs : List ℕ) → x < n → Above n xs → AllByRecursion (λ y. eqb x y ≡ false) xs
apart_from n x [] lt h = tt
apart_from n x (y ∷ xs) lt h = let a = h.0 in (grind (arith, nat_tests), apart_from (suc y) x xs (omega arith) h.1)

differing : (n : ℕ) (xs : List ℕ) → Above n xs → IsDistinct eqb xs
unfolding IsDistinct
differing n [] h = tt
differing n (x ∷ xs) h = (apart_from (suc x) x xs (omega arith) h.1, differing (suc x) xs h.1)

above-case : (b : Bool) (n : ℕ) (e : Entry) (R : List Stamped) → Above (suc n) (stamps_of R) → Above n (stamps_of (cond b (stamped n e ∷ R) R))
above-case true n e R h = (omega arith, h)
above-case false n e R h = above_less n (suc n) (stamps_of R) (omega arith) h

part-above : (k n : ℕ) (history : List Event) → Above n (stamps_of (part_from k n history))
part-above k n [] = tt
part-above k n (t ∷ ts) = above-case (eqb k t.by) n t.entry _ (part-above k (suc n) ts)

history-above : (n : ℕ) (history : List Event) → Above n (stamps_of (history_from n history))
history-above n [] = tt
history-above n (t ∷ ts) = (omega arith, history-above (suc n) ts)

-- the stamps of the history are the numbers below its length
abbrev from : ℕ → ℕ → List ℕ
from n zero = []
from n (suc m) = n ∷ from (suc n) m

from-snoc : (n m : ℕ) → from n (suc m) ≡ from n m ++ (n + m) ∷ []
from-snoc n zero = ap (λ k. k ∷ []) (sym (add-zero n))
from-snoc n (suc m) = let e : suc n + m ≡ n + suc m = omega arith in ap (λ xs. n ∷ xs) (from-snoc (suc n) m ∙ ap (λ k. from (suc n) m ++ k ∷ []) e)

below-from : (n : ℕ) → below n ≡ from 0 n
below-from zero = refl
below-from (suc n) = ap (λ xs. xs ++ n ∷ []) (below-from n) ∙ sym (from-snoc 0 n ∙ ap (λ k. from 0 n ++ k ∷ []) (zero-add n))

stamps-from : (n : ℕ) (history : List Event) → stamps_of (history_from n history) ≡ from n (length history)
stamps-from n [] = refl
stamps-from n (t ∷ ts) = ap (λ xs. n ∷ xs) (stamps-from (suc n) ts)

ascending : (history : List Event) (ps : List NumberedPart)
    → AllByRecursion (λ p. p.entries ≡ part_in p.number history) ps
    → AllByRecursion (λ part. IsStrictlyIncreasing (stamps_of part)) (map (λ (p : NumberedPart). p.entries) ps)
ascending history [] h = tt
ascending history (p ∷ ps) h = (
  subst (λ part. IsStrictlyIncreasing (stamps_of part)) (sym h.0)
      (rising 0 _ (part-above p.number 0 history)),
  ascending history ps h.1,
)

under : (history : List Event) (xs : List Stamped) → IsPermutation (history_from 0 history) xs
    → (n : ℕ) (id : PostId) (p : Post) → IsPostedIn history n id p → IsPostedBefore xs n id p
under history xs perm n id p h =
    ∥∥₁_map h
    (λ (y : (m : ℕ) × (t : Event) × (m < n) × (slice_get history m ≡ Some t) × Posted (stamped m t.entry) id p).
    let at : IsIn (stamped (0 + y.0) y.1.entry) (history_from 0 history) = history_in 0 y.0 history y.1 y.3 in
    (stamped y.0 y.1.entry, in_permutation _ xs _ perm (subst (λ k. IsIn (stamped k y.1.entry) (history_from 0 history)) (zero-add y.0) at), y.2, y.4))

caused_parts : (history : List Event) (xs : List Stamped) → IsCausalHistory history
    → IsPermutation (history_from 0 history) xs → AllByRecursion (λ x. DeliveryMeets (IsPostedBefore xs x.stamp.0) x.entry) xs
caused_parts history xs caused perm =
    each_all _ xs
    (λ x i.
    let c : Placed 0 history x = in_history 0 history x (in_permutation xs _ x (IsPermutation-sym _ _ perm) i) in
    let e : stamped c.0 c.1.entry ≡ x = ap (λ k. stamped k c.1.entry) (sym (zero-add c.0)) ∙ sym c.3 in
    subst (λ x. DeliveryMeets (IsPostedBefore xs x.stamp.0) x.entry) e (meets_more c.1.entry _ _ (λ id p. under history xs perm c.0 id p) (caused c.0 c.1 c.2)))

-- parts that are whole, and among them each number once
module _ (history : List Event) (actors : ℕ) (ps : List NumberedPart) where
  abbrev pub AreWhole : Type 0
  AreWhole = AllByRecursion (λ p. p.entries ≡ part_in p.number history) ps
      × AllByRecursion (λ e. e.by < actors) history × ((k : ℕ) → k < actors → times k ps ≡ 1)

  pub whole-history : AreWhole → IsPermutation (history_from 0 history) (all_of (map (λ p. p.entries) ps))
  whole-history h =
      let once : AllByRecursion (λ t. times t.by ps ≡ 1) history = each_map _ _ history (λ t i lt. h.2 t.by lt) h.1 in
      subst (IsPermutation (history_from 0 history)) (sym (same_parts history ps h.0)) (all_parts 0 history ps once)

  pub whole-causal : AreWhole → IsCausalHistory history → IsCausal (map (λ p. p.entries) ps)
  whole-causal h causal =
      let perm = whole-history h in
      record {
        ascend = ascending history ps h.0;
        differ = IsDistinct-IsPermutation eqb (λ x y. grind (arith, nat_tests)) _ _ (IsPermutation-map _ _ _ perm) (differing 0 _ (history-above 0 history));
        caused = caused_parts history _ causal perm;
      }

  pub whole-stamps : AreWhole → HasStampsBelow (length history) (map (λ p. p.entries) ps)
  whole-stamps h =
      subst (λ xs. IsPermutation xs (stamps_of (all_of (map (λ (p : NumberedPart). p.entries) ps)))) (stamps-from 0 history ∙ sym (below-from (length history)))
      (IsPermutation-map (λ (x : Stamped). x.stamp.0) _ _ (whole-history h))

length-stamps : (xs : List Stamped) → length (stamps_of xs) ≡ length xs
length-stamps [] = refl
length-stamps (x ∷ xs) = omega (arith, length-stamps xs)

length-from : (n m : ℕ) → length (from n m) ≡ m
length-from n zero = refl
length-from n (suc m) = omega (arith, length-from (suc n) m)

-- there are as many entries as stamps
pub stamps-count : (n : ℕ) (parts : List (List Stamped)) → HasStampsBelow n parts → n ≡ length (all_of parts)
stamps-count n parts h =
    sym (length-from 0 n) ∙ ap length (sym (below-from n)) ∙ sym (length_permutation _ _ h) ∙ length-stamps (all_of parts)
