-- What the merge of stretches gives.
use Rattle.std.proofs.Common.{cond, ◌≡◌, ℕ, ◌+◌, Bool, true, false, List, [], ◌∷◌, ◌++◌, map, flat_map, length, eqb}
use Rattle.std.proofs.Common.{Option, refl, ap, sym, subst, ◌∙◌, arith, append-nil}
use Rattle.std.specs.Prelude.{nat_lt, slice_index_or, IsPermutation, All}
use Rattle.std.specs.Cmp.{IsStrictWeakOrder}
use Rattle.std.specs.Ordering.{is_lt, nat_cmp}
use Rattle.std.specs.declared.cmp.Ordering.TheVariants.{Less, Equal, Greater}
use Rattle.std.specs.Iterator.{AlwaysYields, DrainsIf, YieldsFirst}
use Rattle.std.specs.Iterator.Runs.{Run, WholeRun, EveryRun, ItemsAre}
use Rattle.std.specs.List.{AllByRecursion}
use Rattle.std.specs.List.Sorted.{IsSortedBy, IsStrictlyIncreasing}
use Rattle.std.specs.Vec.Iter.{into_iter_items, into_iter_steps}
use Rattle.std.specs.declared.vec.IntoIter.{IntoIter}
use Rattle.std.proofs.lemmas.Bool.Decides.{nat_tests}
use Rattle.std.proofs.lemmas.List.Elements.{All-cons, All-nil}
use Rattle.std.proofs.lemmas.List.MinMax.{IsStrictWeakOrder-by_number}
use Rattle.std.proofs.lemmas.List.Sorted.{IsPermutation-map, IsPermutation-sym}
use Rattle.std.proofs.lemmas.Map.Keys.{IsDistinct-IsPermutation}
use Rattle.itertools.specs.KMerge.{SourcesGive, MergeGivesAll, MergeInOrder, kmerge_steps}
use Rattle.itertools.specs.declared.kmerge_impl.KMergeBy.{KMergeBy}
use Rattle.itertools.proofs.KMergeLemmas.{flat-permutation}
use Rattle.hx_clock.specs.declared.parts.Stamped.{Stamped}
use Rattle.hx_clock.specs.Parts.{all_of, stamps_of, IsCausal}
use Rattle.hx_clock.proofs.Lemmas.{each_all, each_in}
use Rattle.hx_law_threads.proofs.Lemmas.{in_permuted, map_append}
use Rattle.hx_law_threads.specs.Merged.{IsMerged}
use Rattle.hx_trace.specs.Places.{IsPlaceIn, stamped_at}
use Rattle.hx_gather.specs.Stretches.{numbered, places_in, stretches_from, stretches_of, ArePlaces, StretchSeen}
use Rattle.hx_gather.proofs.Stretched.{all_entries, all_from, all_stretches, both_all, entries_in, IsStretchOf}
use Rattle.hx_gather.proofs.Ordered.{by_stamp, entries_rise, sorted_stretches}

-- ---- sources that are seen as lists

-- the list is what comes from it
list_gives : {A : Type 0} (xs s : List A) → s ≡ xs → AlwaysYields (YieldsFirst (λ (l : List A). l)) (λ x. x) s xs
list_gives [] s e = λ x j h. let none = ap length (sym h ∙ e) in absurd (omega (arith, none))
list_gives (y ∷ ys) s e = (
  (λ j h. let none = ap length (sym h.0 ∙ e) in absurd (omega (arith, none))),
  (λ x j h. (cc (h, e), list_gives ys j (cc (h, e)))),
)

sources_give : {A : Type 0} (us : List (List A)) → SourcesGive (λ (s r : List A). r ≡ s) (YieldsFirst (λ (l : List A). l)) us us
sources_give [] = tt
sources_give (u ∷ us) = ((λ j g. list_gives u j g), sources_give us)

module _ {I U S F Z A : Type 0} (outer : I → Option U → I → Type 0) (it : I) (gives : U → S → Type 0)
    (steps : S → Option A → S → Type 0) (computes : F → (A → A → Bool) → Type 0)
    (m : KMergeBy S F Z A) (us : List U) (lists : List (List A)) (xs : List A)
    (read : (p : Run outer) → p.from ≡ it → p.whole ≡ true → p.items ≡ us) (src : SourcesGive gives steps us lists)
    (drained : DrainsIf (kmerge_steps steps computes) (Unit {0}) m xs) where
  merged_items : WholeRun outer it (λ p. (ls : List (List A)) → SourcesGive gives steps p.items ls
      → MergeGivesAll steps computes m ls) → IsPermutation (flat_map (λ l. l) lists) xs
  merged_items run =
      let ps = subst (λ us. SourcesGive gives steps us lists) (sym (read run.0 run.1 run.2)) src in
      let w = run.3 lists ps xs true (drained.0, drained.1, λ _. drained.2 tt) in
      subst (IsPermutation (flat_map (λ l. l) lists)) (ap (λ r. xs ++ r) (w.2 refl) ∙ append-nil xs) w.1

  merged_order : (lt : A → A → Bool) → WholeRun outer it
      (λ p. IsStrictWeakOrder lt → (ls : List (List A)) → SourcesGive gives steps p.items ls → All (IsSortedBy lt) ls
      → MergeInOrder steps computes lt m)
      → IsStrictWeakOrder lt → All (IsSortedBy lt) lists → IsSortedBy lt xs
  merged_order lt run order sorted =
      let ps = subst (λ us. SourcesGive gives steps us lists) (sym (read run.0 run.1 run.2)) src in
      run.3 order lists ps sorted xs true (drained.0, drained.1, λ _. drained.2 tt)

-- ---- the merge of the stretches of parts
sorted_lists : (n : ℕ) (ps : List (List Stamped)) → AllByRecursion (λ part. IsStrictlyIncreasing (stamps_of part)) ps
    → All (IsSortedBy by_stamp) (numbered (λ place part. stretches_from place 0 part) n ps)
sorted_lists n [] h = All-nil (IsSortedBy by_stamp)
sorted_lists n (p ∷ ps) h =
    All-cons (IsSortedBy by_stamp) (stretches_from n 0 p)
    (numbered (λ place part. stretches_from place 0 part) (n + 1) ps) (sorted_stretches n p h.0) (sorted_lists (n + 1) ps h.1)

-- stretches in the order of their stamps, each once, are seen as places of all entries
each_place : (parts : List (List Stamped)) (ss : List StretchSeen) → AllByRecursion (IsStretchOf parts) ss
    → AllByRecursion (IsPlaceIn parts) (flat_map places_in ss)
each_place parts [] w = tt
each_place parts (s ∷ ss) w = both_all (IsPlaceIn parts) (places_in s) (flat_map places_in ss) w.0.places (each_place parts ss w.1)

places_found : (parts : List (List Stamped)) (ss : List StretchSeen) → AllByRecursion (IsStretchOf parts) ss
    → map (stamped_at parts) (flat_map places_in ss) ≡ entries_in ss
places_found parts [] w = refl
places_found parts (s ∷ ss) w =
    let rest = places_found parts ss w.1 in
    map_append (stamped_at parts) (places_in s) (flat_map places_in ss) ∙ (λ i. w.0.found i ++ rest i)

are_places : (parts : List (List Stamped)) (ss : List StretchSeen) → IsCausal parts
    → IsPermutation (all_from 0 parts) ss → IsSortedBy by_stamp ss → ArePlaces (flat_map places_in ss) parts
are_places parts ss causal perm up =
    let each : AllByRecursion (IsStretchOf parts) (all_from 0 parts) =
    all_stretches parts 0 parts (λ k lt. let z : 0 + k ≡ k = omega arith in ap (λ n. slice_index_or parts n []) z) in
    let w : AllByRecursion (IsStretchOf parts) ss =
    each_all (IsStretchOf parts) ss (λ s i. each_in (IsStretchOf parts) (all_from 0 parts) s each
    (in_permuted ss (all_from 0 parts) s (IsPermutation-sym _ _ perm) i)) in
    let all : IsPermutation (all_of parts) (entries_in ss) =
    subst (λ l. IsPermutation l (entries_in ss)) (all_entries 0 parts)
    (flat-permutation (λ (s : StretchSeen). s.entries) (all_from 0 parts) ss perm) in
    let differ = IsDistinct-IsPermutation eqb (λ x y. grind (arith, nat_tests)) _ _ (IsPermutation-map (λ (x : Stamped). x.stamp.0) _ _ all) causal.differ in
    record {
      each = each_place parts ss w;
      merged = subst (IsMerged parts) (sym (places_found parts ss w)) (record { all = all; by_stamp = entries_rise parts ss w up differ });
    }

module _ {Y F W : Type 0} (computes : F → (StretchSeen → StretchSeen → Bool) → Type 0) (parts : List (List Stamped))
    (it : IntoIter (List StretchSeen) Y) (m n : KMergeBy (List StretchSeen) F W StretchSeen)
    (xs : List StretchSeen) (lt : StretchSeen → StretchSeen → Bool) where
  abbrev steps : List StretchSeen → Option StretchSeen → List StretchSeen → Type 0
  steps = YieldsFirst (λ (l : List StretchSeen). l)

  pub merges : IsCausal parts → into_iter_items it ≡ stretches_of parts
      → EveryRun into_iter_steps (λ (p : Run (into_iter_steps {X = List StretchSeen} {Z = Y})). ItemsAre p
      (into_iter_items p.from))
      → ((x y : StretchSeen) → lt x y ≡ by_stamp x y)
      → WholeRun into_iter_steps it (λ p. (ls : List (List StretchSeen))
      → SourcesGive (λ (s r : List StretchSeen). r ≡ s) steps p.items ls → MergeGivesAll steps computes m ls)
      → WholeRun into_iter_steps it (λ p. IsStrictWeakOrder lt → (ls : List (List StretchSeen))
      → SourcesGive (λ (s r : List StretchSeen). r ≡ s) steps p.items ls → All (IsSortedBy lt) ls
      → MergeInOrder steps computes lt m)
      → n ≡ m → DrainsIf (kmerge_steps steps computes) (Unit {0}) n xs → ArePlaces (flat_map places_in xs) parts
  merges causal is runs same items order begins started =
      let drained = subst (λ m. DrainsIf (kmerge_steps steps computes) (Unit {0}) m xs) begins started in
      let read : (p : Run (into_iter_steps {X = List StretchSeen} {Z = Y})) → p.from ≡ it → p.whole ≡ true
      → p.items ≡ stretches_of parts = λ p from whole. (runs p p.seen).4 whole ∙ ap into_iter_items from ∙ is in
      let src = sources_give (stretches_of parts) in
      let alike : by_stamp ≡ lt = λ i x y. sym (same x y) i in
      let perm = merged_items into_iter_steps it (λ (s r : List StretchSeen). r ≡ s) steps computes m
      (stretches_of parts) (stretches_of parts) xs read src drained items in
      let up = merged_order into_iter_steps it (λ (s r : List StretchSeen). r ≡ s) steps computes m
      (stretches_of parts) (stretches_of parts) xs read src drained lt order
      (subst IsStrictWeakOrder alike (IsStrictWeakOrder-by_number (λ (s : StretchSeen). s.stamp)))
      (subst (λ lt. All (IsSortedBy lt) (stretches_of parts)) alike (sorted_lists 0 parts causal.ascend)) in
      are_places parts xs causal perm (subst (λ lt. IsSortedBy lt xs) (sym alike) up)

equal-case : (c : Bool) → is_lt (cond c Equal Greater) ≡ false
equal-case true = refl
equal-case false = refl

less-case : (b c : Bool) → is_lt (cond b Less (cond c Equal Greater)) ≡ b
less-case true c = refl
less-case false c = equal-case c

-- the order of two stamps, as `<` computes it
pub is_less : (x y : ℕ) → is_lt (nat_cmp x y) ≡ nat_lt x y
is_less x y = less-case (nat_lt x y) (eqb x y)
