-- The run of a term, and what is found in it.
use Rattle.std.proofs.Common.{◌≡◌, ℕ, zero, suc, ◌+◌, ◌-◌, ◌<◌, ◌≤◌, Bool, true, false, ◌&&◌, cond, List, [], ◌∷◌}
use Rattle.std.proofs.Common.{length, take, drop, slice_index_or, slice_range, get_or, ℤ, Option, Some, None, refl, ap}
use Rattle.std.proofs.Common.{sym, ◌∙◌, arith, leb, ltb}
use Rattle.std.specs.List.{filter, list_all}
use Rattle.std.specs.Int.Signed.{le_z}
use Rattle.std.specs.Cmp.Lexicographic.{nat_list_cmp_total, slice_cmp, texts_ties}
use Rattle.std.specs.Ordering.{int_cmp, is_eq, nat_cmp, ordering_reverse}
use Rattle.std.specs.declared.cmp.Ordering.{Ordering}
use Rattle.std.specs.declared.cmp.Ordering.TheVariants.{Less, Equal, Greater}
use Rattle.std.proofs.lemmas.Int.{ints}
use Rattle.std.proofs.lemmas.Bool.{and_parts, cond_both, cond-false, cond-true, false_from_ne_true, false≢true, le-leb, leb-true, lt-leb, lt-ltb, ltb-true}
use Rattle.hx_model.specs.Types.{Row, Term, Value}
use Rattle.hx_types.specs.declared.values.Value.TheVariants as a_value
use Rattle.hx_types.specs.declared.values.Term.TheVariants as a_term
use Rattle.hx_types.specs.Spaces.{attribute_of}
use Rattle.hx_types.specs.Words.{when_some}
use Rattle.hx_types.specs.Effects.{same_value, value_at}
use Rattle.hx_model.specs.Matching.{in_range, matches, term_holds}
use Rattle.hx_index.specs.declared.looking.Side.{Side}
use Rattle.hx_index.specs.declared.looking.Side.TheVariants.{Below, Meets, Above}
use Rattle.hx_index.specs.Invariant.{IsEnd, is_part}
use Rattle.hx_index.specs.Orders.{compare_values, value_of}
use Rattle.hx_index.specs.Runs.{IsRun}
use Rattle.hx_index.specs.Sides.{matches_at, meets_at, side_at, side_by, side_in, side_of, side_of_value}

abbrev is_meets : Side → Bool
is_meets Below = false
is_meets Meets = true
is_meets Above = false

-- a term holds exactly of the values among those that meet it
equal-ints : (m n : ℤ) → (le_z m n && le_z n m) ≡ is_eq (int_cmp n m)
equal-ints m n = grind (arith, ints)

by-eq : (o : Ordering) → is_eq (ordering_reverse o) ≡ is_meets (side_by o)
by-eq Less = refl
by-eq Equal = refl
by-eq Greater = refl

eq-meets : (o : Ordering) → is_eq o ≡ is_meets (side_by o)
eq-meets Less = refl
eq-meets Equal = refl
eq-meets Greater = refl

equal-meets : (v x : Value) → same_value v x ≡ is_meets (side_by (compare_values x v))
equal-meets (a_value.Text a) (a_value.Text b) = texts_ties a b ∙ ap is_eq (nat_list_cmp_total.antisymm a b) ∙ by-eq (slice_cmp nat_cmp b a)
equal-meets (a_value.Text a) (a_value.Int n) = refl
equal-meets (a_value.Int m) (a_value.Text b) = refl
equal-meets (a_value.Int m) (a_value.Int n) = equal-ints m n ∙ eq-meets (int_cmp n m)

range-meets : (lo hi : ℤ) (x : Value) → in_range lo hi x ≡ is_meets (side_in lo hi x)
range-meets lo hi (a_value.Text b) = refl
range-meets lo hi (a_value.Int n) = by (le_z lo n) (le_z n hi)
  where
    by : (a b : Bool) → (a && b) ≡ is_meets (cond a (cond b Meets Above) Below)
    by true true = refl
    by true false = refl
    by false b = refl

holds-meets : (term : Term) (r : Row) → term_holds r.key r.object term ≡ is_meets (side_of term (value_of (attribute_of term) r))
holds-meets (a_term.Equal a v) r = by (value_at r.key r.object a)
  where
    by : (o : Option Value) → when_some o false (same_value v) ≡ is_meets (when_some o Below (side_of_value (a_term.Equal a v)))
    by None = refl
    by (Some x) = equal-meets v x
holds-meets (a_term.Range a lo hi) r = by (value_at r.key r.object a)
  where
    by : (o : Option Value) → when_some o false (in_range lo hi) ≡ is_meets (when_some o Below (side_of_value (a_term.Range a lo hi)))
    by None = refl
    by (Some x) = range-meets lo hi x

pub meets-side : (rows : ℕ → Option Row) (term : Term) (i : ℕ) → meets_at rows term i ≡ is_meets (side_at rows term i)
meets-side rows term i = by (rows i)
  where
    by : (o : Option Row) → when_some o false (λ (r : Row). term_holds r.key r.object term)
        ≡ is_meets (when_some o Below (λ (r : Row). side_of term (value_of (attribute_of term) r)))
    by None = refl
    by (Some r) = holds-meets term r

-- where every term holds each one does
pub matches-meets : (rows : ℕ → Option Row) (terms : List Term) (k : ℕ) (term : Term) → k < length terms
    → term ≡ get_or terms k term → (i : ℕ) → matches_at rows terms i ≡ true → meets_at rows term i ≡ true
matches-meets rows terms k term l e i m = by (rows i) m
  where
    each : (r : Row) (ts : List Term) (k : ℕ) (d : Term) → k < length ts
        → list_all (term_holds r.key r.object) ts ≡ true → term_holds r.key r.object (get_or ts k d) ≡ true
    each r [] k d l h = absurd (omega arith)
    each r (t ∷ ts) zero d l h = (and_parts (term_holds r.key r.object t) _ h).0
    each r (t ∷ ts) (suc k) d l h = each r ts k d (omega arith) (and_parts (term_holds r.key r.object t) _ h).1

    by : (o : Option Row) → when_some o false (λ (r : Row). matches terms r.key r.object) ≡ true
        → when_some o false (λ (r : Row). term_holds r.key r.object term) ≡ true
    by None h = h
    by (Some r) h = ap (term_holds r.key r.object) e ∙ each r terms k term l h

-- the two ends of a run
pub run-ends : (rows : ℕ → Option Row) (term : Term) (order : List ℕ) (first end : ℕ)
    → IsEnd (λ i. is_part false (side_at rows term i)) order first
    → IsEnd (λ i. is_part true (side_at rows term i)) order end → IsRun rows term order first end
run-ends rows term order first end a b = record {
  within = within;
  ends = b.within;
  meets = λ k l. meets-side rows term (slice_index_or order k 0) ∙ at k l (side_at rows term (slice_index_or order k 0)) refl;
}
  where
    below-both : (s : Side) → is_part false s ≡ true → is_part true s ≡ true
    below-both Below e = refl
    below-both Meets e = refl
    below-both Above e = e

    within : first ≤ end
    within = cond_both (leb first end) true false (λ b. b ≡ leb first end → first ≤ end) (λ t e. leb-true first end t)
        (λ f e. absurd (crossed (lt-of f))) refl-of
      where
        lt-of : leb first end ≡ false → end < first
        lt-of f = cases (ltb end first) refl
          where
            cases : (c : Bool) → ltb end first ≡ c → end < first
            cases true q = ltb-true end first q
            cases false q = absurd (let no : end < first → ⊥ = λ l. false≢true (sym q ∙ lt-ltb end first l) in
                let no2 : first ≤ end → ⊥ = λ l. false≢true (sym f ∙ le-leb first end l) in omega (arith, no, no2))

        crossed : end < first → ⊥
        crossed l = false≢true (sym (b.from end (omega arith) (let w = a.within in omega (arith, w, l))) ∙ below-both _ (a.before end l))

        refl-of : cond (leb first end) true false ≡ leb first end
        refl-of = by (leb first end)
          where
            by : (c : Bool) → cond c true false ≡ c
            by true = refl
            by false = refl

    at : (k : ℕ) → k < length order → (s : Side) → side_at rows term (slice_index_or order k 0) ≡ s → is_meets s ≡ (leb first k && ltb k end)
    at k l Below e =
        let no : first ≤ k → ⊥ = λ m. false≢true (sym (a.from k m l) ∙ ap (is_part false) e) in
        sym (ap (λ c. c && ltb k end) (lt-leb first k (omega (arith, no))))
    at k l Meets e =
        let low : first ≤ k = (let no : k < first → ⊥ = λ m. false≢true (sym (ap (is_part false) e) ∙ a.before k m) in omega (arith, no)) in
        let high : k < end = (let no : end ≤ k → ⊥ = λ m. false≢true (sym (b.from k m l) ∙ ap (is_part true) e) in omega (arith, no)) in
        sym (λ i. le-leb first k low i && lt-ltb k end high i)
    at k l Above e =
        let past : end ≤ k = (let no : k < end → ⊥ = λ m. false≢true (sym (ap (is_part true) e) ∙ b.before k m) in omega (arith, no)) in
        sym (and-false (leb first k) (ltb k end) (false_from_ne_true (ltb k end) (λ t. let m = ltb-true k end t in omega (arith, m, past))))
      where
        and-false : (x y : Bool) → y ≡ false → (x && y) ≡ false
        and-false true y e = e
        and-false false y e = refl

-- a run is what the test leaves of its order
pub filter-part : (p : ℕ → Bool) (xs : List ℕ) (a n : ℕ) → a + n ≤ length xs
    → ((k : ℕ) → k < a → p (slice_index_or xs k 0) ≡ false)
    → ((k : ℕ) → a ≤ k → k < a + n → p (slice_index_or xs k 0) ≡ true)
    → ((k : ℕ) → a + n ≤ k → k < length xs → p (slice_index_or xs k 0) ≡ false) → filter p xs ≡ take n (drop a xs)
filter-part p [] zero zero l below among above = refl
filter-part p [] zero (suc n) l below among above = absurd (omega (arith, l))
filter-part p [] (suc a) n l below among above = absurd (omega (arith, l))
filter-part p (x ∷ xs) zero zero l below among above =
    cond-false (p x) (x ∷ filter p xs) (filter p xs) (above 0 (omega arith) (omega arith))
    ∙ filter-part p xs zero zero (omega arith) (λ k m. absurd (omega (arith, m))) (λ k m h. absurd (omega (arith, h)))
    (λ k m h. above (suc k) (omega arith) (omega arith))
filter-part p (x ∷ xs) zero (suc n) l below among above =
    cond-true (p x) (x ∷ filter p xs) (filter p xs) (among 0 (omega arith) (omega arith))
    ∙ ap (λ (ys : List ℕ). x ∷ ys) (filter-part p xs zero n (omega (arith, l)) (λ k m. absurd (omega (arith, m)))
    (λ k m h. among (suc k) (omega arith) (omega (arith, h))) (λ k m h. above (suc k) (omega (arith, m)) (omega (arith, h))))
filter-part p (x ∷ xs) (suc a) n l below among above =
    cond-false (p x) (x ∷ filter p xs) (filter p xs) (below 0 (omega arith))
    ∙ filter-part p xs a n (omega (arith, l)) (λ k m. below (suc k) (omega (arith, m)))
    (λ k m h. among (suc k) (omega (arith, m)) (omega (arith, h)))
    (λ k m h. above (suc k) (omega (arith, m)) (omega (arith, h)))

module _ (rows : ℕ → Option Row) (term : Term) (order : List ℕ) (first end : ℕ) (run : IsRun rows term order first end) where
  pub run-is : filter (meets_at rows term) order ≡ slice_range order first end
  run-is =
      let w = run.within in let e = run.ends in
      filter-part (meets_at rows term) order first (end - first) (omega (arith, w, e))
      (λ k l. run.meets k (omega (arith, l, w, e)) ∙ ap (λ c. c && ltb k end) (lt-leb first k l))
      (λ k l m. run.meets k (omega (arith, m, w, e)) ∙ (λ i. le-leb first k l i && lt-ltb k end (omega (arith, m, w)) i))
      (λ k l m. run.meets k m ∙ and-false (leb first k) (ltb k end) (false_from_ne_true (ltb k end) (λ t. let u = ltb-true k end t in omega (arith, u, l, w))))
    where
      and-false : (x y : Bool) → y ≡ false → (x && y) ≡ false
      and-false true y e = e
      and-false false y e = refl

  pub run-long : length (filter (meets_at rows term) order) ≡ end - first
  run-long = ap length run-is ∙ long (end - first) first order (let w = run.within in let e = run.ends in omega (arith, w, e))
    where
      long : (n a : ℕ) (xs : List ℕ) → a + n ≤ length xs → length (take n (drop a xs)) ≡ n
      long zero a xs l = refl
      long (suc n) zero [] l = absurd (omega (arith, l))
      long (suc n) zero (x ∷ xs) l = ap suc (long n zero xs (omega (arith, l)))
      long (suc n) (suc a) [] l = absurd (omega (arith, l))
      long (suc n) (suc a) (x ∷ xs) l = long (suc n) a xs (omega (arith, l))

-- what passes a narrower test passes the wider
pub filter-within : (q p : ℕ → Bool) → ((i : ℕ) → q i ≡ true → p i ≡ true) → (xs : List ℕ) → filter q xs ≡ filter q (filter p xs)
filter-within q p h [] = refl
filter-within q p h (x ∷ xs) = cond_both (p x) (x ∷ filter p xs) (filter p xs) (λ (l : List ℕ). cond (q x) (x ∷ filter q xs) (filter q xs) ≡ filter q l)
    (λ t. λ i. cond (q x) (x ∷ filter-within q p h xs i) (filter-within q p h xs i))
    (λ f. cond-false (q x) (x ∷ filter q xs) (filter q xs) (false_from_ne_true (q x) (λ t. false≢true (sym f ∙ h x t))) ∙ filter-within q p h xs)
