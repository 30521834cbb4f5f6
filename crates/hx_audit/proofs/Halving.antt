-- Halving: in a list that ascends by key, what has a key stands where the lower keys end.
use Rattle.std.proofs.Common.{◌≡◌, ℕ, zero, suc, ◌<◌, Bool, true, false, List, [], ◌∷◌, map, cond, length, get_or}
use Rattle.std.proofs.Common.{Option, None, Some, refl, sym, ap, ◌∙◌, arith}
use Rattle.std.proofs.lemmas.Bool.{cond-false, cond-true, false_from_ne_true, false≢true}
use Rattle.std.specs.List.{AllWithin, find, slice_get}
use Rattle.std.specs.List.Sorted.{IsPartitionedBy}
use Rattle.std.specs.Option.{option_map}
use Rattle.hx_types.specs.Words.{when_some}
use Rattle.hx_report_lines.specs.Values.{AscendsFrom}
use Rattle.hx_audit.specs.Walking.{place_where}

-- what passes a test first stands at its place
pub found_at_place : {A : Type 0} (test : A → Bool) (xs : List A) → find test xs ≡ when_some (place_where test xs) None (slice_get xs)
found_at_place test [] = refl
found_at_place {A} test (x ∷ xs) = by (found_at_place test xs) (test x)
  where
    further : (o : Option ℕ) → find test xs ≡ when_some o None (slice_get xs) → find test xs ≡ when_some (option_map (λ n. suc n) o) None (slice_get (x ∷ xs))
    further None e = e
    further (Some n) e = e

    by : find test xs ≡ when_some (place_where test xs) None (slice_get xs) → (b : Bool)
        → cond b (Some x) (find test xs) ≡ when_some (cond b (Some 0) (option_map (λ n. suc n) (place_where test xs)))
        None (slice_get (x ∷ xs))
    by e true = refl
    by e false = further (place_where test xs) e

-- where no item passes, there is no place
pub no_place : {A : Type 0} (test : A → Bool) (xs : List A) → ((k : ℕ) (x : A) → slice_get xs k ≡ Some x → test x ≡ false) → place_where test xs ≡ None
no_place test [] none = refl
no_place test (x ∷ xs) none =
    cond-false (test x) (Some 0) (option_map (λ n. suc n) (place_where test xs)) (none zero x refl)
    ∙ ap (option_map (λ n. suc n)) (no_place test xs (λ k. none (suc k)))

module _ {A K : Type 0} (key : A → K) (below same : K → K → Bool)
    (trans : (a b c : K) → below a b ≡ true → below b c ≡ true → below a c ≡ true)
    (differs : (a b : K) → below a b ≡ true → same a b ≡ false)
    (equal : (a b : K) → same a b ≡ true → a ≡ b) where
  -- the items after one stand above it
  pub above_all : (a : K) (xs : List A) → AscendsFrom below (Some a) (map key xs) → (k : ℕ) (x : A) → slice_get xs k ≡ Some x → below a (key x) ≡ true
  above_all a [] up k x e = absurd (cc)
  above_all a (y ∷ xs) up zero x e = let q : y ≡ x = cc in ap (λ (z : A). below a (key z)) (sym q) ∙ up.0
  above_all a (y ∷ xs) up (suc k) x e = trans a (key y) (key x) up.0 (above_all (key y) xs up.1 k x e)

  get : (xs : List A) (j : ℕ) (d : A) → j < length xs → slice_get xs j ≡ Some (get_or xs j d)
  get [] j d l = absurd (omega (arith, l))
  get (x ∷ xs) zero d l = refl
  get (x ∷ xs) (suc j) d l = get xs j d (omega (arith, l))

  -- keys below a key stand in front
  pub parted : (last : Option K) (xs : List A) → AscendsFrom below last (map key xs) → (c : K) → IsPartitionedBy (λ x. below (key x) c) xs
  parted last [] up c i j d le l b = absurd (omega (arith, l))
  parted last (x ∷ xs) up c zero zero d le l b = b
  parted last (x ∷ xs) up c zero (suc j) d le l b =
      trans (key x) (key (get_or xs j d)) c (above_all (key x) xs up.1 j (get_or xs j d) (get xs j d (omega (arith, l)))) b
  parted last (x ∷ xs) up c (suc i) zero d le l b = absurd (omega (arith, le))
  parted last (x ∷ xs) up c (suc i) (suc j) d le l b = parted (Some (key x)) xs up.1 c i j d (omega (arith, le)) (omega (arith, l)) b

  -- an item at that place with the key is the first that has it
  pub hit : (xs : List A) (c : K) (i : ℕ) → AllWithin (λ x. below (key x) c ≡ true) xs 0 i → (x : A)
      → slice_get xs i ≡ Some x → same (key x) c ≡ true → place_where (λ y. same (key y) c) xs ≡ Some i
  hit [] c i low x e s = absurd (cc)
  hit (y ∷ xs) c zero low x e s =
      let q : y ≡ x = cc in
      cond-true (same (key y) c) (Some 0) (option_map (λ n. suc n) (place_where (λ y. same (key y) c) xs)) (ap (λ (z : A). same (key z) c) q ∙ s)
  hit (y ∷ xs) c (suc i) low x e s =
      cond-false (same (key y) c) (Some 0) (option_map (λ n. suc n) (place_where (λ y. same (key y) c) xs))
      (differs (key y) c (low zero y (omega arith) (omega arith)))
      ∙ ap (option_map (λ n. suc n)) (hit xs c i (λ k d a b. low (suc k) d (omega arith) (omega (arith, b))) x e s)

  -- where the item at that place hasn't the key, none has
  pub miss : (last : Option K) (xs : List A) → AscendsFrom below last (map key xs) → (c : K) (i : ℕ)
      → AllWithin (λ x. below (key x) c ≡ true) xs 0 i → AllWithin (λ x. below (key x) c ≡ false) xs i (length xs)
      → ((x : A) → slice_get xs i ≡ Some x → same (key x) c ≡ false) → place_where (λ y. same (key y) c) xs ≡ None
  miss last [] up c i low high none = refl
  miss last (y ∷ xs) up c zero low high none =
      cond-false (same (key y) c) (Some 0) (option_map (λ n. suc n) (place_where (λ y. same (key y) c) xs)) (none y refl)
      ∙ ap (option_map (λ n. suc n))
      (no_place (λ z. same (key z) c) xs
      (λ k x e. false_from_ne_true (same (key x) c)
      (λ s. false≢true (sym (high zero y (omega arith) (omega arith))
      ∙ ap (below (key y)) (sym (equal (key x) c s)) ∙ above_all (key y) xs up.1 k x e))))
  miss last (y ∷ xs) up c (suc i) low high none =
      cond-false (same (key y) c) (Some 0) (option_map (λ n. suc n) (place_where (λ y. same (key y) c) xs))
      (differs (key y) c (low zero y (omega arith) (omega arith)))
      ∙ ap (option_map (λ n. suc n))
      (miss (Some (key y)) xs up.1 c i (λ k d a b. low (suc k) d (omega arith) (omega (arith, b)))
      (λ k d a b. high (suc k) d (omega (arith, a)) (omega (arith, b))) none)

  -- the place of the key is where the lower keys end, if what stands there has it
  pub at_point : (last : Option K) (xs : List A) → AscendsFrom below last (map key xs) → (c : K) (i : ℕ)
      → AllWithin (λ x. below (key x) c ≡ true) xs 0 i → AllWithin (λ x. below (key x) c ≡ false) xs i (length xs)
      → (b : Bool) → when_some (slice_get xs i) false (λ x. same (key x) c) ≡ b → place_where (λ y. same (key y) c) xs ≡ cond b (Some i) None
  at_point last xs up c i low high false e = miss last xs up c i low high (λ x q. ap (λ o. when_some o false (λ x. same (key x) c)) (sym q) ∙ e)
  at_point last xs up c i low high true e = by (slice_get xs i) refl e
    where
      by : (o : Option A) → slice_get xs i ≡ o → when_some o false (λ x. same (key x) c) ≡ true → place_where (λ y. same (key y) c) xs ≡ Some i
      by None q t = absurd (false≢true t)
      by (Some x) q t = hit xs c i low x q t

  -- an item with the key is the first that has it, wherever it stands
  only : (last : Option K) (xs : List A) → AscendsFrom below last (map key xs) → (c : K) (i : ℕ) (x : A)
      → slice_get xs i ≡ Some x → same (key x) c ≡ true → place_where (λ y. same (key y) c) xs ≡ Some i
  only last [] up c i x e s = absurd (cc)
  only last (y ∷ xs) up c zero x e s =
      let q : y ≡ x = cc in
      cond-true (same (key y) c) (Some 0) (option_map (λ n. suc n) (place_where (λ y. same (key y) c) xs)) (ap (λ (z : A). same (key z) c) q ∙ s)
  only last (y ∷ xs) up c (suc i) x e s =
      cond-false (same (key y) c) (Some 0) (option_map (λ n. suc n) (place_where (λ y. same (key y) c) xs))
      (differs (key y) c (sym (ap (below (key y)) (equal (key x) c s)) ∙ above_all (key y) xs up.1 i x e))
      ∙ ap (option_map (λ n. suc n)) (only (Some (key y)) xs up.1 c i x e s)

  -- whatever stands at a place and has the key stands at the place of the key
  pub at_any : (last : Option K) (xs : List A) → AscendsFrom below last (map key xs) → (c : K) (i : ℕ)
      → when_some (slice_get xs i) false (λ x. same (key x) c) ≡ true → place_where (λ y. same (key y) c) xs ≡ Some i
  at_any last xs up c i e = by (slice_get xs i) refl e
    where
      by : (o : Option A) → slice_get xs i ≡ o → when_some o false (λ x. same (key x) c) ≡ true → place_where (λ y. same (key y) c) xs ≡ Some i
      by None q t = absurd (false≢true t)
      by (Some x) q t = only last xs up c i x q t
