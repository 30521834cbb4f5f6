-- Places in byte order of their keys: one list for each set of places.
use Rattle.std.proofs.Common.{◌≡◌, ℕ, zero, suc, ◌+◌, ◌<◌, ◌≤◌, nat_lt, Bool, true, false, ◌||◌, cond, List, [], ◌∷◌}
use Rattle.std.proofs.Common.{length, get_or, inl, inr, refl, ap, sym, ◌∙◌, subst, arith, eqb}
use Rattle.std.specs.Prelude.{⊤}
use Rattle.std.specs.List.{AllByRecursion, IsDistinct, filter, sum_by}
use denote.Ref.{Bor}
use denote.Param.Members.{Mut}
use Rattle.std.specs.Cmp.{IsStrictWeakOrder}
use Rattle.std.specs.Cmp.Lexicographic.{nat_list_cmp_total, slice_cmp}
use Rattle.std.specs.Fn.{Called, ComparesAs}
use Rattle.std.specs.Ordering.{is_lt, nat_cmp}
use Rattle.std.specs.declared.cmp.Ordering.{Ordering}
use Rattle.std.proofs.lemmas.Fn.{always_returns_same}
use Rattle.std.specs.List.Sorted.{IsPermutation, IsSortedBy}
use Rattle.std.proofs.lemmas.Bool.{cases_eq, cond_both, eq-eqb, eqb-true, false≢true, false_from_ne_true, lt-ltb, ne_eqb, or_cases, or_left, or_right}
use Rattle.std.proofs.lemmas.List.Sums.{sum_by-cons}
use Rattle.std.proofs.lemmas.List.Sorted.{ranks_by, sum_by-IsPermutation}
use Rattle.hx_types.proofs.Lemmas.{text_below-apart, text_below-back, text_below-other, text_below-trans}
use Rattle.hx_types.specs.Words.{same_text, text_below, when_some}
use Rattle.hx_index.specs.Orders.{stands_in}
use Rattle.hx_store.specs.Invariant.{AscendAt, KeysApart, key_in}
use Rattle.hx_store.specs.Indexed.{one_if, times}
use Rattle.hx_store.specs.Slots.{Entry}
use Rattle.hx_store.proofs.Lists.{at-within}
use Rattle.hx_store.proofs.Order.{same-place}

-- whether it is this number
abbrev pub is-it : ℕ → ℕ → ℕ
is-it i j = one_if (eqb j i)

pub times-sum : (i : ℕ) (xs : List ℕ) → times i xs ≡ sum_by (is-it i) xs
times-sum i [] = refl
times-sum i (x ∷ xs) = ap (λ n. is-it i x + n) (times-sum i xs) ∙ sym (sum_by-cons (is-it i) x xs)

pub permuted-times : (xs ys : List ℕ) → IsPermutation xs ys → (i : ℕ) → times i ys ≡ times i xs
permuted-times xs ys p i = times-sum i ys ∙ sum_by-IsPermutation (is-it i) xs ys p ∙ sym (times-sum i xs)

pub stands-times : (i : ℕ) (xs : List ℕ) → stands_in xs i ≡ nat_lt 0 (times i xs)
stands-times i [] = refl
stands-times i (x ∷ xs) = by (eqb x i) (times i xs) (stands-times i xs)
  where
    by : (b : Bool) (n : ℕ) → stands_in xs i ≡ nat_lt 0 n → (b || stands_in xs i) ≡ nat_lt 0 (cond b 1 0 + n)
    by true n e = sym (lt-ltb 0 (1 + n) (omega arith))
    by false n e = (let z : n ≡ 0 + n = omega arith in e ∙ ap (nat_lt 0) z)

-- the same numbers in another order
pub permuted-stands : (xs ys : List ℕ) → IsPermutation xs ys → (i : ℕ) → stands_in ys i ≡ stands_in xs i
permuted-stands xs ys p i = stands-times i ys ∙ ap (nat_lt 0) (permuted-times xs ys p i) ∙ sym (stands-times i xs)

absent-times : (x : ℕ) (xs : List ℕ) → AllByRecursion (λ y. eqb x y ≡ false) xs → times x xs ≡ 0
absent-times x [] h = refl
absent-times x (y ∷ xs) h =
    let more = absent-times x xs h.1 in
    let one : is-it x y ≡ 0 = ap (λ (b : Bool). cond {A = ℕ} b 1 0) (ne_eqb y x (λ e. false≢true (sym h.0 ∙ eq-eqb x y (sym e)))) in
    omega (arith, more, one)

pub distinct-times : (xs : List ℕ) → IsDistinct eqb xs → (i : ℕ) → times i xs ≤ 1
unfolding IsDistinct
distinct-times [] d i = omega arith
distinct-times (x ∷ xs) d i = cond_both (eqb x i) 1 0 (λ n. n + times i xs ≤ 1)
    (λ t. (let z = absent-times i xs (subst (λ k. AllByRecursion (λ y. eqb k y ≡ false) xs) (eqb-true x i t) d.0) in omega (arith, z)))
    (λ f. (let more = distinct-times xs d.1 i in omega (arith, more)))

module _ (es : List Entry) where
  -- no key is below the one before it
  abbrev pub Rises : List ℕ → Type 0
  Rises [] = ⊤
  Rises (x ∷ []) = ⊤
  Rises (x ∷ y ∷ rest) = (text_below (key_in es y) (key_in es x) ≡ false) × Rises (y ∷ rest)

  pub rises-from : (xs : List ℕ) → ((k d : ℕ) → suc k < length xs → text_below (key_in es (get_or xs (suc k) d)) (key_in es (get_or xs k d)) ≡ false) → Rises xs
  rises-from [] f = tt
  rises-from (x ∷ []) f = tt
  rises-from (x ∷ y ∷ rest) f = (f zero 0 (omega arith), rises-from (y ∷ rest) (λ k d l. f (suc k) d (omega (arith, l))))

  pub differ : KeysApart es → (x y : ℕ) → x < length es → y < length es → (x ≡ y → ⊥) → same_text (key_in es x) (key_in es y) ≡ false
  differ apart x y l m n = false_from_ne_true (same_text (key_in es x) (key_in es y)) (λ t.
      let f = at-within es x l in
      let e = at-within es y m in
      n (same-place es y x e.0 f.0 apart e.1 f.1 (sym
      (λ k. same_text (when_some (f.1 k) [] (λ (z : Entry). z.0)) (when_some (e.1 k) [] (λ (z : Entry). z.0))) ∙ t)))

  -- each is above the one before it, where none stands twice
  pub ascend-from : KeysApart es → (xs : List ℕ) → ((i : ℕ) → stands_in xs i ≡ true → i < length es) → ((i : ℕ) → times i xs ≤ 1) → Rises xs → AscendAt es xs
  ascend-from apart [] within once up = tt
  ascend-from apart (x ∷ []) within once up = (tt, tt)
  ascend-from apart (x ∷ y ∷ rest) within once up =
      let more = ascend-from apart (y ∷ rest) (λ i t. within i (or_right (eqb x i) (stands_in (y ∷ rest) i) t))
      (λ i. (let n = once i in omega (arith, n))) up.1 in
      let apart_here : x ≡ y → ⊥ = λ e. (let n = once y in
      let a : is-it y x ≡ 1 = ap (λ (b : Bool). cond {A = ℕ} b 1 0) (eq-eqb x y e) in
      let b : is-it y y ≡ 1 = ap (λ (b : Bool). cond {A = ℕ} b 1 0) (eq-eqb y y refl) in omega (arith, n, a, b)) in
      let below : text_below (key_in es x) (key_in es y) ≡ true =
      text_below-other (key_in es y) (key_in es x) (differ apart y x
      (within y (or_right (eqb x y) _ (or_left (eqb y y) _ (eq-eqb y y refl))))
      (within x (or_left (eqb x x) _ (eq-eqb x x refl))) (λ e. apart_here (sym e))) up.0
      in
      ((below, over x y rest below more.0), more)
    where
      over : (x y : ℕ) (zs : List ℕ) → text_below (key_in es x) (key_in es y) ≡ true
          → AllByRecursion (λ k. text_below (key_in es y) (key_in es k) ≡ true) zs
          → AllByRecursion (λ k. text_below (key_in es x) (key_in es k) ≡ true) zs
      over x y [] b h = tt
      over x y (z ∷ zs) b h = (text_below-trans (key_in es x) (key_in es y) (key_in es z) b h.0, over x y zs b h.1)

  all-stand : (Q : ℕ → Type 0) (xs : List ℕ) (i : ℕ) → AllByRecursion Q xs → stands_in xs i ≡ true → Q i
  all-stand Q [] i h t = absurd (false≢true t)
  all-stand Q (x ∷ xs) i h t = elim (or_cases (eqb x i) (stands_in xs i) t) [
    | inl s ↦ subst Q (eqb-true x i s) h.0
    | inr s ↦ all-stand Q xs i h.1 s
  ]

  never-first : (x : ℕ) (xs : List ℕ) → AllByRecursion (λ k. text_below (key_in es x) (key_in es k) ≡ true) xs → stands_in xs x ≡ false
  never-first x xs h = false_from_ne_true (stands_in xs x)
      (λ t. text_below-apart (key_in es x) (key_in es x)
      (all-stand (λ k. text_below (key_in es x) (key_in es k) ≡ true) xs x h t) refl)

  -- two such lists of the same places are one
  pub same-list : (xs ys : List ℕ) → AscendAt es xs → AscendAt es ys → ((i : ℕ) → stands_in xs i ≡ stands_in ys i) → xs ≡ ys
  same-list [] [] a b s = refl
  same-list [] (y ∷ ys) a b s = absurd (false≢true (s y ∙ or_left (eqb y y) _ (eq-eqb y y refl)))
  same-list (x ∷ xs) [] a b s = absurd (false≢true (sym (s x) ∙ or_left (eqb x x) _ (eq-eqb x x refl)))
  same-list (x ∷ xs) (y ∷ ys) a b s =
      let first : x ≡ y = elim (or_cases (eqb y x) (stands_in ys x) (sym (s x) ∙ or_left (eqb x x) _ (eq-eqb x x refl))) [
        | inl t ↦ sym (eqb-true y x t)
        | inr t ↦ elim (or_cases (eqb x y) (stands_in xs y) (s y ∙ or_left (eqb y y) _ (eq-eqb y y refl))) [
          | inl u ↦ eqb-true x y u
          | inr u ↦ absurd (false≢true (sym (text_below-back (key_in es y) (key_in es x)
              (all-stand (λ k. text_below (key_in es y) (key_in es k) ≡ true) ys x b.0 t))
              ∙ all-stand (λ k. text_below (key_in es x) (key_in es k) ≡ true) xs y a.0 u))
        ]
      ] in
      λ k. first k ∷ same-list xs ys a.1 b.1 (rests first) k
    where
      rests : x ≡ y → (i : ℕ) → stands_in xs i ≡ stands_in ys i
      rests e i = elim (cases_eq x i) [
        | inl p ↦ ap (stands_in xs) (sym p) ∙ never-first x xs a.0 ∙ sym (ap (stands_in ys) (sym (sym e ∙ p)) ∙ never-first y ys b.0)
        | inr n ↦ sym (ap (λ c. c || stands_in xs i) (ne_eqb x i n)) ∙ s i ∙ ap (λ c. c || stands_in ys i) (ne_eqb y i (λ q. n (e ∙ q)))
      ]

  -- a part of such a list is one
  filter-all : (Q : ℕ → Type 0) (p : ℕ → Bool) (xs : List ℕ) → AllByRecursion Q xs → AllByRecursion Q (filter p xs)
  filter-all Q p [] h = tt
  filter-all Q p (x ∷ xs) h = cond_both (p x) (x ∷ filter p xs) (filter p xs) (AllByRecursion Q)
      (λ t. (h.0, filter-all Q p xs h.1)) (λ f. filter-all Q p xs h.1)

  pub filter-ascends : (p : ℕ → Bool) (xs : List ℕ) → AscendAt es xs → AscendAt es (filter p xs)
  filter-ascends p [] h = tt
  filter-ascends p (x ∷ xs) h = cond_both (p x) (x ∷ filter p xs) (filter p xs) (AscendAt es)
      (λ t. (filter-all (λ k. text_below (key_in es x) (key_in es k) ≡ true) p xs h.0, filter-ascends p xs h.1))
      (λ f. filter-ascends p xs h.1)

  pub ascend-times : (xs : List ℕ) → AscendAt es xs → (i : ℕ) → times i xs ≤ 1
  ascend-times [] h i = omega arith
  ascend-times (x ∷ xs) h i = cond_both (eqb x i) 1 0 (λ n. n + times i xs ≤ 1)
      (λ t. (let z : nat_lt 0 (times i xs) ≡ false =
      sym (stands-times i xs) ∙ ap (stands_in xs) (sym (eqb-true x i t)) ∙ never-first x xs h.0 in
      let no : 0 < times i xs → ⊥ = λ l. false≢true (sym z ∙ lt-ltb 0 (times i xs) l) in omega (arith, no)))
      (λ f. (let more = ascend-times xs h.1 i in omega (arith, more)))

-- one list without one of a number
abbrev without-one : ℕ → List ℕ → List ℕ
without-one x [] = []
without-one x (y ∷ ys) = cond (eqb y x) ys (y ∷ without-one x ys)

one-less : (x : ℕ) (ys : List ℕ) → 0 < times x ys → length ys ≡ suc (length (without-one x ys))
one-less x [] l = absurd (omega (arith, l))
one-less x (y ∷ ys) l = cond_both (eqb y x) ys (y ∷ without-one x ys) (λ (zs : List ℕ). suc (length ys) ≡ suc (length zs))
    (λ t. refl)
    (λ f. (let z = ap (λ (b : Bool). cond {A = ℕ} b 1 0) f in let more = one-less x ys (omega (arith, l, z)) in ap suc more))

times-less : (x i : ℕ) (ys : List ℕ) → 0 < times x ys → times i (without-one x ys) + is-it i x ≡ times i ys
times-less x i [] l = absurd (omega (arith, l))
times-less x i (y ∷ ys) l = cond_both (eqb y x) ys (y ∷ without-one x ys) (λ (zs : List ℕ). times i zs + is-it i x ≡ is-it i y + times i ys)
    (λ t. (let q = ap (is-it i) (eqb-true y x t) in omega (arith, q)))
    (λ f. (let z = ap (λ (b : Bool). cond {A = ℕ} b 1 0) f in let more = times-less x i ys (omega (arith, l, z)) in omega (arith, more)))

-- lists in which each number stands as often are of one length
pub same-length : (xs ys : List ℕ) → ((i : ℕ) → times i xs ≡ times i ys) → length xs ≡ length ys
same-length [] [] s = refl
same-length [] (y ∷ ys) s = (let e = s y in let o : is-it y y ≡ 1 = ap (λ (b : Bool). cond {A = ℕ} b 1 0) (eq-eqb y y refl) in absurd (omega (arith, e, o)))
same-length (x ∷ xs) ys s =
    let e = s x in
    let o : is-it x x ≡ 1 = ap (λ (b : Bool). cond {A = ℕ} b 1 0) (eq-eqb x x refl) in
    let some : 0 < times x ys = omega (arith, e, o) in
    let more = same-length xs (without-one x ys) (λ i. (let a = s i in let b = times-less x i ys some in omega (arith, a, b))) in
    let l = one-less x ys some in
    omega (arith, more, l)

-- each once, and the same ones
pub same-numbers : (xs ys : List ℕ) → ((i : ℕ) → times i xs ≤ 1) → ((i : ℕ) → times i ys ≤ 1)
    → ((i : ℕ) → stands_in xs i ≡ stands_in ys i) → length xs ≡ length ys
same-numbers xs ys a b s = same-length xs ys (λ i. alike (times i xs) (times i ys) (a i) (b i) (sym (stands-times i xs) ∙ s i ∙ stands-times i ys))
  where
    alike : (m n : ℕ) → m ≤ 1 → n ≤ 1 → nat_lt 0 m ≡ nat_lt 0 n → m ≡ n
    alike zero zero l k e = refl
    alike zero (suc n) l k e = absurd (false≢true (e ∙ lt-ltb 0 (suc n) (omega arith)))
    alike (suc m) zero l k e = absurd (false≢true (sym e ∙ lt-ltb 0 (suc m) (omega arith)))
    alike (suc m) (suc n) l k e = omega (arith, l, k)

-- what a sort by keys leaves
pub sorted-from : {F : Type 0} {g : Mut F (Bor ℕ × (Bor ℕ × Unit {0})) Ordering} {f : F} (key : ℕ → List ℕ)
    (xs : List ℕ) → ((lt : ℕ → ℕ → Bool) → IsStrictWeakOrder lt → ComparesAs g lt f → IsSortedBy lt xs)
    → ((a : Bor ℕ × (Bor ℕ × Unit {0})) (r : Ordering) (f' : F) → Called g f a r f'
    → (r ≡ slice_cmp nat_cmp (key a.0.now) (key a.1.0.now)) × (f' ≡ f))
    → IsSortedBy (λ x y. is_lt (slice_cmp nat_cmp (key x) (key y))) xs
sorted-from {g = g} {f = f} key xs up h = up (λ x y. is_lt (slice_cmp nat_cmp (key x) (key y))) (ranks_by nat_list_cmp_total key)
    (always_returns_same g (λ a r. is_lt r ≡ is_lt (slice_cmp nat_cmp (key a.0.now) (key a.1.0.now))) f (λ a r f' k. (ap is_lt (h a r f' k).0, (h a r f' k).1)))
