-- A number is put into a sorted list, or taken out, at the place found.
use Rattle.std.proofs.Common.{◌≡◌, ℕ, zero, suc, ◌<◌, ◌≤◌, Bool, true, false, not, ◌&&◌, ◌||◌, List, [], ◌∷◌, length}
use Rattle.std.proofs.Common.{insert, remove, slice_get, Some, refl, ap, sym, ◌∙◌, subst, arith, eqb, inl, inr}
use Rattle.std.proofs.Common.{slice_index_or, cond}
use Rattle.std.specs.List.{AllByRecursion}
use Rattle.std.specs.List.Sorted.{IsStrictlySortedBy, IsPartitionedBy}
use Rattle.std.specs.Cmp.{IsTotalOrder}
use Rattle.std.specs.Ordering.{is_lt, ordering_reverse}
use Rattle.std.specs.declared.cmp.Ordering.{Ordering}
use Rattle.std.specs.declared.cmp.Ordering.TheVariants.{Less, Equal, Greater}
use Rattle.std.proofs.lemmas.Bool.{cond_both, eq-eqb, eqb-true, false_from_ne_true, false≢true, or_cases, or_left, or_right}
use Rattle.hx_index.specs.Invariant.{IsSplit}
use Rattle.hx_index.specs.Orders.{stands_in, without}

-- from places to the parts of the list
pub split-at : (p : ℕ → Bool) (k : ℕ) (xs : List ℕ) → k ≤ length xs
    → ((i : ℕ) → i < k → p (slice_index_or xs i 0) ≡ true)
    → ((i : ℕ) → k ≤ i → i < length xs → p (slice_index_or xs i 0) ≡ false) → IsSplit p k xs
split-at p zero [] l before from = tt
split-at p zero (x ∷ xs) l before from = from 0 (omega arith) (omega arith)
split-at p (suc k) [] l before from = absurd (omega arith)
split-at p (suc k) (x ∷ xs) l before from =
    (before 0 (omega arith), split-at p k xs (omega arith) (λ i h. before (suc i) (omega arith)) (λ i h m. from (suc i) (omega arith) (omega arith)))

pub split-within : (p : ℕ → Bool) (k : ℕ) (xs : List ℕ) → IsSplit p k xs → k ≤ length xs
split-within p zero xs s = omega arith
split-within p (suc k) [] s = absurd s
split-within p (suc k) (x ∷ xs) s = let l = split-within p k xs s.1 in omega (arith, l)

is-less : (o : Ordering) → is_lt o ≡ true → o ≡ Less
is-less Less e = refl
is-less Equal e = absurd (false≢true e)
is-less Greater e = absurd (false≢true e)

less-is : (o : Ordering) → o ≡ Less → is_lt o ≡ true
less-is o e = ap is_lt e

module _ (R : ℕ → ℕ → Ordering) (o : IsTotalOrder R) where
  -- what is before another number is before all later ones
  pub partitioned : (id : ℕ) (xs : List ℕ) → IsStrictlySortedBy R xs → IsPartitionedBy (λ j. is_lt (R j id)) xs
  unfolding IsStrictlySortedBy
  partitioned id [] s i j d l m e = absurd (omega arith)
  partitioned id (x ∷ xs) s zero zero d l m e = e
  partitioned id (x ∷ xs) s zero (suc j) d l m e = less-is _ (o.trans x (slice_index_or xs j d) id (at xs j d s.0 (omega arith)) (is-less _ e))
    where
      at : (ys : List ℕ) (j d : ℕ) → AllByRecursion (λ y. R x y ≡ Less) ys → j < length ys → R x (slice_index_or ys j d) ≡ Less
      at [] j d h l = absurd (omega arith)
      at (y ∷ ys) zero d h l = h.0
      at (y ∷ ys) (suc j) d h l = at ys j d h.1 (omega arith)
  partitioned id (x ∷ xs) s (suc i) zero d l m e = absurd (omega arith)
  partitioned id (x ∷ xs) s (suc i) (suc j) d l m e = partitioned id xs s.1 i j d (omega arith) (omega arith) e

  module _ (exact : (i j : ℕ) → R i j ≡ Equal → i ≡ j) where
    -- the number that isn't before another, and differs, is after it
    after : (x id : ℕ) → (x ≡ id → ⊥) → is_lt (R x id) ≡ false → R id x ≡ Less
    after x id n e = o.antisymm id x ∙ by (R x id) refl e
      where
        by : (a : Ordering) → R x id ≡ a → is_lt a ≡ false → ordering_reverse a ≡ Less
        by Less q f = absurd (false≢true (sym f))
        by Equal q f = absurd (n (exact x id q))
        by Greater q f = refl

    pub less-differs : (x y : ℕ) → R x y ≡ Less → x ≡ y → ⊥
    less-differs x y e q = by (R x x) (o.antisymm x x) (ap (λ z. R x z) q ∙ e)
      where
        by : (a : Ordering) → a ≡ ordering_reverse a → a ≡ Less → ⊥
        by Less h f = cc
        by Equal h f = cc
        by Greater h f = cc

    all-after : (id x : ℕ) (xs : List ℕ) → R id x ≡ Less → AllByRecursion (λ y. R x y ≡ Less) xs → AllByRecursion (λ y. R id y ≡ Less) xs
    all-after id x [] e h = tt
    all-after id x (y ∷ ys) e h = (o.trans id x y e h.0, all-after id x ys e h.1)

    all-insert : (x id : ℕ) (k : ℕ) (xs : List ℕ) → R x id ≡ Less → AllByRecursion (λ y. R x y ≡ Less) xs → AllByRecursion (λ y. R x y ≡ Less) (insert xs k id)
    all-insert x id zero xs e h = (e, h)
    all-insert x id (suc k) [] e h = (e, tt)
    all-insert x id (suc k) (y ∷ ys) e h = (h.0, all-insert x id k ys e h.1)

    pub insert-sorted : (id k : ℕ) (xs : List ℕ) → IsStrictlySortedBy R xs → stands_in xs id ≡ false
        → IsSplit (λ j. is_lt (R j id)) k xs → IsStrictlySortedBy R (insert xs k id)
    unfolding IsStrictlySortedBy
    insert-sorted id zero [] s n p = (tt, tt)
    insert-sorted id zero (x ∷ xs) s n p =
        let e = after x id (λ q. false≢true (sym n ∙ or_left (eqb x id) _ (eq-eqb x id q))) p in
        ((e, all-after id x xs e s.0), s)
    insert-sorted id (suc k) [] s n p = absurd p
    insert-sorted id (suc k) (x ∷ xs) s n p = (
      all-insert x id k xs (is-less _ p.0) s.0,
      insert-sorted id k xs s.1
          (false_from_ne_true (stands_in xs id) (λ t. false≢true (sym n ∙ or_right (eqb x id) _ t))) p.1,
    )

    -- a number that stands in the list stands at the place found
    pub found-at : (id k : ℕ) (xs : List ℕ) → IsStrictlySortedBy R xs → stands_in xs id ≡ true → IsSplit (λ j. is_lt (R j id)) k xs → slice_get xs k ≡ Some id
    unfolding IsStrictlySortedBy
    found-at id k [] s h p = absurd (false≢true h)
    found-at id zero (x ∷ xs) s h p = elim (or_cases (eqb x id) (stands_in xs id) h) [
      | inl e ↦ ap (λ y. Some y) (eqb-true x id e)
      | inr t ↦ absurd (false≢true (sym p ∙ less-is _ (among x xs s.0 t)))
    ]
      where
        among : (x : ℕ) (ys : List ℕ) → AllByRecursion (λ y. R x y ≡ Less) ys → stands_in ys id ≡ true → R x id ≡ Less
        among x [] h t = absurd (false≢true t)
        among x (y ∷ ys) h t = elim (or_cases (eqb y id) (stands_in ys id) t) [
          | inl e ↦ subst (λ z. R x z ≡ Less) (eqb-true y id e) h.0
          | inr u ↦ among x ys h.1 u
        ]
    found-at id (suc k) (x ∷ xs) s h p = elim (or_cases (eqb x id) (stands_in xs id) h) [
      | inl e ↦ absurd (less-differs x id (is-less _ p.0) (eqb-true x id e))
      | inr t ↦ found-at id k xs s.1 t p.1
    ]

    all-without : (id : ℕ) (xs : List ℕ) → AllByRecursion (λ y. R id y ≡ Less) xs → without id xs ≡ xs
    all-without id [] h = refl
    all-without id (y ∷ ys) h =
        let differs : eqb y id ≡ false = false_from_ne_true (eqb y id) (λ t. less-differs id y h.0 (sym (eqb-true y id t))) in
        ap (λ (b : Bool). cond (not b) (y ∷ without id ys) (without id ys)) differs ∙ ap (λ (l : List ℕ). y ∷ l) (all-without id ys h.1)

    pub remove-without : (id k : ℕ) (xs : List ℕ) → IsStrictlySortedBy R xs → slice_get xs k ≡ Some id
        → IsSplit (λ j. is_lt (R j id)) k xs → remove xs k ≡ without id xs
    unfolding IsStrictlySortedBy
    remove-without id k [] s e p = absurd cc
    remove-without id zero (x ∷ xs) s e p =
        let same : x ≡ id = some-same x id e in
        let is : eqb x id ≡ true = eq-eqb x id same in
        sym (ap (λ (b : Bool). cond (not b) (x ∷ without id xs) (without id xs)) is
        ∙ all-without id xs (subst (λ z. AllByRecursion (λ y. R z y ≡ Less) xs) same s.0))
      where
        some-same : (a b : ℕ) → Some a ≡ Some b → a ≡ b
        some-same a b e = cc
    remove-without id (suc k) (x ∷ xs) s e p =
        let differs : eqb x id ≡ false = false_from_ne_true (eqb x id) (λ t. less-differs x id (is-less _ p.0) (eqb-true x id t)) in
        ap (λ (l : List ℕ). x ∷ l) (remove-without id k xs s.1 e p.1) ∙ sym (ap (λ (b : Bool). cond (not b) (x ∷ without id xs) (without id xs)) differs)

-- what stands in a list with a number more
pub stands-insert : (id i k : ℕ) (xs : List ℕ) → k ≤ length xs → stands_in (insert xs k id) i ≡ (eqb id i || stands_in xs i)
stands-insert id i zero xs l = refl
stands-insert id i (suc k) [] l = absurd (omega arith)
stands-insert id i (suc k) (x ∷ xs) l = ap (λ b. eqb x i || b) (stands-insert id i k xs (omega arith)) ∙ swap (eqb x i) (eqb id i) (stands_in xs i)
  where
    swap : (a b c : Bool) → (a || (b || c)) ≡ (b || (a || c))
    swap true true c = refl
    swap true false c = refl
    swap false b c = refl

-- and in one with a number less
pub stands-without : (id i : ℕ) (xs : List ℕ) → stands_in (without id xs) i ≡ (not (eqb i id) && stands_in xs i)
stands-without id i [] = by (not (eqb i id))
  where
    by : (b : Bool) → false ≡ (b && false)
    by true = refl
    by false = refl
stands-without id i (x ∷ xs) =
    cond_both (not (eqb x id)) (x ∷ without id xs) (without id xs) (λ (l : List ℕ). stands_in l i ≡ (not (eqb i id) && (eqb x i || stands_in xs i)))
    (λ t. ap (λ b. eqb x i || b) (stands-without id i xs) ∙ one (eqb x i) (eqb i id) (stands_in xs i) (λ e. other t (eqb-true x i e)))
    (λ f. stands-without id i xs ∙ two (eqb x i) (eqb i id) (stands_in xs i) (λ e. same f (eqb-true x i e)))
  where
    not-true : (b : Bool) → not b ≡ true → b ≡ false
    not-true true e = absurd (false≢true e)
    not-true false e = refl

    not-false : (b : Bool) → not b ≡ false → b ≡ true
    not-false true e = refl
    not-false false e = absurd (false≢true (sym e))

    other : not (eqb x id) ≡ true → x ≡ i → eqb i id ≡ false
    other t q = subst (λ z. eqb z id ≡ false) q (not-true _ t)

    same : not (eqb x id) ≡ false → x ≡ i → eqb i id ≡ true
    same f q = subst (λ z. eqb z id ≡ true) q (not-false _ f)

    one : (a b c : Bool) → (a ≡ true → b ≡ false) → (a || (not b && c)) ≡ (not b && (a || c))
    one true b c h = ap (λ d. not d && true) (sym (h refl))
    one false b c h = refl

    two : (a b c : Bool) → (a ≡ true → b ≡ true) → (not b && c) ≡ (not b && (a || c))
    two true b c h = ap (λ d. not d && c) (h refl) ∙ ap (λ d. not d && true) (sym (h refl))
    two false b c h = refl

absent-without : (id : ℕ) (xs : List ℕ) → stands_in xs id ≡ false → without id xs ≡ xs
absent-without id [] n = refl
absent-without id (x ∷ xs) n =
    let differs : eqb x id ≡ false = false_from_ne_true (eqb x id) (λ t. false≢true (sym n ∙ or_left (eqb x id) _ t)) in
    ap (λ (b : Bool). cond (not b) (x ∷ without id xs) (without id xs)) differs
    ∙ ap (λ (l : List ℕ). x ∷ l) (absent-without id xs (false_from_ne_true (stands_in xs id) (λ t. false≢true (sym n ∙ or_right (eqb x id) _ t))))

-- a number that is put in is taken out again
pub insert-without : (id k : ℕ) (xs : List ℕ) → stands_in xs id ≡ false → k ≤ length xs → without id (insert xs k id) ≡ xs
insert-without id zero xs n l = ap (λ (b : Bool). cond (not b) (id ∷ without id xs) (without id xs)) (eq-eqb id id refl) ∙ absent-without id xs n
insert-without id (suc k) [] n l = absurd (omega arith)
insert-without id (suc k) (x ∷ xs) n l =
    let differs : eqb x id ≡ false = false_from_ne_true (eqb x id) (λ t. false≢true (sym n ∙ or_left (eqb x id) _ t)) in
    ap (λ (b : Bool). cond (not b) (x ∷ without id (insert xs k id)) (without id (insert xs k id))) differs
    ∙ ap (λ (l' : List ℕ). x ∷ l') (insert-without id k xs
    (false_from_ne_true (stands_in xs id) (λ t. false≢true (sym n ∙ or_right (eqb x id) _ t))) (omega arith))

pub within-at : {A : Type 0} (xs : List A) (k : ℕ) (x : A) → slice_get xs k ≡ Some x → k < length xs
within-at [] k x e = absurd cc
within-at (y ∷ ys) zero x e = omega arith
within-at (y ∷ ys) (suc k) x e = let l = within-at ys k x e in omega (arith, l)
