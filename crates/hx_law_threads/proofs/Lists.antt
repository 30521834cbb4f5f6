-- Lists in reverse, filtered lists, and lists whose keys fall.
use Rattle.hx_law_lemmas.proofs.Lemmas.Vocabulary.{[], ap, arith, below, Bool, cond_both, Contains, Contains-permutation, filter, inl, inr, IsIn, IsPermutation}
use Rattle.hx_law_lemmas.proofs.Lemmas.Vocabulary.{IsStrictlyIncreasing, length, List, map, refl, reverse, reverse-append, slice_index, slice_index_or, subst}
use Rattle.hx_law_lemmas.proofs.Lemmas.Vocabulary.{suc, sym, true, true≢false, zero, ℕ, ⊎_elim, ⊤, ◌++◌, ◌+◌, ◌<◌, ◌∙◌, ◌∷◌, ◌≡◌, ◌⊎◌}
use Rattle.hx_clock.proofs.Lemmas.{in_left, in_right}

pub in_append : {A : Type 0} (xs ys : List A) (z : A) → IsIn z (xs ++ ys) → IsIn z xs ⊎ IsIn z ys
in_append [] ys z i = inr i
in_append (x ∷ xs) ys z (inl e) = inl (inl e)
in_append (x ∷ xs) ys z (inr i) = ⊎_elim (λ j. inl (inr j)) (λ j. inr j) (in_append xs ys z i)

pub reverse_cons : {A : Type 0} (x : A) (xs : List A) → reverse (x ∷ xs) ≡ reverse xs ++ x ∷ []
reverse_cons x xs = reverse-append (x ∷ []) xs

pub reverse_snoc : {A : Type 0} (x : A) (xs : List A) → reverse (xs ++ x ∷ []) ≡ x ∷ reverse xs
reverse_snoc x xs = reverse-append xs (x ∷ [])

pub in_reverse : {A : Type 0} (xs : List A) (z : A) → IsIn z xs → IsIn z (reverse xs)
in_reverse [] z i = absurd i
in_reverse (x ∷ xs) z i =
    subst (λ l. IsIn z l) (sym (reverse_cons x xs))
    (⊎_elim (λ (e : z ≡ x). in_right z (reverse xs) (x ∷ []) (inl e)) (λ (j : IsIn z xs). in_left z (reverse xs) (x ∷ []) (in_reverse xs z j)) i)

pub of_reverse : {A : Type 0} (xs : List A) (z : A) → IsIn z (reverse xs) → IsIn z xs
of_reverse [] z i = i
of_reverse (x ∷ xs) z i =
    ⊎_elim (λ (j : IsIn z (reverse xs)). inr (of_reverse xs z j)) (λ (j : IsIn z (x ∷ [])). ⊎_elim (λ (e : z ≡ x). inl e) (λ (k : ⊥). absurd k) j)
    (in_append (reverse xs) (x ∷ []) z (subst (λ l. IsIn z l) (reverse_cons x xs) i))

pub map_append : {A B : Type 0} (f : A → B) (xs ys : List A) → map f (xs ++ ys) ≡ map f xs ++ map f ys
map_append f [] ys = refl
map_append f (x ∷ xs) ys = ap (λ l. f x ∷ l) (map_append f xs ys)

pub map_reverse : {A B : Type 0} (f : A → B) (xs : List A) → map f (reverse xs) ≡ reverse (map f xs)
map_reverse f [] = refl
map_reverse f (x ∷ xs) =
    ap (map f) (reverse_cons x xs) ∙ map_append f (reverse xs) (x ∷ []) ∙ ap (λ l. l ++ f x ∷ []) (map_reverse f xs) ∙ sym (reverse_cons (f x) (map f xs))

pub of_filter : {A : Type 0} (test : A → Bool) (xs : List A) (z : A) → IsIn z (filter test xs) → IsIn z xs × (test z ≡ true)
of_filter test [] z = λ i. absurd i
of_filter test (x ∷ xs) z =
    cond_both (test x) (x ∷ filter test xs) (filter test xs) (λ l. IsIn z l → IsIn z (x ∷ xs) × (test z ≡ true))
    (λ t i. ⊎_elim (λ (e : z ≡ x). (inl e, ap test e ∙ t)) (λ (j : IsIn z (filter test xs)). let r = of_filter test xs z j in (inr r.0, r.1)) i)
    (λ t i. let r = of_filter test xs z i in (inr r.0, r.1))

pub in_filter : {A : Type 0} (test : A → Bool) (xs : List A) (z : A) → IsIn z xs → test z ≡ true → IsIn z (filter test xs)
in_filter test [] z i e = absurd i
in_filter test (x ∷ xs) z i e =
    cond_both (test x) (x ∷ filter test xs) (filter test xs) (λ l. IsIn z l)
    (λ t. ⊎_elim (λ (q : z ≡ x). inl q) (λ (j : IsIn z xs). inr (in_filter test xs z j e)) i)
    (λ t. ⊎_elim (λ (q : z ≡ x). absurd (true≢false (sym e ∙ ap test q ∙ t))) (λ (j : IsIn z xs). in_filter test xs z j e) i)

contains_in : {A : Type 0} (xs : List A) (x : A) (k : ℕ) → k < length xs → slice_index_or xs k x ≡ x → IsIn x xs
contains_in [] x k h e = absurd (omega arith)
contains_in (y ∷ xs) x zero h e = inl (sym e)
contains_in (y ∷ xs) x (suc k) h e = inr (contains_in xs x k (omega arith) e)

in_contains : {A : Type 0} (xs : List A) (x : A) → IsIn x xs → Contains xs x
in_contains [] x i = absurd i
in_contains (y ∷ xs) x (inl e) = (0, omega arith, sym e)
in_contains (y ∷ xs) x (inr i) = let c = in_contains xs x i in (suc c.0, omega (arith, c.1), c.2)

pub in_permuted : {A : Type 0} (xs ys : List A) (z : A) → IsPermutation xs ys → IsIn z xs → IsIn z ys
in_permuted xs ys z p i = let c = Contains-permutation xs ys z p (in_contains xs z i) in contains_in ys z c.0 c.1 c.2

-- each key is above all later ones
abbrev pub IsFalling : {A : Type 0} → (A → ℕ) → List A → Type 0
IsFalling key [] = ⊤
IsFalling key (x ∷ xs) = ((y : _) → IsIn y xs → key y < key x) × IsFalling key xs

-- each key is below all later ones
abbrev IsRising : {A : Type 0} → (A → ℕ) → List A → Type 0
IsRising key [] = ⊤
IsRising key (x ∷ xs) = ((y : _) → IsIn y xs → key x < key y) × IsRising key xs

rises : {A : Type 0} (key : A → ℕ) (xs : List A) → IsStrictlyIncreasing (map key xs) → IsRising key xs
rises key [] h = tt
rises key (x ∷ []) h = ((λ y i. absurd i), tt)
rises key (x ∷ w ∷ ws) h =
    let rest = rises key (w ∷ ws) (λ k lt. let next : suc k + 1 ≡ suc (k + 1) = omega arith in
    subst (λ n. slice_index (map key (x ∷ w ∷ ws)) (suc k) < slice_index (map key (x ∷ w ∷ ws)) n) next
    (h (suc k) (omega (arith, lt)))) in
    let first : key x < key w = h 0 (omega arith) in
    ((λ y i. ⊎_elim (λ (e : y ≡ w). omega (arith, first, ap key e)) (λ (j : IsIn y ws). omega (arith, first, rest.0 y j)) i), rest)

falls_snoc : {A : Type 0} (key : A → ℕ) (xs : List A) (x : A) → IsFalling key xs → ((y : A) → IsIn y xs → key x < key y) → IsFalling key (xs ++ x ∷ [])
falls_snoc key [] x f g = ((λ y i. absurd i), tt)
falls_snoc key (w ∷ ws) x f g = (
  (λ y i. ⊎_elim (λ (j : IsIn y ws). f.0 y j) (λ (j : IsIn y (x ∷ [])). ⊎_elim
      (λ (e : y ≡ x). omega (arith, ap key e, g w (inl refl))) (λ (k : ⊥). absurd k) j) (in_append ws (x ∷ []) y i)),
  falls_snoc key ws x f.1 (λ y i. g y (inr i)),
)

-- a rising list falls in reverse
reversed_falls : {A : Type 0} (key : A → ℕ) (xs : List A) → IsRising key xs → IsFalling key (reverse xs)
reversed_falls key [] r = tt
reversed_falls key (x ∷ xs) r =
    subst (IsFalling key) (sym (reverse_cons x xs)) (falls_snoc key (reverse xs) x (reversed_falls key xs r.1) (λ y i. r.0 y (of_reverse xs y i)))

pub falls : {A : Type 0} (key : A → ℕ) (xs : List A) → IsStrictlyIncreasing (map key xs) → IsFalling key (reverse xs)
falls key xs h = reversed_falls key xs (rises key xs h)

pub filter_falls : {A : Type 0} (key : A → ℕ) (test : A → Bool) (xs : List A) → IsFalling key xs → IsFalling key (filter test xs)
filter_falls key test [] f = tt
filter_falls key test (x ∷ xs) f =
    cond_both (test x) (x ∷ filter test xs) (filter test xs) (IsFalling key)
    (λ t. ((λ y i. f.0 y (of_filter test xs y i).0), filter_falls key test xs f.1))
    (λ t. filter_falls key test xs f.1)

-- falling lists with the same items are the same
pub same_falling : {A : Type 0} (key : A → ℕ) (xs ys : List A) → IsFalling key xs → IsFalling key ys
    → ((z : A) → IsIn z xs → IsIn z ys) → ((z : A) → IsIn z ys → IsIn z xs) → xs ≡ ys
same_falling key [] [] a b f g = refl
same_falling key [] (y ∷ ys) a b f g = absurd (g y (inl refl))
same_falling key (x ∷ xs) [] a b f g = absurd (f x (inl refl))
same_falling key (x ∷ xs) (y ∷ ys) a b f g =
    let same : x ≡ y = ⊎_elim (λ (e : x ≡ y). e) (λ (i : IsIn x ys). ⊎_elim (λ (e : y ≡ x). sym e)
    (λ (j : IsIn y xs). absurd (omega (arith, b.0 x i, a.0 y j))) (g y (inl refl))) (f x (inl refl)) in
    let keys : key x ≡ key y = ap key same in
    let rest : xs ≡ ys =
    same_falling key xs ys a.1 b.1
    (λ z i. ⊎_elim (λ (e : z ≡ y). absurd (omega (arith, keys, ap key e, a.0 z i))) (λ (j : IsIn z ys). j) (f z (inr i)))
    (λ z i. ⊎_elim (λ (e : z ≡ x). absurd (omega (arith, keys, ap key e, b.0 z i))) (λ (j : IsIn z xs). j) (g z (inr i))) in
    ap (λ z. z ∷ xs) same ∙ ap (λ l. y ∷ l) rest

pub of_below : (n k : ℕ) → IsIn k (below n) → k < n
of_below zero k i = absurd i
of_below (suc n) k i =
    ⊎_elim (λ (j : IsIn k (below n)). let r = of_below n k j in
    omega (arith, r)) (λ (j : IsIn k (n ∷ [])). ⊎_elim (λ (e : k ≡ n). omega (arith, e)) (λ (z : ⊥). absurd z) j)
    (in_append (below n) (n ∷ []) k i)

pub below_falls : (n : ℕ) → IsFalling (λ (k : ℕ). k) (reverse (below n))
below_falls zero = tt
below_falls (suc n) = subst (IsFalling (λ (k : ℕ). k)) (sym (reverse_snoc n (below n))) ((λ k i. of_below n k (of_reverse (below n) k i)), below_falls n)
