-- Lists place by place.
use Rattle.std.proofs.Common.{◌≡◌, ◌≢◌, ⊎_elim, true, false, eqb, ℕ, zero, suc, ◌<◌, ◌≤◌, List, [], ◌∷◌, ◌++◌, map}
use Rattle.std.proofs.Common.{take, length, inl, inr, Some, slice_index_or, slice_set, refl, ap, sym, subst, arith}
use Rattle.std.specs.Prelude.{flat_map}
use Rattle.std.proofs.lemmas.Bool.Decides.{eqb_tells}
use Rattle.std.specs.List.{AllByRecursion}
use Rattle.hx_types.specs.Words.{IsIn}
use Rattle.hx_clock.proofs.Lemmas.{each_append}
use Rattle.hx_outbox.specs.Zipped.{Both}

pub some-same : {A : Type 0} (u v : A) → Some u ≡ Some v → u ≡ v
some-same u v e = cc

pub no-eq : (a b : ℕ) → (a ≡ b → ⊥) → eqb a b ≡ false
no-eq a b n = ⊎_elim (λ (h : (eqb a b ≡ true) × (a ≡ b)). absurd (n h.1)) (λ (h : (eqb a b ≡ false) × (a ≢ b)). h.0) (eqb_tells a b)

module _ {D : Type 0} where
  pub take-all : (n : ℕ) (xs : List D) → length xs ≤ n → take n xs ≡ xs
  take-all zero [] h = refl
  take-all (suc n) [] h = refl
  take-all zero (x ∷ xs) h = absurd (omega (arith, h))
  take-all (suc n) (x ∷ xs) h = ap (λ w. x ∷ w) (take-all n xs (omega (arith, h)))

  pub at-in : (xs : List D) (i : ℕ) (d : D) → i < length xs → d ≡ slice_index_or xs i d → IsIn d xs
  at-in [] i d lt e = absurd (omega (arith, lt))
  at-in (x ∷ xs) zero d lt e = inl e
  at-in (x ∷ xs) (suc i) d lt e = inr (at-in xs i d (omega (arith, lt)) e)

  pub nil : (xs : List D) → length xs ≡ 0 → xs ≡ []
  nil [] e = refl
  nil (x ∷ xs) e = absurd (omega (arith, e))

  pub both-refl : (R : D → D → Type 0) → ((x : D) → R x x) → (xs : List D) → Both R xs xs
  both-refl R f [] = tt
  both-refl R f (x ∷ xs) = (f x, both-refl R f xs)

  pub both-trans : (R : D → D → Type 0) → ((x y z : D) → R x y → R y z → R x z) → (xs ys zs : List D) → Both R xs ys → Both R ys zs → Both R xs zs
  both-trans R f [] [] [] h k = tt
  both-trans R f [] [] (z ∷ zs) h k = absurd k
  both-trans R f [] (y ∷ ys) zs h k = absurd h
  both-trans R f (x ∷ xs) [] zs h k = absurd h
  both-trans R f (x ∷ xs) (y ∷ ys) [] h k = absurd k
  both-trans R f (x ∷ xs) (y ∷ ys) (z ∷ zs) h k = (f x y z h.0 k.0, both-trans R f xs ys zs h.1 k.1)

  -- after a change at one place
  pub both-put : (R : D → D → Type 0) → ((x : D) → R x x) → (xs : List D) (i : ℕ) (x y : D) → x ≡ slice_index_or xs i x → R x y → Both R xs (slice_set xs i y)
  both-put R f [] i x y e r = tt
  both-put R f (a ∷ xs) zero x y e r = (subst (λ u. R u y) e r, both-refl R f xs)
  both-put R f (a ∷ xs) (suc i) x y e r = (f a, both-put R f xs i x y e r)

module _ {A B : Type 0} where
  pub both-map : (R Q : A → B → Type 0) → ((x : A) (y : B) → R x y → Q x y) → (xs : List A) (ys : List B) → Both R xs ys → Both Q xs ys
  both-map R Q f [] [] h = tt
  both-map R Q f [] (y ∷ ys) h = absurd h
  both-map R Q f (x ∷ xs) [] h = absurd h
  both-map R Q f (x ∷ xs) (y ∷ ys) h = (f x y h.0, both-map R Q f xs ys h.1)

  pub both-each : (R : A → B → Type 0) (P : A → Type 0) (Q : B → Type 0) → ((x : A) (y : B) → R x y → P x → Q y)
      → (xs : List A) (ys : List B) → Both R xs ys → AllByRecursion P xs → AllByRecursion Q ys
  both-each R P Q f [] [] h e = tt
  both-each R P Q f [] (d ∷ ds) h e = absurd h
  both-each R P Q f (c ∷ cs) [] h e = absurd h
  both-each R P Q f (c ∷ cs) (d ∷ ds) h e = (f c d h.0 e.0, both-each R P Q f cs ds h.1 e.1)

module _ {D C : Type 0} where
  pub moved-by : (f : D → C) (Q : C → Type 0) (a b : D) → a ≡ b → Q (f b) → Q (f a)
  moved-by f Q a b e h = subst (λ z. Q (f z)) (sym e) h

  pub both-by : (f : D → C) (R : C → C → Type 0) (xs ys : List D) → length ys ≡ length xs
      → ((i : ℕ) (d : D) → i < length xs → R (f (slice_index_or xs i d)) (f (slice_index_or ys i d)))
      → Both R (map f xs) (map f ys)
  both-by f R [] [] e h = tt
  both-by f R [] (y ∷ ys) e h = absurd (omega (arith, e))
  both-by f R (x ∷ xs) [] e h = absurd (omega (arith, e))
  both-by f R (x ∷ xs) (y ∷ ys) e h = (h 0 x (omega arith), both-by f R xs ys (omega (arith, e)) (λ i d lt. h (suc i) d (omega (arith, lt))))

  pub moved-at : (f : D → C) (R : C → C → Type 0) (a b x y : D) → a ≡ x → b ≡ y → R (f a) (f b) → R (f x) (f y)
  moved-at f R a b x y e k h = subst (λ z. R (f z) (f y)) e (subst (λ z. R (f a) (f z)) k h)

  pub each-map : (f : D → C) (P : C → Type 0) (xs : List D) → AllByRecursion (λ d. P (f d)) xs → AllByRecursion P (map f xs)
  each-map f P [] h = tt
  each-map f P (x ∷ xs) h = (h.0, each-map f P xs h.1)

  pub map-each : (f : D → C) (P : C → Type 0) (xs : List D) → AllByRecursion P (map f xs) → AllByRecursion (λ d. P (f d)) xs
  map-each f P [] h = tt
  map-each f P (x ∷ xs) h = (h.0, map-each f P xs h.1)

  pub each-all-map : (f : D → C) (P : C → Type 0) (xs : List D) (n : ℕ) → length xs ≤ n
      → AllByRecursion (λ d. P (f d)) (take n xs) → AllByRecursion P (map f xs)
  each-all-map f P xs n le h = each-map f P xs (subst (AllByRecursion (λ d. P (f d))) (take-all n xs le) h)

  pub each-index : (f : D → C) (P : C → Type 0) (xs : List D) (k : ℕ) (d : D) → AllByRecursion P (map f xs) → k < length xs → P (f (slice_index_or xs k d))
  each-index f P [] k d h lt = absurd (omega (arith, lt))
  each-index f P (x ∷ xs) zero d h lt = h.0
  each-index f P (x ∷ xs) (suc k) d h lt = each-index f P xs k d h.1 (omega (arith, lt))

  pub map-in : (f : D → C) (xs : List D) (i : ℕ) (d : D) → i < length xs → d ≡ slice_index_or xs i d → IsIn (f d) (map f xs)
  map-in f [] i d lt e = absurd (omega (arith, lt))
  map-in f (x ∷ xs) zero d lt e = inl (ap f e)
  map-in f (x ∷ xs) (suc i) d lt e = inr (map-in f xs i d (omega (arith, lt)) e)

  -- what holds of each item of each list holds of each item of them all
  pub each-flat : (f : D → List C) (P : C → Type 0) (xs : List D) → AllByRecursion (λ d. AllByRecursion P (f d)) xs → AllByRecursion P (flat_map f xs)
  each-flat f P [] h = tt
  each-flat f P (x ∷ xs) h = each_append P (f x) (flat_map f xs) h.0 (each-flat f P xs h.1)

  pub in-flat : (f : D → List C) (xs : List D) (x : D) (c : C) → IsIn x xs → IsIn c (f x) → IsIn c (flat_map f xs)
  in-flat f [] x c i j = absurd i
  in-flat f (y ∷ xs) x c (inl e) j = left (f y) (flat_map f xs) (subst (λ z. IsIn c (f z)) e j)
    where
      left : (us vs : List C) → IsIn c us → IsIn c (us ++ vs)
      left [] vs k = absurd k
      left (u ∷ us) vs (inl k) = inl k
      left (u ∷ us) vs (inr k) = inr (left us vs k)
  in-flat f (y ∷ xs) x c (inr i) j = right (f y) (flat_map f xs) (in-flat f xs x c i j)
    where
      right : (us vs : List C) → IsIn c vs → IsIn c (us ++ vs)
      right [] vs k = k
      right (u ∷ us) vs k = inr (right us vs k)

  -- after a change at one place
  pub both-put-map : (f : D → C) (R : C → C → Type 0) → ((x : C) → R x x) → (xs : List D) (i : ℕ) (d y : D)
      → R (f (slice_index_or xs i d)) (f y) → Both R (map f xs) (map f (slice_set xs i y))
  both-put-map f R same [] i d y r = tt
  both-put-map f R same (a ∷ xs) zero d y r = (r, both-refl R same (map f xs))
  both-put-map f R same (a ∷ xs) (suc i) d y r = (same (f a), both-put-map f R same xs i d y r)

module _ {D : Type 0} where
  pub both-put-at : (R : D → D → Type 0) → ((x : D) → R x x) → (xs : List D) (i : ℕ) (d y : D) → R (slice_index_or xs i d) y → Both R xs (slice_set xs i y)
  both-put-at R same [] i d y r = tt
  both-put-at R same (a ∷ xs) zero d y r = (r, both-refl R same xs)
  both-put-at R same (a ∷ xs) (suc i) d y r = (same a, both-put-at R same xs i d y r)

  pub get-set : (xs : List D) (i : ℕ) (d y : D) → i < length xs → slice_index_or (slice_set xs i y) i d ≡ y
  get-set [] i d y lt = absurd (omega (arith, lt))
  get-set (a ∷ xs) zero d y lt = refl
  get-set (a ∷ xs) (suc i) d y lt = get-set xs i d y (omega (arith, lt))

  pub long-set : (xs : List D) (i : ℕ) (y : D) → length (slice_set xs i y) ≡ length xs
  long-set [] i y = refl
  long-set (a ∷ xs) zero y = refl
  long-set (a ∷ xs) (suc i) y = ap suc (long-set xs i y)

  pub both-each-at : (R : D → D → Type 0) (xs ys : List D) → length ys ≡ length xs
      → ((i : ℕ) (d : D) → i < length xs → R (slice_index_or xs i d) (slice_index_or ys i d)) → Both R xs ys
  both-each-at R [] [] e h = tt
  both-each-at R [] (y ∷ ys) e h = absurd (omega (arith, e))
  both-each-at R (x ∷ xs) [] e h = absurd (omega (arith, e))
  both-each-at R (x ∷ xs) (y ∷ ys) e h = (h 0 x (omega arith), both-each-at R xs ys (omega (arith, e)) (λ i d lt. h (suc i) d (omega (arith, lt))))

  pub moved : (R : D → D → Type 0) (a b x y : D) → a ≡ x → b ≡ y → R a b → R x y
  moved R a b x y e k h = subst (λ z. R z y) e (subst (R a) k h)
