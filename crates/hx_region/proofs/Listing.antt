-- What stands in a list that is counted up, mapped, filtered and searched.
use Rattle.std.proofs.Common.{◌≡◌, ℕ, zero, suc, ◌<◌, Bool, true, false, cond, ◌||◌, ◌⊎◌, inl, inr, List, [], ◌∷◌}
use Rattle.std.proofs.Common.{◌++◌, map, length, get_or, Option, Some, refl, sym, ap, ◌∙◌, subst, arith}
use Rattle.std.specs.List.{All, AllPairs, Contains, filter, find, list_any}
use Rattle.std.proofs.lemmas.Bool.{cases_order}
use Rattle.std.proofs.lemmas.List.Elements.{All-cons, All-map, All-nil, Contains-append_left, Contains-push}
use Rattle.std.proofs.lemmas.List.Quantifiers.{all_pairs_push}
use Rattle.hx_types.specs.Words.{below}
use Rattle.hx_region.proofs.Counted.{All-below}

pub clash : (b : Bool) → b ≡ true → b ≡ false → ⊥
clash true p q = cc
clash false p q = cc

neither : (a b : Bool) → (a || b) ≡ false → (a ≡ false) × (b ≡ false)
neither true b e = cc
neither false b e = (refl, e)

-- a test that no element passes
pub none_passes : {X : Type 0} (p : X → Bool) (xs : List X) → list_any p xs ≡ false → All (λ x. p x ≡ false) xs
none_passes p [] e = All-nil (λ x. p x ≡ false)
none_passes p (x ∷ xs) e = (let h = neither (p x) (list_any p xs) e in All-cons (λ x. p x ≡ false) x xs h.0 (none_passes p xs h.1))

pub Contains-below : (n k : ℕ) → k < n → Contains (below n) k
Contains-below zero k l = absurd (omega (arith, l))
Contains-below (suc n) k l = elim (cases_order k n) [
  | inl e ↦ subst (λ m. Contains (below n ++ n ∷ []) m) (sym e) (Contains-push (below n) n)
  | inr (inl h) ↦ Contains-append_left (below n) (n ∷ []) k (Contains-below n k h)
  | inr (inr h) ↦ absurd (omega (arith, h, l))
]

pub Contains-map : {X Y : Type 0} (f : X → Y) (xs : List X) (x : X) → Contains xs x → Contains (map f xs) (f x)
Contains-map {X} {Y} f xs x c = by xs c.0 c.1 c.2
  where
    by : (ys : List X) (k : ℕ) → k < length ys → get_or ys k x ≡ x → Contains (map f ys) (f x)
    by [] k l e = absurd (omega (arith, l))
    by (y ∷ ys) zero l e = (0, omega arith, ap f e)
    by (y ∷ ys) (suc k) l e = (let r = by ys k (omega (arith, l)) e in (suc r.0, omega (arith, r.1), r.2))

pub Contains-filter : {X : Type 0} (p : X → Bool) (xs : List X) (x : X) → p x ≡ true → Contains xs x → Contains (filter p xs) x
Contains-filter {X} p xs x t c = by xs c.0 c.1 c.2
  where
    here : (y : X) (ys : List X) → y ≡ x → (b : Bool) → b ≡ true → Contains (cond b (y ∷ ys) ys) x
    here y ys e true q = (0, omega arith, e)
    here y ys e false q = cc

    later : (y : X) (ys : List X) → Contains ys x → (b : Bool) → Contains (cond b (y ∷ ys) ys) x
    later y ys r true = (suc r.0, omega (arith, r.1), r.2)
    later y ys r false = r

    by : (ys : List X) (k : ℕ) → k < length ys → get_or ys k x ≡ x → Contains (filter p ys) x
    by [] k l e = absurd (omega (arith, l))
    by (y ∷ ys) zero l e = here y (filter p ys) e (p y) (ap p e ∙ t)
    by (y ∷ ys) (suc k) l e = later y (filter p ys) (by ys k (omega (arith, l)) e) (p y)

or_rest : (a b : Bool) → a ≡ false → (a || b) ≡ true → b ≡ true
or_rest true b q e = cc
or_rest false b q e = e

-- the first that passes a test, and that none before it does
abbrev pub IsFirst : {X : Type 0} → (X → X → Type 0) → (X → Bool) → List X → Option X → Type 0
IsFirst {X} R p xs found = (x : X) × (found ≡ Some x) × Contains xs x × (p x ≡ true) × All (λ y. p y ≡ true → (x ≡ y) ⊎ R x y) xs

pub find_first : {X : Type 0} (R : X → X → Type 0) (p : X → Bool) (xs : List X) → AllPairs R xs → list_any p xs ≡ true → IsFirst R p xs (find p xs)
find_first R p [] a e = cc
find_first {X} R p (x ∷ xs) a e =
    by (p x) refl (λ q. find_first R p xs (λ i j d l m. a (suc i) (suc j) d (omega (arith, l)) (omega (arith, m))) (or_rest (p x) (list_any p xs) q e))
  where
    by : (b : Bool) → p x ≡ b → (p x ≡ false → IsFirst R p xs (find p xs)) → IsFirst R p (x ∷ xs) (cond b (Some x) (find p xs))
    by true q rest = (
      x,
      refl,
      (0, omega arith, refl),
      q,
      All-cons (λ y. p y ≡ true → (x ≡ y) ⊎ R x y) x xs (λ t. inl refl) (λ k d l t. inr (a 0 (suc k) d (omega arith) (omega (arith, l)))),
    )
    by false q rest =
        let r = rest q in (
          r.0,
          r.1,
          (suc r.2.0, omega (arith, r.2.1), r.2.2),
          r.3,
          All-cons (λ y. p y ≡ true → (r.0 ≡ y) ⊎ R r.0 y) x xs (λ t. absurd (clash (p x) t q)) r.4,
        )

map_end : {A B : Type 0} (f : A → B) (xs : List A) (y : A) → map f (xs ++ y ∷ []) ≡ map f xs ++ f y ∷ []
map_end f [] y = refl
map_end f (x ∷ xs) y = ap (λ (l : List _). f x ∷ l) (map_end f xs y)

-- what is counted up in order
pub below_ascends : {X : Type 0} (R : X → X → Type 0) (f : ℕ → X) (n : ℕ) → ((i j : ℕ) → i < j → j < n → R (f i) (f j)) → AllPairs R (map f (below n))
below_ascends R f zero h = λ i j d l m. absurd (omega (arith, m))
below_ascends {X} R f (suc n) h =
    subst (λ (l : List X). AllPairs R l) (sym (map_end f (below n) n))
    (all_pairs_push R (map f (below n)) (f n) (below_ascends R f n (λ i j l m. h i j l (omega (arith, m))))
    (All-map (λ y. R y (f n)) f (below n) (All-below (λ k. R (f k) (f n)) n (λ k l. h k n l (omega arith)))))
