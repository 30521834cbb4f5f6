-- Places of a list.
use Rattle.std.proofs.Common.{◌≡◌, ◌⊎◌, inl, inr, ℕ, zero, suc, ◌+◌, ◌<◌, ◌≤◌, List, [], ◌∷◌, length, map, drop, refl, sym, ap, ◌∙◌, subst, arith}
use Rattle.std.proofs.lemmas.Option.{get_or_from_slice_get}
use Rattle.std.proofs.lemmas.List.Elements.{All-get_or}
use Rattle.std.specs.Prelude.{slice_get, slice_index_or, slice_set, Option, Some, None}
use Rattle.std.specs.List.{All}

pub some-same : {A : Type 0} {x y : A} → Some x ≡ Some y → x ≡ y
some-same {A} {x} {y} h = ap (λ (o : Option A). from o) h where
  from : Option A → A
  from None = x
  from (Some z) = z

pub none-some : {A : Type 0} (x : A) → None ≡ Some x → ⊥
none-some x p = cc

pub set_same : {A : Type 0} (xs : List A) (i : ℕ) (x : A) → slice_get xs i ≡ Some x → slice_set xs i x ≡ xs
set_same [] i x h = refl
set_same (y ∷ ys) zero x h = ap (λ z. z ∷ ys) (sym (some-same h))
set_same (y ∷ ys) (suc i) x h = ap (λ (l : List _). y ∷ l) (set_same ys i x h)

pub get-map : {A B : Type 0} (f : A → B) (xs : List A) (i : ℕ) (x : A) → slice_get xs i ≡ Some x → slice_get (map f xs) i ≡ Some (f x)
get-map f [] i x h = cc
get-map f (y ∷ ys) zero x h = ap (λ z. Some (f z)) (some-same h)
get-map f (y ∷ ys) (suc i) x h = get-map f ys i x h

pub set-map : {A B : Type 0} (f : A → B) (xs : List A) (i : ℕ) (x : A) → map f (slice_set xs i x) ≡ slice_set (map f xs) i (f x)
set-map f [] i x = refl
set-map f (y ∷ ys) zero x = refl
set-map f (y ∷ ys) (suc i) x = ap (λ (l : List _). f y ∷ l) (set-map f ys i x)

-- an item of a list of images is that of an item
pub get-mapped : {A B : Type 0} (f : A → B) (xs : List A) (k : ℕ) (y : B) → slice_get (map f xs) k ≡ Some y → (x : A) × (slice_get xs k ≡ Some x) × (y ≡ f x)
get-mapped f [] k y h = cc
get-mapped f (x ∷ xs) zero y h = (x, refl, sym (some-same h))
get-mapped f (x ∷ xs) (suc k) y h = get-mapped f xs k y h

-- what was put at a place stands there, and everything else where it stood
pub get-set-same : {A : Type 0} (xs : List A) (k : ℕ) (y x : A) → slice_get xs k ≡ Some x → slice_get (slice_set xs k y) k ≡ Some y
get-set-same [] k y x at = cc
get-set-same (z ∷ zs) zero y x at = refl
get-set-same (z ∷ zs) (suc k) y x at = get-set-same zs k y x at

pub get-set-other : {A : Type 0} (xs : List A) (k j : ℕ) (y : A) → (j ≡ k → ⊥) → slice_get (slice_set xs k y) j ≡ slice_get xs j
get-set-other [] k j y ne = refl
get-set-other (z ∷ zs) zero zero y ne = absurd (ne refl)
get-set-other (z ∷ zs) zero (suc j) y ne = refl
get-set-other (z ∷ zs) (suc k) zero y ne = refl
get-set-other (z ∷ zs) (suc k) (suc j) y ne = get-set-other zs k j y (λ e. ne (ap (λ n. suc n) e))

-- an item of a list with one item put at a place is that item or stood elsewhere
pub get-set : {A : Type 0} (xs : List A) (k j : ℕ) (y x : A) → slice_get (slice_set xs k y) j ≡ Some x
    → ((j ≡ k) × (x ≡ y)) ⊎ ((j ≡ k → ⊥) × (slice_get xs j ≡ Some x))
get-set [] k j y x h = cc
get-set (z ∷ zs) zero zero y x h = inl (refl, sym (some-same h))
get-set (z ∷ zs) zero (suc j) y x h = inr ((λ e. omega (arith, e)), h)
get-set (z ∷ zs) (suc k) zero y x h = inr ((λ e. omega (arith, e)), h)
get-set (z ∷ zs) (suc k) (suc j) y x h = elim (get-set zs k j y x h) [
  | inl q ↦ inl (ap (λ n. suc n) q.0, q.1)
  | inr q ↦ inr ((λ e. q.0 (let s : j ≡ k = omega (arith, e) in s)), q.1)
]

-- putting the item back
pub set-back : {A : Type 0} (xs : List A) (k : ℕ) (y x : A) → slice_get xs k ≡ Some x → slice_set (slice_set xs k y) k x ≡ xs
set-back [] k y x h = refl
set-back (z ∷ zs) zero y x h = ap (λ w. w ∷ zs) (sym (some-same h))
set-back (z ∷ zs) (suc k) y x h = ap (λ (l : List _). z ∷ l) (set-back zs k y x h)

pub length-set : {A : Type 0} (xs : List A) (k : ℕ) (y : A) → length (slice_set xs k y) ≡ length xs
length-set [] k y = refl
length-set (z ∷ zs) zero y = refl
length-set (z ∷ zs) (suc k) y = ap (λ n. suc n) (length-set zs k y)

pub length-map : {A B : Type 0} (f : A → B) (xs : List A) → length (map f xs) ≡ length xs
length-map f [] = refl
length-map f (x ∷ xs) = ap (λ n. suc n) (length-map f xs)

-- native numbers compute at literals alone
pub suc-is : (i : ℕ) → suc i ≡ i + 1
suc-is i = omega arith

drop-suc : {A : Type 0} (xs : List A) (i : ℕ) (x : A) → slice_get xs i ≡ Some x → drop i xs ≡ x ∷ drop (suc i) xs
drop-suc [] i x h = cc
drop-suc (y ∷ ys) zero x h = ap (λ z. z ∷ ys) (some-same h)
drop-suc (y ∷ ys) (suc i) x h = drop-suc ys i x h

pub drop-here : {A : Type 0} (xs : List A) (i : ℕ) (x : A) → slice_get xs i ≡ Some x → drop i xs ≡ x ∷ drop (i + 1) xs
drop-here xs i x h = drop-suc xs i x h ∙ ap (λ n. x ∷ drop n xs) (suc-is i)

pub drop-none : {A : Type 0} (xs : List A) (i : ℕ) → length xs ≤ i → drop i xs ≡ []
drop-none [] zero p = refl
drop-none [] (suc i) p = refl
drop-none (x ∷ xs) zero p = absurd (omega arith)
drop-none (x ∷ xs) (suc i) p = drop-none xs i (omega arith)

pub get-index : {A : Type 0} (xs : List A) (k : ℕ) (x : A) → k < length xs → x ≡ slice_index_or xs k x → slice_get xs k ≡ Some x
get-index [] k x h e = absurd (omega arith)
get-index (y ∷ ys) zero x h e = ap (λ z. Some z) (sym e)
get-index (y ∷ ys) (suc k) x h e = get-index ys k x (omega arith) e

-- at a place of the list stands something
pub something : {A : Type 0} (xs : List A) (k : ℕ) → k < length xs → (x : A) × (slice_get xs k ≡ Some x)
something [] k h = absurd (omega arith)
something (x ∷ xs) zero h = (x, refl)
something (x ∷ xs) (suc k) h = something xs k (omega arith)

pub within : {A : Type 0} (xs : List A) (k : ℕ) (x : A) → slice_get xs k ≡ Some x → k < length xs
within [] k x h = cc
within (y ∷ ys) zero x h = omega arith
within (y ∷ ys) (suc k) x h = let p = within ys k x h in omega (arith, p)

-- what holds of each item
pub all-at : {A : Type 0} (P : A → Type 0) (xs : List A) (i : ℕ) (x : A) → All P xs → slice_get xs i ≡ Some x → P x
all-at P xs i x h e = subst P (get_or_from_slice_get xs i x x e) (All-get_or P xs i x (within xs i x e) h)

pub all-from : {A : Type 0} (P : A → Type 0) (xs : List A) → ((i : ℕ) (x : A) → slice_get xs i ≡ Some x → P x) → All P xs
all-from P xs f k d h = let x = something xs k h in subst P (sym (get_or_from_slice_get xs k x.0 d x.1)) (f k x.0 x.1)
