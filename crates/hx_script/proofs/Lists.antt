-- Lists of lists.
use Rattle.std.proofs.Common.{◌≡◌, ℕ, zero, suc, ◌+◌, ◌-◌, ◌<◌, List, [], ◌∷◌, ◌++◌, length, set, Option, Some, None, refl, ap, arith}
use Rattle.std.proofs.lemmas.Option.{slice_get_within}
use Rattle.std.specs.Prelude.{slice_get}
use Rattle.hx_script.specs.Grammar.{push_to_last}

pub push_to_last_is : {A : Type 0} (front : List (List A)) (xs : List A) (x : A) → push_to_last (front ++ xs ∷ []) x ≡ front ++ (xs ++ x ∷ []) ∷ []
push_to_last_is [] xs x = refl
push_to_last_is (ys ∷ []) xs x = refl
push_to_last_is (ys ∷ zs ∷ front) xs x = ap (λ r. ys ∷ r) (push_to_last_is (zs ∷ front) xs x)

abbrev some : {A : Type 0} → A → Option A
some x = Some x

same : {A : Type 0} (x y : A) → some x ≡ some y → x ≡ y
same x y e = cc

last_at : {A : Type 0} (lists : List (List A)) (place : ℕ) (last : List A) (x : A) → place + 1 ≡ length lists
    → slice_get lists place ≡ Some last → set lists place (last ++ x ∷ []) ≡ push_to_last lists x
last_at [] place last x len e = absurd (omega (arith, len))
last_at (ys ∷ []) zero last x len e = ap (λ l. (l ++ x ∷ []) ∷ []) (same last ys cc)
last_at (ys ∷ []) (suc place) last x len e = absurd (omega (arith, len))
last_at (ys ∷ zs ∷ front) zero last x len e = absurd (omega (arith, len))
last_at (ys ∷ zs ∷ front) (suc place) last x len e = ap (λ r. ys ∷ r) (last_at (zs ∷ front) place last x (omega (arith, len)) e)

-- the last list with one more item, by its place
pub push_at_last_place : {A : Type 0} (lists : List (List A)) (last : List A) (x : A)
    → slice_get lists (length lists - 1) ≡ Some last → set lists (length lists - 1) (last ++ x ∷ []) ≡ push_to_last lists x
push_at_last_place lists last x e = last_at lists (length lists - 1) last x (omega (arith, slice_get_within lists (length lists - 1) last e)) e

some_at : {A : Type 0} (lists : List A) (place : ℕ) → place < length lists → slice_get lists place ≡ None → ⊥
some_at [] place lt e = omega (arith, lt)
some_at (ys ∷ lists) zero lt e = cc
some_at (ys ∷ lists) (suc place) lt e = some_at lists place (omega (arith, lt)) e

-- without a last list there is none
pub no_last : {A : Type 0} (lists : List (List A)) (x : A) → slice_get lists (length lists - 1) ≡ None → push_to_last lists x ≡ lists
no_last [] x e = refl
no_last (ys ∷ lists) x e = absurd (some_at (ys ∷ lists) (length (ys ∷ lists) - 1) (omega arith) e)
