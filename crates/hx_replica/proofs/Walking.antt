-- The slots of a store one after another, and those that are made of them.
use Rattle.std.proofs.Common.{◌≡◌, ℕ, zero, suc, ◌+◌, ◌<◌, List, [], ◌∷◌, ◌++◌, drop, take, length, None, Some}
use Rattle.std.proofs.Common.{add-one, ap, sym, ◌∙◌, append_assoc, append-nil, arith}
use Rattle.std.specs.List.{flat_map, slice_get}
use Rattle.std.proofs.lemmas.Grind.{flat_map-append}
use Rattle.std.proofs.lemmas.Option.{same_Some}
use Rattle.hx_replica.proofs.Turns.{take_next}

-- what is posted of one item more
pub flat_more : {A B : Type 0} (f : A → List B) (xs : List A) (i : ℕ) (x : A) (old new posts : List B)
    → slice_get xs i ≡ Some x → old ≡ posts ++ flat_map f (take i xs) → new ≡ old ++ f x
    → new ≡ posts ++ flat_map f (take (i + 1) xs)
flat_more f xs i x old new posts at o n =
    n ∙ ap (λ (ps : List _). ps ++ f x) o ∙ append_assoc posts (flat_map f (take i xs)) (f x)
    ∙ ap (λ (ps : List _). posts ++ ps) (ap (λ (ps : List _). flat_map f (take i xs) ++ ps) (sym (append-nil (f x)))
    ∙ sym (flat_map-append f (take i xs) (x ∷ [])) ∙ ap (flat_map f) (sym (take_next xs i x at)))

-- what stands at a place is the first of the rest, and nothing stands past the end
pub drop_at : {A : Type 0} (xs : List A) (i : ℕ) (x : A) → slice_get xs i ≡ Some x → drop i xs ≡ x ∷ drop (i + 1) xs
drop_at xs i x e = by xs i e ∙ ap (λ n. x ∷ drop n xs) (sym (add-one i))
  where
    by : (ys : List _) (i : ℕ) → slice_get ys i ≡ Some x → drop i ys ≡ x ∷ drop (suc i) ys
    by [] i e = absurd cc
    by (y ∷ ys) zero e = ap (λ z. z ∷ ys) (same_Some y x e)
    by (y ∷ ys) (suc i) e = by ys i e

-- there is an item at each place of a list
pub none_within : {A : Type 0} (xs : List A) (i : ℕ) → None ≡ slice_get xs i → i < length xs → ⊥
none_within [] i e l = omega (arith, l)
none_within (x ∷ xs) zero e l = cc
none_within (x ∷ xs) (suc i) e l = none_within xs i e (omega (arith, l))
