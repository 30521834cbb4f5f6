-- Loops over what is left of a list: what stands in it, and what holds of all that does.
use Rattle.std.proofs.Common.{◌≡◌, ◌<◌, ◌⊎◌, inl, inr, List, [], ◌∷◌, length, Option, None, refl, sym, subst, arith}
use Rattle.std.specs.Option.{IsSome}
use Rattle.hx_types.specs.Words.{IsIn}
use Rattle.hx_audit.specs.Walking.{HasIn}

pub in_none : {A : Type 0} (x : A) (xs : List A) → length xs ≡ 0 → IsIn x xs → ⊥
in_none x [] e i = i
in_none x (y ∷ ys) e i = omega (arith, e)

pub in_here : {A : Type 0} (x : A) (xs rest : List A) → xs ≡ x ∷ rest → IsIn x xs
in_here x xs rest e = subst (IsIn x) (sym e) (inl refl)

pub in_later : {A : Type 0} (x y : A) (xs rest : List A) → xs ≡ y ∷ rest → IsIn x rest → IsIn x xs
in_later x y xs rest e i = subst (IsIn x) (sym e) (inr i)

pub in_split : {A : Type 0} (x y : A) (xs rest : List A) → xs ≡ y ∷ rest → IsIn x xs → (x ≡ y) ⊎ IsIn x rest
in_split x y xs rest e i = subst (IsIn x) e i

pub in_first : {A : Type 0} (x y : A) (xs rest : List A) → xs ≡ y ∷ rest → x ≡ y → IsIn x xs
in_first x y xs rest e q = subst (IsIn x) (sym e) (inl q)

pub in_rest : {A : Type 0} (x y : A) (xs rest : List A) → xs ≡ y ∷ rest → (x ≡ y → ⊥) → IsIn x xs → IsIn x rest
in_rest x y xs rest e apart i = by (in_split x y xs rest e i)
  where
    by : (x ≡ y) ⊎ IsIn x rest → IsIn x rest
    by (inl q) = absurd (apart q)
    by (inr j) = j

pub has_none : {A : Type 0} (P : A → Type 0) (xs : List A) → length xs ≡ 0 → HasIn P xs → ⊥
has_none P xs e h = in_none h.item xs e h.stands

pub has_here : {A : Type 0} (P : A → Type 0) (x : A) (xs rest : List A) → xs ≡ x ∷ rest → P x → HasIn P xs
has_here P x xs rest e p = record { item = x; stands = in_here x xs rest e; is = p }

pub has_later : {A : Type 0} (P : A → Type 0) (x : A) (xs rest : List A) → xs ≡ x ∷ rest → HasIn P rest → HasIn P xs
has_later P x xs rest e h = record { item = h.item; stands = in_later h.item x xs rest e h.stands; is = h.is }

abbrev pub AllIn : {A : Type 0} → (A → Type 0) → List A → Type 0
AllIn {A} P xs = (x : A) → IsIn x xs → P x

pub all_more : {A : Type 0} (P : A → Type 0) (x : A) (xs rest : List A) → xs ≡ x ∷ rest → P x → AllIn P rest → AllIn P xs
all_more P x xs rest e p all y i = by (in_split y x xs rest e i)
  where
    by : (y ≡ x) ⊎ IsIn y rest → P y
    by (inl q) = subst P (sym q) p
    by (inr j) = all y j
