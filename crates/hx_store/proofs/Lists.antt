-- Items of lists by their places.
use Rattle.std.proofs.Common.{◌≡◌, ℕ, zero, suc, ◌<◌, ◌+◌, true, List, [], ◌∷◌, ◌++◌, map, length, take, Some, refl}
use Rattle.std.proofs.Common.{ap, sym, ◌∙◌, subst, arith, eqb, add-one, append-nil, append_assoc}
use Rattle.std.specs.List.{AllByRecursion, flat_map, list_any, slice_get}
use Rattle.std.proofs.lemmas.Bool.{eq-eqb, or_left, or_right}
use Rattle.std.proofs.lemmas.Option.{same_Some}
use Rattle.indexmap.specs.IndexMap.{set_value_at}

-- what holds of each item holds of that at a place
pub all-at : {A : Type 0} (P : A → Type 0) (xs : List A) (i : ℕ) (x : A) → AllByRecursion P xs → slice_get xs i ≡ Some x → P x
all-at P [] i x h e = absurd cc
all-at P (y ∷ ys) zero x h e = subst P (same_Some y x e) h.0
all-at P (y ∷ ys) (suc i) x h e = all-at P ys i x h.1 e

-- there is an item at each place of the list
pub at-within : {A : Type 0} (xs : List A) (i : ℕ) → i < length xs → (x : A) × (slice_get xs i ≡ Some x)
at-within [] i l = absurd (omega arith)
at-within (x ∷ xs) zero l = (x, refl)
at-within (x ∷ xs) (suc i) l = at-within xs i (omega arith)

pub at-map : {A B : Type 0} (f : A → B) (xs : List A) (i : ℕ) (x : A) → slice_get xs i ≡ Some x → slice_get (map f xs) i ≡ Some (f x)
at-map f [] i x e = absurd cc
at-map f (y ∷ ys) zero x e = ap (λ z. Some (f z)) (same_Some y x e)
at-map f (y ∷ ys) (suc i) x e = at-map f ys i x e

pub length-of-map : {A B : Type 0} (f : A → B) (xs : List A) → length (map f xs) ≡ length xs
length-of-map f [] = refl
length-of-map f (x ∷ xs) = ap suc (length-of-map f xs)

pub at-front : {A : Type 0} (xs ys : List A) (i : ℕ) (x : A) → slice_get xs i ≡ Some x → slice_get (xs ++ ys) i ≡ Some x
at-front [] ys i x e = absurd cc
at-front (y ∷ xs) ys zero x e = e
at-front (y ∷ xs) ys (suc i) x e = at-front xs ys i x e

pub at-end : {A : Type 0} (xs : List A) (x : A) → slice_get (xs ++ x ∷ []) (length xs) ≡ Some x
at-end [] x = refl
at-end (y ∷ xs) x = at-end xs x

-- a value that is set at a place
module _ {K X : Type 0} where
  pub set-here : (es : List (K × X)) (i : ℕ) (e : K × X) (w : X) → slice_get es i ≡ Some e → slice_get (set_value_at es i w) i ≡ Some (e.0, w)
  set-here [] i e w h = absurd cc
  set-here (x ∷ es) zero e w h = ap (λ (y : K × X). Some (y.0, w)) (same_Some x e h)
  set-here (x ∷ es) (suc i) e w h = set-here es i e w h

  pub set-elsewhere : (es : List (K × X)) (i j : ℕ) (w : X) → (j ≡ i → ⊥) → slice_get (set_value_at es i w) j ≡ slice_get es j
  set-elsewhere [] i j w n = refl
  set-elsewhere (x ∷ es) zero zero w n = absurd (n refl)
  set-elsewhere (x ∷ es) zero (suc j) w n = refl
  set-elsewhere (x ∷ es) (suc i) zero w n = refl
  set-elsewhere (x ∷ es) (suc i) (suc j) w n = set-elsewhere es i j w (λ e. n (ap suc e))

  pub set-length : (es : List (K × X)) (i : ℕ) (w : X) → length (set_value_at es i w) ≡ length es
  set-length [] i w = refl
  set-length (x ∷ es) zero w = refl
  set-length (x ∷ es) (suc i) w = ap suc (set-length es i w)

-- what holds of each place that is among places
pub all-among : (Q : ℕ → Type 0) (order : List ℕ) → ((i : ℕ) → list_any (λ j. eqb j i) order ≡ true → Q i) → AllByRecursion Q order
all-among Q [] f = tt
all-among Q (j ∷ rest) f = (f j (or_left (eqb j j) _ (eq-eqb j j refl)), all-among Q rest (λ i e. f i (or_right (eqb j i) _ e)))

-- one item more of a list, and of those that stand behind others
take_one : {A : Type 0} (xs : List A) (i : ℕ) (x : A) → slice_get xs i ≡ Some x → take (suc i) xs ≡ take i xs ++ x ∷ []
take_one [] i x e = absurd cc
take_one (y ∷ ys) zero x e = ap (λ z. z ∷ []) (same_Some y x e)
take_one (y ∷ ys) (suc i) x e = ap (λ zs. y ∷ zs) (take_one ys i x e)

pub take_next : {A : Type 0} (xs : List A) (i : ℕ) (x : A) → slice_get xs i ≡ Some x → take (i + 1) xs ≡ take i xs ++ x ∷ []
take_next xs i x e = ap (λ n. take n xs) (add-one i) ∙ take_one xs i x e

pub more_of : {A : Type 0} (before new now xs : List A) (i : ℕ) (x : A) → now ≡ before ++ take i xs
    → slice_get xs i ≡ Some x → new ≡ now ++ x ∷ [] → new ≡ before ++ take (i + 1) xs
more_of before new now xs i x e at is = is ∙ ap (λ l. l ++ x ∷ []) e ∙ append_assoc before (take i xs) (x ∷ [])
    ∙ sym (ap (λ l. before ++ l) (take_next xs i x at))

flat-more : {A B : Type 0} (f : A → List B) (xs : List A) (x : A) → flat_map f (xs ++ x ∷ []) ≡ flat_map f xs ++ f x
flat-more f [] x = append-nil (f x)
flat-more f (y ∷ ys) x = ap (λ l. f y ++ l) (flat-more f ys x) ∙ sym (append_assoc (f y) (flat_map f ys) (f x))

pub flat-next : {A B : Type 0} (f : A → List B) (xs : List A) (i : ℕ) (x : A) → slice_get xs i ≡ Some x
    → flat_map f (take i xs) ++ f x ≡ flat_map f (take (i + 1) xs)
flat-next f xs i x e = sym (ap (flat_map f) (take_next xs i x e) ∙ flat-more f (take i xs) x)
