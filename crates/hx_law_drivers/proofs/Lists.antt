-- Lists place by place, prefixes, and sums.
use Rattle.std.proofs.Common.{◌≡◌, ℕ, zero, suc, ◌+◌, ◌<◌, ◌≤◌, ◌⊎◌, inl, inr, ⊎_elim, Bool, true, false, List, []}
use Rattle.std.proofs.Common.{◌∷◌, ◌++◌, map, take, length, flat_map, Some, slice_get, refl, ap, sym, subst, ◌∙◌}
use Rattle.std.proofs.Common.{arith, length-append}
use Rattle.std.specs.List.{AllByRecursion}
use mathlib.Core.List.{IsPrefix}
use Rattle.hx_types.specs.Words.{IsIn}
use Rattle.hx_clock.specs.Views.{total}
use Rattle.hx_clock.proofs.Lemmas.{in_left, in_right, total-append}
use Rattle.hx_law_threads.proofs.Lemmas.{in_append}
use Rattle.hx_outbox.specs.Zipped.{Both}

pub lt_or_le : (m n : ℕ) → (m < n) ⊎ (n ≤ m)
lt_or_le m zero = inr (omega arith)
lt_or_le zero (suc n) = inl (omega arith)
lt_or_le (suc m) (suc n) = ⊎_elim (λ (h : m < n). inl (omega (arith, h))) (λ (h : n ≤ m). inr (omega (arith, h))) (lt_or_le m n)

pub bool_cases : (b : Bool) → (b ≡ true) ⊎ (b ≡ false)
bool_cases true = inl refl
bool_cases false = inr refl

pub bools_same : (a b : Bool) → (a ≡ true → b ≡ true) → (b ≡ true → a ≡ true) → a ≡ b
bools_same true b f g = sym (f refl)
bools_same false true f g = g refl
bools_same false false f g = refl

-- a prefix of a list
module _ {A : Type 0} where
  get_front : (xs ys : List A) (n : ℕ) → n < length xs → slice_get (xs ++ ys) n ≡ slice_get xs n
  get_front [] ys n lt = absurd (omega (arith, lt))
  get_front (x ∷ xs) ys zero lt = refl
  get_front (x ∷ xs) ys (suc n) lt = get_front xs ys n (omega (arith, lt))

  pub prefix_get : (xs ys : List A) (n : ℕ) → IsPrefix xs ys → n < length xs → slice_get ys n ≡ slice_get xs n
  prefix_get xs ys n p lt = ap (λ l. slice_get l n) (sym p.1) ∙ get_front xs p.0 n lt

  pub prefix_length : (xs ys : List A) → IsPrefix xs ys → length xs ≤ length ys
  prefix_length xs ys p = omega (arith, ap length p.1, length-append xs p.0)

  take_front : (xs ys : List A) → take (length xs) (xs ++ ys) ≡ xs
  take_front [] ys = refl
  take_front (x ∷ xs) ys = ap (λ l. x ∷ l) (take_front xs ys)

  pub prefix_take : (xs ys : List A) (n : ℕ) → IsPrefix xs ys → n ≡ length xs → take n ys ≡ xs
  prefix_take xs ys n p e = ap (λ k. take k ys) e ∙ ap (take (length xs)) (sym p.1) ∙ take_front xs p.0

  pub snoc_get : (xs : List A) (x : A) → slice_get (xs ++ x ∷ []) (length xs) ≡ Some x
  snoc_get [] x = refl
  snoc_get (y ∷ xs) x = snoc_get xs x

  abbrev head_or : A → List A → A
  head_or d [] = d
  head_or d (x ∷ xs) = x

  abbrev tail_of : List A → List A
  tail_of [] = []
  tail_of (x ∷ xs) = xs

  -- two prefixes of one list that are as long are the same
  pub prefix_same : (xs ys zs : List A) → IsPrefix xs zs → IsPrefix ys zs → length xs ≡ length ys → xs ≡ ys
  prefix_same [] [] zs h k e = refl
  prefix_same [] (y ∷ ys) zs h k e = absurd (omega (arith, e))
  prefix_same (x ∷ xs) [] zs h k e = absurd (omega (arith, e))
  prefix_same (x ∷ xs) (y ∷ ys) [] h k e = absurd (omega (arith, ap length h.1))
  prefix_same (x ∷ xs) (y ∷ ys) (z ∷ zs) h k e =
      let a : x ≡ y = ap (head_or x) (h.1 ∙ sym k.1) in
      let b : xs ++ h.0 ≡ zs = ap tail_of h.1 in
      let c : ys ++ k.0 ≡ zs = ap tail_of k.1 in
      ap (λ v. v ∷ xs) a ∙ ap (λ l. y ∷ l) (prefix_same xs ys zs (h.0, b) (k.0, c) (omega (arith, e)))

-- relations place by place
module _ {A B : Type 0} where
  pub both_in : (R : A → B → Type 0) (xs : List A) (ys : List B) (x : A) → Both R xs ys → IsIn x xs → (y : B) × IsIn y ys × R x y
  both_in R [] ys x h i = absurd i
  both_in R (a ∷ xs) [] x h i = absurd h
  both_in R (a ∷ xs) (b ∷ ys) x h (inl e) = (b, inl refl, subst (λ z. R z b) (sym e) h.0)
  both_in R (a ∷ xs) (b ∷ ys) x h (inr i) = let r = both_in R xs ys x h.1 i in (r.0, inr r.1, r.2)

  pub both_back : (R : A → B → Type 0) (xs : List A) (ys : List B) (y : B) → Both R xs ys → IsIn y ys → (x : A) × IsIn x xs × R x y
  both_back R [] [] y h i = absurd i
  both_back R [] (b ∷ ys) y h i = absurd h
  both_back R (a ∷ xs) [] y h i = absurd i
  both_back R (a ∷ xs) (b ∷ ys) y h (inl e) = (a, inl refl, subst (λ z. R a z) (sym e) h.0)
  both_back R (a ∷ xs) (b ∷ ys) y h (inr i) = let r = both_back R xs ys y h.1 i in (r.0, inr r.1, r.2)

  pub both_and : (R S : A → B → Type 0) (xs : List A) (ys : List B) → Both R xs ys → Both S xs ys → Both (λ x y. R x y × S x y) xs ys
  both_and R S [] [] h k = tt
  both_and R S [] (y ∷ ys) h k = absurd h
  both_and R S (x ∷ xs) [] h k = absurd h
  both_and R S (x ∷ xs) (y ∷ ys) h k = ((h.0, k.0), both_and R S xs ys h.1 k.1)

  pub both_map : (R S : A → B → Type 0) → ((x : A) (y : B) → R x y → S x y) → (xs : List A) (ys : List B) → Both R xs ys → Both S xs ys
  both_map R S f [] [] h = tt
  both_map R S f [] (y ∷ ys) h = absurd h
  both_map R S f (x ∷ xs) [] h = absurd h
  both_map R S f (x ∷ xs) (y ∷ ys) h = (f x y h.0, both_map R S f xs ys h.1)

  pub both_append : (R : A → B → Type 0) (xs us : List A) (ys vs : List B) → Both R xs ys → Both R us vs → Both R (xs ++ us) (ys ++ vs)
  both_append R [] us [] vs h k = k
  both_append R [] us (y ∷ ys) vs h k = absurd h
  both_append R (x ∷ xs) us [] vs h k = absurd h
  both_append R (x ∷ xs) us (y ∷ ys) vs h k = (h.0, both_append R xs us ys vs h.1 k)

pub both_self : {A : Type 0} (R : A → A → Type 0) → ((x : A) → R x x) → (xs : List A) → Both R xs xs
both_self R f [] = tt
both_self R f (x ∷ xs) = (f x, both_self R f xs)

pub both_then : {A B C : Type 0} (R : A → B → Type 0) (S : B → C → Type 0) (T : A → C → Type 0) → ((x : A) (y : B) (z : C) → R x y → S y z → T x z)
    → (xs : List A) (ys : List B) (zs : List C) → Both R xs ys → Both S ys zs → Both T xs zs
both_then R S T f [] [] [] h k = tt
both_then R S T f [] [] (z ∷ zs) h k = absurd k
both_then R S T f [] (y ∷ ys) zs h k = absurd h
both_then R S T f (x ∷ xs) [] zs h k = absurd h
both_then R S T f (x ∷ xs) (y ∷ ys) [] h k = absurd k
both_then R S T f (x ∷ xs) (y ∷ ys) (z ∷ zs) h k = (f x y z h.0 k.0, both_then R S T f xs ys zs h.1 k.1)

pub map_map : {A B C : Type 0} (f : A → B) (g : B → C) (xs : List A) → map g (map f xs) ≡ map (λ x. g (f x)) xs
map_map f g [] = refl
map_map f g (x ∷ xs) = ap (λ l. g (f x) ∷ l) (map_map f g xs)

pub each_of_map : {A B : Type 0} (f : A → B) (P : B → Type 0) (xs : List A) → AllByRecursion (λ x. P (f x)) xs → AllByRecursion P (map f xs)
each_of_map f P [] h = tt
each_of_map f P (x ∷ xs) h = (h.0, each_of_map f P xs h.1)

pub each_two : {A : Type 0} (P Q R : A → Type 0) → ((x : A) → P x → Q x → R x) → (xs : List A) → AllByRecursion P xs → AllByRecursion Q xs → AllByRecursion R xs
each_two P Q R f [] h k = tt
each_two P Q R f (x ∷ xs) h k = (f x h.0 k.0, each_two P Q R f xs h.1 k.1)

pub of_flat : {A B : Type 0} (f : A → List B) (xs : List A) (y : B) → IsIn y (flat_map f xs) → (x : A) × IsIn x xs × IsIn y (f x)
of_flat f [] y i = absurd i
of_flat f (x ∷ xs) y i =
    ⊎_elim (λ (j : IsIn y (f x)). (x, inl refl, j)) (λ (j : IsIn y (flat_map f xs)). let r = of_flat f xs y j in
    (r.0, inr r.1, r.2)) (in_append (f x) (flat_map f xs) y i)

pub in_flat : {A B : Type 0} (f : A → List B) (xs : List A) (x : A) (y : B) → IsIn x xs → IsIn y (f x) → IsIn y (flat_map f xs)
in_flat f [] x y i j = absurd i
in_flat f (a ∷ xs) x y (inl e) j = in_left y (f a) (flat_map f xs) (subst (λ z. IsIn y (f z)) e j)
in_flat f (a ∷ xs) x y (inr i) j = in_right y (f a) (flat_map f xs) (in_flat f xs x y i j)

-- sums
pub total_of_map : {A B : Type 0} (f : A → B) (g : B → ℕ) (xs : List A) → total g (map f xs) ≡ total (λ x. g (f x)) xs
total_of_map f g [] = refl
total_of_map f g (x ∷ xs) = omega (arith, total_of_map f g xs)

pub total_of_flat : {A B : Type 0} (f : A → List B) (g : B → ℕ) (xs : List A) → total g (flat_map f xs) ≡ total (λ x. total g (f x)) xs
total_of_flat f g [] = refl
total_of_flat f g (x ∷ xs) = omega (arith, total-append g (f x) (flat_map f xs), total_of_flat f g xs)

module _ {A : Type 0} where
  pub total_least : (g : A → ℕ) (xs : List A) (x : A) → IsIn x xs → g x ≤ total g xs
  total_least g [] x i = absurd i
  total_least g (y ∷ xs) x (inl e) = omega (arith, ap g e)
  total_least g (y ∷ xs) x (inr i) = omega (arith, total_least g xs x i)

  pub total_nothing : (g : A → ℕ) (xs : List A) → ((x : A) → IsIn x xs → g x ≡ 0) → total g xs ≡ 0
  total_nothing g [] f = refl
  total_nothing g (x ∷ xs) f = omega (arith, f x (inl refl), total_nothing g xs (λ y i. f y (inr i)))

  pub total_under : (g h : A → ℕ) (xs : List A) → ((x : A) → IsIn x xs → g x ≤ h x) → total g xs ≤ total h xs
  total_under g h [] f = omega arith
  total_under g h (x ∷ xs) f = omega (arith, f x (inl refl), total_under g h xs (λ y i. f y (inr i)))

  -- where one item has so much to spare, so has the sum
  pub total_under_by : (g h : A → ℕ) (n : ℕ) (xs : List A) (x : A) → IsIn x xs → ((y : A) → IsIn y xs → g y ≤ h y) → g x + n ≤ h x → total g xs + n ≤ total h xs
  total_under_by g h n [] x i f le = absurd i
  total_under_by g h n (y ∷ xs) x (inl e) f le = omega (arith, ap g e, ap h e, le, total_under g h xs (λ z j. f z (inr j)))
  total_under_by g h n (y ∷ xs) x (inr i) f le = omega (arith, f y (inl refl), total_under_by g h n xs x i (λ z j. f z (inr j)) le)

  -- an item that counts
  pub total_some : (g : A → ℕ) (xs : List A) → 1 ≤ total g xs → (x : A) × IsIn x xs × (1 ≤ g x)
  total_some g [] le = absurd (omega (arith, le))
  total_some g (x ∷ xs) le =
      ⊎_elim (λ (h : 0 < g x). (x, inl refl, omega (arith, h)))
      (λ (h : g x ≤ 0). let r = total_some g xs (omega (arith, le, h)) in (r.0, inr r.1, r.2)) (lt_or_le 0 (g x))
