-- Lists of which one item changes, and calls that are dealt out by turns.
use Rattle.std.proofs.Common.{◌≡◌, ℕ, zero, suc, ◌+◌, ◌<◌, Bool, true, false, cond, eqb, List, [], ◌∷◌, ◌++◌, length}
use Rattle.std.proofs.Common.{map, Option, Some, None, refl, sym, ap, ◌∙◌, subst, arith, inl, inr}
use Rattle.std.specs.Prelude.{◌⊎◌, IfSome, slice_get, slice_set}
use Rattle.std.specs.List.{All, AllZip}
use Rattle.std.proofs.lemmas.Bool.{cases_eq, eqb-false, ne_eqb}
use Rattle.std.proofs.lemmas.List.{length_push}
use Rattle.std.proofs.lemmas.List.Elements.{All-nil, All-cons, All-head, All-tail}
use Rattle.std.proofs.lemmas.Option.{same_Some}
use Rattle.hx_bundle.specs.Bundles.{AreDealt, times}
use Rattle.hx_types.specs.declared.calls.Op.{Op}
use Rattle.hx_script.specs.Grammar.{push_to_last}

-- ---- places

pub get_set_same : {A : Type 0} (xs : List A) (k : ℕ) (x y : A) → slice_get xs k ≡ Some x → slice_get (slice_set xs k y) k ≡ Some y
get_set_same [] k x y e = absurd cc
get_set_same (z ∷ xs) zero x y e = refl
get_set_same (z ∷ xs) (suc k) x y e = get_set_same xs k x y e

pub get_set_other : {A : Type 0} (xs : List A) (k j : ℕ) (y : A) → (j ≡ k → ⊥) → slice_get (slice_set xs k y) j ≡ slice_get xs j
get_set_other [] k j y ne = refl
get_set_other (z ∷ xs) zero zero y ne = absurd (ne refl)
get_set_other (z ∷ xs) zero (suc j) y ne = refl
get_set_other (z ∷ xs) (suc k) zero y ne = refl
get_set_other (z ∷ xs) (suc k) (suc j) y ne = get_set_other xs k j y (λ e. ne (ap suc e))

pub map_set_same : {A B : Type 0} (f : A → B) (xs : List A) (k : ℕ) (x y : A) → slice_get xs k ≡ Some x → f y ≡ f x → map f (slice_set xs k y) ≡ map f xs
map_set_same f [] k x y e s = refl
map_set_same f (z ∷ xs) zero x y e s = ap (λ b. b ∷ map f xs) (s ∙ ap f (sym (same_Some z x e)))
map_set_same f (z ∷ xs) (suc k) x y e s = ap (λ (l : List _). f z ∷ l) (map_set_same f xs k x y e s)

pub map_same : {A B : Type 0} (f : A → B) (g : A → A) (xs : List A) → ((x : A) → f (g x) ≡ f x) → map f (map g xs) ≡ map f xs
map_same f g [] h = refl
map_same f g (x ∷ xs) h = rw (h x) (ap (λ (l : List _). f x ∷ l) (map_same f g xs h))

pub all_at : {A : Type 0} (P : A → Type 0) (xs : List A) (i : ℕ) (x : A) → All P xs → slice_get xs i ≡ Some x → P x
all_at P [] i x all e = absurd cc
all_at P (y ∷ xs) zero x all e = subst P (same_Some y x e) (All-head P y xs all)
all_at P (y ∷ xs) (suc i) x all e = all_at P xs i x (All-tail P y xs all) e

pub some_here : {A : Type 0} (xs : List A) (i : ℕ) → i < length xs → (x : A) × (slice_get xs i ≡ Some x)
some_here [] i lt = absurd (omega (arith, lt))
some_here (x ∷ xs) zero lt = (x, refl)
some_here (x ∷ xs) (suc i) lt = some_here xs i (omega (arith, lt))

pub all_some : {A : Type 0} (P : A → Type 0) (xs : List A) → All P xs → (k : ℕ) → IfSome (slice_get xs k) P
all_some P [] all k = tt
all_some P (x ∷ xs) all zero = All-head P x xs all
all_some P (x ∷ xs) all (suc k) = all_some P xs (All-tail P x xs all) k

pub if_some_at : {A : Type 0} (P : A → Type 0) (o : Option A) (x : A) → o ≡ Some x → IfSome o P → P x
if_some_at P None x e h = absurd cc
if_some_at P (Some y) x e h = subst P (same_Some y x e) h

pub placed_all : {A : Type 0} (P : ℕ → A → Type 0) (xs : List A) (Q : A → Type 0) → ((k : ℕ) (x : A) → P k x → Q x)
    → ((k : ℕ) → IfSome (slice_get xs k) (P k)) → All Q xs
placed_all P [] Q f h = All-nil Q
placed_all P (x ∷ xs) Q f h = All-cons Q x xs (f zero x (h zero)) (placed_all (λ k. P (suc k)) xs Q (λ k. f (suc k)) (λ k. h (suc k)))

weaker_some : {A : Type 0} (P Q : A → Type 0) (o : Option A) → IfSome o P → ((x : A) → P x → Q x) → IfSome o Q
weaker_some P Q None h f = tt
weaker_some P Q (Some x) h f = f x h

pub placed_set : {A : Type 0} (P R : ℕ → A → Type 0) (xs : List A) (k : ℕ) (x y : A) → slice_get xs k ≡ Some x
    → ((j : ℕ) → IfSome (slice_get xs j) (P j)) → ((j : ℕ) (z : A) → (j ≡ k → ⊥) → P j z → R j z) → R k y
    → (j : ℕ) → IfSome (slice_get (slice_set xs k y) j) (R j)
placed_set P R xs k x y at h other here j = by (cases_eq j k)
  where
    by : (j ≡ k) ⊎ (j ≡ k → ⊥) → IfSome (slice_get (slice_set xs k y) j) (R j)
    by (inl e) = subst (λ i. IfSome (slice_get (slice_set xs k y) i) (R i)) (sym e) (rw (get_set_same xs k x y at) here)
    by (inr ne) = rw (get_set_other xs k j y ne) (weaker_some (P j) (R j) (slice_get xs j) (h j) (λ z. other j z ne))

pub placed_map : {A B : Type 0} (f : A → B) (P : ℕ → A → Type 0) (R : ℕ → B → Type 0) (xs : List A)
    → ((k : ℕ) → IfSome (slice_get xs k) (P k)) → ((k : ℕ) (x : A) → P k x → R k (f x)) → (k : ℕ)
    → IfSome (slice_get (map f xs) k) (R k)
placed_map f P R [] h g k = tt
placed_map f P R (x ∷ xs) h g zero = g zero x (h zero)
placed_map f P R (x ∷ xs) h g (suc k) = placed_map f (λ j. P (suc j)) (λ j. R (suc j)) xs (λ j. h (suc j)) (λ j. g (suc j)) k

-- ---- turns

pub self_test : (n : ℕ) (t : Bool) → eqb n n ≡ t → eqb n n ≡ true
self_test n true e = e
self_test n false e = absurd (eqb-false n n e refl)

pub times_same : (k : ℕ) (ts : List ℕ) → times k (ts ++ k ∷ []) ≡ times k ts + 1
times_same k [] = rw (self_test k (eqb k k) refl) refl
times_same k (x ∷ ts) = step (eqb x k) (times k (ts ++ k ∷ [])) (times k ts) (times_same k ts)
  where
    step : (b : Bool) (m n : ℕ) → m ≡ n + 1 → cond b (m + 1) m ≡ cond b (n + 1) n + 1
    step true m n e = ap (λ i. i + 1) e
    step false m n e = e

pub times_other : (j k : ℕ) (ts : List ℕ) → (k ≡ j → ⊥) → times j (ts ++ k ∷ []) ≡ times j ts
times_other j k [] ne = rw (ne_eqb k j ne) refl
times_other j k (x ∷ ts) ne = step (eqb x j) (times j (ts ++ k ∷ [])) (times j ts) (times_other j k ts ne)
  where
    step : (b : Bool) (m n : ℕ) → m ≡ n → cond b (m + 1) m ≡ cond b (n + 1) n
    step true m n e = ap (λ i. i + 1) e
    step false m n e = e

pub dealt_push : (j : ℕ) (sessions : List (List Op)) (turns : List (List ℕ)) → AllZip (AreDealt j) sessions turns
    → AllZip (AreDealt j) (sessions ++ [] ∷ []) (turns ++ [] ∷ [])
dealt_push j [] [] h = (refl, tt)
dealt_push j [] (t ∷ turns) h = absurd h
dealt_push j (s ∷ sessions) [] h = absurd h
dealt_push j (s ∷ sessions) (t ∷ turns) h = (h.0, dealt_push j sessions turns h.1)

one_more : (k : ℕ) (s : List Op) (t : List ℕ) (op : Op) → length s ≡ times k t → length (s ++ op ∷ []) ≡ times k (t ++ k ∷ [])
one_more k s t op e = omega (arith, e, length_push s op, times_same k t)

-- a call to the space of the turn
pub dealt_here : (k : ℕ) (sessions : List (List Op)) (turns : List (List ℕ)) (op : Op)
    → AllZip (AreDealt k) sessions turns → AllZip (AreDealt k) (push_to_last sessions op) (push_to_last turns k)
dealt_here k [] [] op h = tt
dealt_here k [] (t ∷ turns) op h = absurd h
dealt_here k (s ∷ ss) [] op h = absurd h
dealt_here k (s ∷ []) (t ∷ []) op h = (one_more k s t op h.0, tt)
dealt_here k (s ∷ []) (t ∷ u ∷ turns) op h = absurd h.1
dealt_here k (s ∷ r ∷ ss) (t ∷ []) op h = absurd h.1
dealt_here k (s ∷ r ∷ ss) (t ∷ u ∷ turns) op h = (h.0, dealt_here k (r ∷ ss) (u ∷ turns) op h.1)

-- and to another
pub dealt_there : (j k : ℕ) (sessions : List (List Op)) (turns : List (List ℕ)) → (k ≡ j → ⊥)
    → AllZip (AreDealt j) sessions turns → AllZip (AreDealt j) sessions (push_to_last turns k)
dealt_there j k [] [] ne h = tt
dealt_there j k [] (t ∷ turns) ne h = absurd h
dealt_there j k (s ∷ ss) [] ne h = absurd h
dealt_there j k (s ∷ ss) (t ∷ []) ne h = (h.0 ∙ sym (times_other j k t ne), h.1)
dealt_there j k (s ∷ ss) (t ∷ u ∷ turns) ne h = (h.0, dealt_there j k ss (u ∷ turns) ne h.1)

pub dealt_none : (k : ℕ) (sessions : List (List Op)) (turns : List (List ℕ)) → sessions ≡ [] → turns ≡ [] → AllZip (AreDealt k) sessions turns
dealt_none k [] [] e f = tt
dealt_none k [] (t ∷ ts) e f = absurd cc
dealt_none k (s ∷ ss) turns e f = absurd cc

pub dealt_long : (k : ℕ) (sessions : List (List Op)) (turns : List (List ℕ)) → AllZip (AreDealt k) sessions turns → length sessions ≡ length turns
dealt_long k [] [] h = refl
dealt_long k [] (t ∷ turns) h = absurd h
dealt_long k (s ∷ ss) [] h = absurd h
dealt_long k (s ∷ ss) (t ∷ turns) h = ap suc (dealt_long k ss turns h.1)
