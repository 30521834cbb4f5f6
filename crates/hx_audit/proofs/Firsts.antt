-- The first place of a list at which something isn't so.
use Rattle.std.proofs.Common.{◌≡◌, ℕ, Bool, true, false, ◌||◌, zero, suc, ◌+◌, ◌<◌, List, [], ◌∷◌, ◌++◌, length}
use Rattle.std.proofs.Common.{get_or, take, Some, refl, sym, ap, ◌∙◌, subst, arith}
use Rattle.std.specs.List.{list_any, slice_get}
use Rattle.std.specs.Option.{IfSome}
use Rattle.std.proofs.lemmas.List.{take_more}
use Rattle.std.proofs.lemmas.Option.{slice_get-get_or}
use borrow.Author.Count.{below_more}

-- what holds at each place within a list holds at every place
pub to_end : {A : Type 0} (xs : List A) (Q : ℕ → A → Type 0)
    → ((k : ℕ) → k < length xs → IfSome (slice_get xs k) (Q k)) → (k : ℕ) → IfSome (slice_get xs k) (Q k)
to_end [] Q all k = tt
to_end (x ∷ xs) Q all zero = all zero (omega arith)
to_end (x ∷ xs) Q all (suc k) = to_end xs (λ j. Q (suc j)) (λ j l. all (suc j) (omega (arith, l))) k

-- an item that a loop is at
pub item_at : {A : Type 0} (xs : List A) (k : ℕ) (x : A) → k < length xs → x ≡ get_or xs k x → slice_get xs k ≡ Some x
item_at xs k x l is = slice_get-get_or xs k x l ∙ ap Some (sym is)

pub kept_at : {A : Type 0} (xs : List A) (Q : A → Type 0) (k : ℕ) (x : A) → slice_get xs k ≡ Some x → Q x → IfSome (slice_get xs k) Q
kept_at xs Q k x e h = subst (λ o. IfSome o Q) (sym e) h

pub holds_at : {A : Type 0} (xs : List A) (Q : A → Type 0) (k : ℕ) (x : A) → slice_get xs k ≡ Some x → IfSome (slice_get xs k) Q → Q x
holds_at xs Q k x e h = subst (λ o. IfSome o Q) e h

-- one more place is passed
pub one_more : {A : Type 0} (xs : List A) (Q : ℕ → A → Type 0) (i : ℕ) (x : A) → slice_get xs i ≡ Some x → Q i x
    → ((k : ℕ) → k < i → IfSome (slice_get xs k) (Q k)) → (k : ℕ) → k < i + 1 → IfSome (slice_get xs k) (Q k)
one_more xs Q i x e h before = below_more (λ k. IfSome (slice_get xs k) (Q k)) i before (kept_at xs (Q i) i x e h)

pub or_none : (b : Bool) → b ≡ (b || false)
or_none true = refl
or_none false = refl

or_assoc : (p q r : Bool) → (p || (q || r)) ≡ ((p || q) || r)
or_assoc true q r = refl
or_assoc false q r = refl

pub any_last : {A : Type 0} (f : A → Bool) (ys : List A) (x : A) → list_any f (ys ++ x ∷ []) ≡ (list_any f ys || f x)
any_last f [] x = sym (or_none (f x))
any_last f (y ∷ ys) x = ap (λ t. f y || t) (any_last f ys x) ∙ or_assoc (f y) (list_any f ys) (f x)

-- one more item above
pub any_more : {A : Type 0} (f : A → Bool) (xs : List A) (i : ℕ) (x : A) → i < length xs → x ≡ get_or xs i x
    → list_any f (take (i + 1) xs) ≡ (list_any f (take i xs) || f x)
any_more f xs i x l is = ap (list_any f) (take_more xs i x l) ∙ any_last f (take i xs) (get_or xs i x) ∙ ap (λ y. list_any f (take i xs) || f y) (sym is)
