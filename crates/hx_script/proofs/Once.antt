-- Lists in which nothing stands twice.
use Rattle.std.proofs.Common.{◌≡◌, ℕ, Bool, true, false, eqb, List, [], ◌∷◌, ◌++◌, map, refl, sym, ◌∙◌, subst}
use Rattle.std.specs.Prelude.{◌||◌, ◌==◌, ◌≢◌, not}
use Rattle.std.specs.List.{All, list_any}
use Rattle.std.specs.Str.{bytes_eq}
use Rattle.std.proofs.lemmas.Bool.{eqb-false, false≢true}
use Rattle.std.proofs.lemmas.List.{map-append}
use Rattle.std.proofs.lemmas.List.Elements.{All-nil, All-cons, All-head, All-tail, All-push}
use Rattle.hx_types.specs.Spaces.{AllDiffer, NamesDiffer}
use Rattle.hx_script.proofs.BundleLists.{self_test}

pub or_left : (a b : Bool) → (a || b) ≡ false → a ≡ false
or_left true b e = absurd cc
or_left false b e = refl

pub or_right : (a b : Bool) → (a || b) ≡ false → b ≡ false
or_right true b e = absurd cc
or_right false b e = e

pub not_true : (b : Bool) → not b ≡ true → b ≡ false
not_true true e = absurd cc
not_true false e = refl

differ_push : (ns : List ℕ) (n : ℕ) → AllDiffer ns → All (λ m. n ≢ m) ns → AllDiffer (ns ++ n ∷ [])
differ_push [] n d a = (All-nil (λ m. m ≢ n), tt)
differ_push (x ∷ rest) n d a = (All-push (λ m. m ≢ x) rest n d.0 (All-head (λ m. n ≢ m) x rest a), differ_push rest n d.1 (All-tail (λ m. n ≢ m) x rest a))

none_differ : {A : Type 0} (f : A → ℕ) (xs : List A) (n : ℕ) → list_any (λ x. f x == n) xs ≡ false → All (λ m. n ≢ m) (map f xs)
none_differ f [] n e = All-nil (λ m. n ≢ m)
none_differ f (x ∷ xs) n e = All-cons (λ m. n ≢ m) (f x) (map f xs)
    (λ same. eqb-false (f x) n (or_left (f x == n) (list_any (λ y. f y == n) xs) e) (sym same))
    (none_differ f xs n (or_right (f x == n) (list_any (λ y. f y == n) xs) e))

-- one more, with a number that none has
pub once_more : {A : Type 0} (f : A → ℕ) (xs : List A) (x : A) → AllDiffer (map f xs) → list_any (λ y. f y == f x) xs ≡ false → AllDiffer (map f (xs ++ x ∷ []))
once_more f xs x d e = rw (map-append f xs (x ∷ [])) (differ_push (map f xs) (f x) d (none_differ f xs (f x) e))

pub bytes_same : (a : List ℕ) → bytes_eq a a ≡ true
bytes_same [] = refl
bytes_same (x ∷ xs) = rw (self_test x (eqb x x) refl) (bytes_same xs)

bytes_differ : (a b : List ℕ) → bytes_eq a b ≡ false → a ≡ b → ⊥
bytes_differ a b e same = false≢true (sym e ∙ subst (λ c. bytes_eq a c ≡ true) same (bytes_same a))

pub names_push : (ns : List (List ℕ)) (n : List ℕ) → NamesDiffer ns → All (λ m. n ≢ m) ns → NamesDiffer (ns ++ n ∷ [])
names_push [] n d a = (All-nil (λ m. m ≢ n), tt)
names_push (x ∷ rest) n d a = (All-push (λ m. m ≢ x) rest n d.0 (All-head (λ m. n ≢ m) x rest a), names_push rest n d.1 (All-tail (λ m. n ≢ m) x rest a))

pub none_named : {A : Type 0} (f : A → List ℕ) (xs : List A) (n : List ℕ) → list_any (λ x. bytes_eq (f x) n) xs ≡ false → All (λ m. n ≢ m) (map f xs)
none_named f [] n e = All-nil (λ m. n ≢ m)
none_named f (x ∷ xs) n e = All-cons (λ m. n ≢ m) (f x) (map f xs)
    (λ same. bytes_differ (f x) n (or_left (bytes_eq (f x) n) (list_any (λ y. bytes_eq (f y) n) xs) e) (sym same))
    (none_named f xs n (or_right (bytes_eq (f x) n) (list_any (λ y. bytes_eq (f y) n) xs) e))

-- one more name behind the key's, which none has
pub named_once : {A : Type 0} (f : A → List ℕ) (key : List ℕ) (xs : List A) (x : A) → NamesDiffer (key ∷ map f xs)
    → bytes_eq key (f x) ≡ false → list_any (λ y. bytes_eq (f y) (f x)) xs ≡ false → NamesDiffer (key ∷ map f (xs ++ x ∷ []))
named_once f key xs x d k e = rw (map-append f xs (x ∷ []))
    (names_push (key ∷ map f xs) (f x) d (All-cons (λ m. f x ≢ m) key (map f xs)
    (λ same. bytes_differ key (f x) k (sym same)) (none_named f xs (f x) e)))
