-- Lists that are reversed, filtered and mapped.
use Rattle.std.proofs.Common.{◌≡◌, Bool, true, false, cond, List, [], ◌∷◌, ◌++◌, map, reverse, refl, sym, ap, ◌∙◌}
use Rattle.std.proofs.lemmas.List.{reverse-append, append-nil}
use Rattle.std.proofs.lemmas.List.Concat.{flat_map-append}
use Rattle.std.proofs.lemmas.List.Elements.{filter-append}
use Rattle.std.specs.List.{filter, flat_map}

pub reverse_cons : {A : Type 0} (x : A) (xs : List A) → reverse (x ∷ xs) ≡ reverse xs ++ x ∷ []
reverse_cons x xs = reverse-append (x ∷ []) xs

-- a filter and a map change places
pub map_filter : {A B : Type 0} (f : A → B) (p : B → Bool) (xs : List A) → map f (filter (λ x. p (f x)) xs) ≡ filter p (map f xs)
map_filter f p [] = refl
map_filter f p (x ∷ xs) = map_filter_by f p (p (f x)) x (filter (λ x. p (f x)) xs) (filter p (map f xs)) (map_filter f p xs)
  where
    map_filter_by : {A B : Type 0} (f : A → B) (p : B → Bool) (b : Bool) (x : A) (xs : List A) (ys : List B) → map f xs ≡ ys
        → map f (cond b (x ∷ xs) xs) ≡ cond b (f x ∷ ys) ys
    map_filter_by f p true x xs ys same = ap (λ ys. f x ∷ ys) same
    map_filter_by f p false x xs ys same = same

cons_by : {A : Type 0} (b : Bool) (x : A) (xs : List A) → reverse (cond b (x ∷ xs) xs) ≡ reverse xs ++ cond b (x ∷ []) []
cons_by true x xs = reverse_cons x xs
cons_by false x xs = sym (append-nil (reverse xs))

-- a filter of a reversed list
pub filter_reverse : {A : Type 0} (p : A → Bool) (xs : List A) → filter p (reverse xs) ≡ reverse (filter p xs)
filter_reverse p [] = refl
filter_reverse p (x ∷ xs) =
    ap (filter p) (reverse_cons x xs) ∙ filter-append p (reverse xs) (x ∷ []) ∙ ap (λ ys. ys ++ cond (p x) (x ∷ []) []) (filter_reverse p xs)
    ∙ sym (cons_by (p x) x (filter p xs))

-- pieces that read the same from both ends, put together from the far end
pub reverse_pieces : {A B : Type 0} (f : A → List B) → ((x : A) → reverse (f x) ≡ f x) → (xs : List A)
    → reverse (flat_map f (reverse xs)) ≡ flat_map f xs
reverse_pieces f even [] = refl
reverse_pieces f even (x ∷ xs) =
    ap (λ ys. reverse (flat_map f ys)) (reverse_cons x xs) ∙ ap reverse (flat_map-append f (reverse xs) (x ∷ []))
    ∙ reverse-append (flat_map f (reverse xs)) (f x ++ []) ∙ ap (λ ys. reverse ys ++ reverse (flat_map f (reverse xs))) (append-nil (f x))
    ∙ ap (λ ys. ys ++ reverse (flat_map f (reverse xs))) (even x) ∙ ap (λ ys. f x ++ ys) (reverse_pieces f even xs)
