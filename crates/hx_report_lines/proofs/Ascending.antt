-- Lists that ascend, one item more.
use Rattle.std.proofs.Common.{◌≡◌, suc, ◌-◌, Bool, true, List, [], ◌∷◌, ◌++◌, map, length, Option, None, Some, refl, sym, ap, subst, ◌∙◌, arith}
use Rattle.std.specs.Prelude.{slice_get}
use Rattle.std.specs.Option.{option_map}
use Rattle.std.proofs.lemmas.List.{map-append}
use Rattle.hx_report_lines.specs.Drafts.{last_of}
use Rattle.hx_report_lines.specs.Values.{Ascends, AscendsFrom, is_after}

-- the last of a list, or what stood before it
abbrev pub last_from : {A : Type 0} → Option A → List A → Option A
last_from last [] = last
last_from last (x ∷ xs) = last_from (Some x) xs

ascends_push : {A : Type 0} (below : A → A → Bool) (last : Option A) (xs : List A) (x : A) → AscendsFrom below last xs
    → is_after below (last_from last xs) x ≡ true → AscendsFrom below last (xs ++ x ∷ [])
ascends_push below last [] x a f = (f, tt)
ascends_push below last (y ∷ ys) x a f = (a.0, ascends_push below (Some y) ys x a.1 f)

pub last_of_more : {A : Type 0} (x y : A) (ys : List A) → last_of (x ∷ y ∷ ys) ≡ last_of (y ∷ ys)
last_of_more x y ys =
    let e : length (x ∷ y ∷ ys) - 1 ≡ suc (length ys) = omega arith in
    let f : length (y ∷ ys) - 1 ≡ length ys = omega arith in
    ap (slice_get (x ∷ y ∷ ys)) e ∙ sym (ap (slice_get (y ∷ ys)) f)

last_is : {A B : Type 0} (f : A → B) (x : A) (xs : List A) (last : Option B) → last_from last (map f (x ∷ xs)) ≡ option_map f (last_of (x ∷ xs))
last_is f x [] last = refl
last_is f x (y ∷ ys) last = last_is f y ys (Some (f x)) ∙ ap (option_map f) (sym (last_of_more x y ys))

last_mapped : {A B : Type 0} (f : A → B) (xs : List A) → last_from None (map f xs) ≡ option_map f (last_of xs)
last_mapped f [] = refl
last_mapped f (x ∷ xs) = last_is f x xs None

-- an item behind the last of a list that ascends
pub ascends_more : {A B : Type 0} (below : B → B → Bool) (f : A → B) (xs : List A) (x : A) → Ascends below (map f xs)
    → is_after below (option_map f (last_of xs)) (f x) ≡ true → Ascends below (map f (xs ++ x ∷ []))
ascends_more {A} {B} below f xs x a follows =
    subst (Ascends below) (sym (map-append f xs (x ∷ [])))
    (ascends_push below None (map f xs) (f x) a (subst (λ (o : Option B). is_after below o (f x) ≡ true) (sym (last_mapped f xs)) follows))
