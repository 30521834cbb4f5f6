-- The texts of a list's items, one item more.
use Rattle.std.proofs.Common.{◌≡◌, ℕ, ◌+◌, ◌<◌, List, [], ◌∷◌, ◌++◌, length, get_or, map, take, ap, sym, ◌∙◌}
use Rattle.std.proofs.lemmas.List.Folds.{flat_map-map}
use Rattle.std.proofs.lemmas.List.{flat_map_more, take_more}
use Rattle.std.specs.List.{flat_map}

pub one_more : {X A : Type 0} (f : X → List A) (out front : List A) (xs : List X) (i : ℕ) (x : X)
    → out ≡ front ++ flat_map f (take i xs) → i < length xs → x ≡ get_or xs i x
    → out ++ f x ≡ front ++ flat_map f (take (i + 1) xs)
one_more f out front xs i x so_far lt is =
    ap (λ o. o ++ f x) so_far ∙ flat_map_more f front (take i xs) x
    ∙ ap (λ ys. front ++ flat_map f ys) (sym (take_more xs i x lt ∙ ap (λ y. take i xs ++ y ∷ []) (sym is)))

-- the same, of what the items are seen as
pub one_more_seen : {X Y A : Type 0} (f : Y → List A) (g : X → Y) (out front : List A) (xs : List X) (i : ℕ) (x : X)
    → out ≡ front ++ flat_map f (map g (take i xs)) → i < length xs → x ≡ get_or xs i x
    → out ++ f (g x) ≡ front ++ flat_map f (map g (take (i + 1) xs))
one_more_seen f g out front xs i x so_far lt is =
    one_more (λ y. f (g y)) out front xs i x (so_far ∙ ap (λ ys. front ++ ys) (flat_map-map f g (take i xs))) lt is
    ∙ ap (λ ys. front ++ ys) (sym (flat_map-map f g (take (i + 1) xs)))
