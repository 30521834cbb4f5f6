-- Lists made by counting up, and the sizes of subspaces.
use Rattle.std.proofs.Common.{◌≡◌, ◌≤◌, ℕ, ◌+◌, ◌*◌, List, [], ◌∷◌, ◌++◌, map, refl, ap, arith, add-one}
use Rattle.std.specs.List.{All, AllByRecursion}
use Rattle.std.proofs.lemmas.List.Elements.{recursion_from_All, All-from_recursion}
use Rattle.hx_types.specs.declared.spaces.Axis.{Axis}
use Rattle.hx_types.specs.Spaces.{ArePart}
use Rattle.hx_types.specs.Subspaces.{size_of}
use Rattle.hx_types.specs.Words.{below}

map_end : {A B : Type 0} (f : A → B) (xs : List A) (y : A) → map f (xs ++ y ∷ []) ≡ map f xs ++ f y ∷ []
map_end f [] y = refl
map_end f (x ∷ xs) y = ap (λ (l : List _). f x ∷ l) (map_end f xs y)

-- one more is appended
pub map_below_next : {B : Type 0} (f : ℕ → B) (n : ℕ) → map f (below (n + 1)) ≡ map f (below n) ++ f n ∷ []
map_below_next f n = rw (add-one n) (map_end f (below n) n)

-- an axis never makes a subspace smaller
pub size_of_rest : (a : Axis) (axes : List Axis) → ArePart a.parts → size_of axes ≤ a.parts * size_of axes
size_of_rest a axes part = grind (arith, part)

-- the parts of a list of axes, and its size, from those of its first axis and the rest
pub parts_of_rest : (axes : List Axis) (a : Axis) (rest : List Axis) → axes ≡ a ∷ rest
    → All (λ (x : Axis). ArePart x.parts) axes → ArePart a.parts × All (λ (x : Axis). ArePart x.parts) rest
parts_of_rest axes a rest e h =
    let r : AllByRecursion (λ (x : Axis). ArePart x.parts) (a ∷ rest) = recursion_from_All (λ (x : Axis). ArePart x.parts) (a ∷ rest) (rw e at h) in
    (r.0, All-from_recursion (λ (x : Axis). ArePart x.parts) rest r.1)

pub small_rest : (axes : List Axis) (a : Axis) (rest : List Axis) → axes ≡ a ∷ rest → ArePart a.parts → size_of axes ≤ 4096 → size_of rest ≤ 4096
small_rest axes a rest e part h =
    let whole : a.parts * size_of rest ≤ 4096 = rw e at h in
    let below_it = size_of_rest a rest part in
    omega (arith, whole, below_it)
