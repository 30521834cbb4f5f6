-- What an index keeps, and what is said of its parts.
use Rattle.std.specs.Prelude.{◌≡◌, ℕ, zero, suc, ◌<◌, ◌≤◌, ◌+◌, Bool, true, false, ⊤, List, [], ◌∷◌, length, map, ◌^◌}
use Rattle.std.specs.Prelude.{slice_get, slice_index_or, slice_range, Option, Some, Vec, vec_capacity, vec_len}
use Rattle.std.specs.List.{filter}
use Rattle.std.specs.Ordering.{is_lt}
use Rattle.hx_types.specs.Words.{when_some}
use Rattle.hx_model.specs.Types.{Row, Term}
use Rattle.hx_index.specs.declared.looking.Side.{Side}
use Rattle.hx_index.specs.declared.looking.Side.TheVariants.{Below, Meets, Above}
use Rattle.hx_index.specs.Sides.{matches_at}
use Rattle.hx_index.specs.Orders.{IndexState, IsOrder, order_of, compare_at, rows_without, without}

-- the test passes at the first numbers, so many, and not at the next one
abbrev pub IsSplit : (ℕ → Bool) → ℕ → List ℕ → Type 0
IsSplit p zero [] = ⊤
IsSplit p zero (j ∷ rest) = p j ≡ false
IsSplit p (suc k) [] = ⊥
IsSplit p (suc k) (j ∷ rest) = (p j ≡ true) × IsSplit p k rest

-- a number stands before another in the order of an attribute
abbrev pub stands_before : (ℕ → Option Row) → ℕ → ℕ → ℕ → Bool
stands_before rows attribute id j = is_lt (compare_at rows attribute j id)

abbrev pub items_of : {Z : Type 0} → List (Vec ℕ Z) → List (List ℕ)
items_of {Z = Z} orders = map (λ (order : Vec ℕ Z). order.items) orders

-- each of the lists is the order of its attribute
abbrev pub AreOrders : {Z : Type 0} → (ℕ → Option Row) → List (Vec ℕ Z) → Type 0
AreOrders {Z = Z} rows orders = (k : ℕ) (order : Vec ℕ Z) → slice_get orders k ≡ Some order → IsOrder rows k order.items

-- there is room for one number more in each
abbrev pub HaveRoom : {Z : Type 0} → List (Vec ℕ Z) → Type 0
HaveRoom {Z = Z} orders = (k : ℕ) (order : Vec ℕ Z) → slice_get orders k ≡ Some order → vec_len order < vec_capacity order

-- there is room for so many numbers in all
abbrev pub HaveRoomFor : {Z : Type 0} → ℕ → List (Vec ℕ Z) → Type 0
HaveRoomFor {Z = Z} n orders = (k : ℕ) (order : Vec ℕ Z) → slice_get orders k ≡ Some order → n ≤ vec_capacity order

-- as many orders, each of which moved
pub record EachMoves {Z : Type 0} (P : ℕ → Vec ℕ Z → Vec ℕ Z → Type 0) (old new : List (Vec ℕ Z)) : Type 0 where
  pub count : length new ≡ length old
  pub each : (k : ℕ) (before after : Vec ℕ Z) → slice_get old k ≡ Some before → slice_get new k ≡ Some after → P k before after

-- a number came into an order
pub record IsAdded {Z : Type 0} (rows : ℕ → Option Row) (id attribute : ℕ) (old new : Vec ℕ Z) : Type 0 where
  pub order : IsOrder rows attribute new.items
  pub others : old.items ≡ without id new.items
  pub len : vec_len new ≡ vec_len old + 1
  pub capacity : vec_capacity old ≤ vec_capacity new

-- and left it
pub record IsRemoved {Z : Type 0} (rows : ℕ → Option Row) (id attribute : ℕ) (old new : Vec ℕ Z) : Type 0 where
  pub order : IsOrder (rows_without id rows) attribute new.items
  pub others : new.items ≡ without id old.items
  pub len : vec_len new + 1 ≡ vec_len old
  pub capacity : vec_capacity new ≡ vec_capacity old

-- a number of an order went to another place, or stayed
pub record IsReplaced {Z : Type 0} (rows : ℕ → Option Row) (attribute : ℕ) (old new : Vec ℕ Z) : Type 0 where
  pub order : IsOrder rows attribute new.items
  pub len : vec_len new ≡ vec_len old
  pub capacity : vec_capacity old ≤ vec_capacity new

-- an order got room
pub record IsWidened {Z : Type 0} (attribute : ℕ) (old new : Vec ℕ Z) : Type 0 where
  pub items : new.items ≡ old.items
  pub len : vec_len new ≡ vec_len old
  pub capacity : vec_capacity old ≤ vec_capacity new

-- an order has so many numbers, and room for so many in all
pub record HasRoom {Z : Type 0} (count most : ℕ) (order : Vec ℕ Z) : Type 0 where
  pub len : length order.items ≡ count
  pub room : most ≤ vec_capacity order

-- there is an order for the key, and each has as many numbers as it, and room
pub record HasOrders {Z : Type 0} (orders : List (Vec ℕ Z)) (most : ℕ) : Type 0 where
  pub some : 0 < length orders
  pub few : length orders ≤ 2 ^ 32
  pub within : length (when_some (slice_get (items_of orders) 0) [] (λ (numbers : List ℕ). numbers)) ≤ most
  pub small : most < 2 ^ 32
  pub each : (k : ℕ) (order : Vec ℕ Z) → slice_get orders k ≡ Some order
      → HasRoom (length (when_some (slice_get (items_of orders) 0) [] (λ (numbers : List ℕ). numbers))) most order

-- in the order of an attribute all that match stand from the first place to the end
pub record IsSpan (index : IndexState) (rows : ℕ → Option Row) (terms : List Term) (attribute first end : ℕ) : Type 0 where
  pub attribute_is : attribute < length index.orders
  pub within : first ≤ end
  pub ends : end ≤ length (order_of index attribute)
  pub all : filter (matches_at rows terms) (order_of index attribute) ≡ filter (matches_at rows terms) (slice_range (order_of index attribute) first end)

-- the value stands before those that meet the term, or with past before those above
abbrev pub is_part : Bool → Side → Bool
is_part past Below = true
is_part past Meets = past
is_part past Above = false

-- the test passes before a place and not from it on
pub record IsEnd (p : ℕ → Bool) (order : List ℕ) (place : ℕ) : Type 0 where
  pub within : place ≤ length order
  pub before : (i : ℕ) → i < place → p (slice_index_or order i 0) ≡ true
  pub from : (i : ℕ) → place ≤ i → i < length order → p (slice_index_or order i 0) ≡ false
