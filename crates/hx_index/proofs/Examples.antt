-- Small examples, computed.
use Rattle.std.proofs.Common.{◌≡◌, ℕ, List, [], ◌∷◌, ℤ, pos, refl, Option, None, Some, slice_get}
use Rattle.std.specs.declared.cmp.Ordering.TheVariants.{Less, Greater}
use Rattle.hx_model.specs.Types.{Row, Term}
use Rattle.hx_types.specs.declared.values.Value.TheVariants as a_value
use Rattle.hx_types.specs.declared.values.Term.TheVariants as a_term
use Rattle.hx_types.specs.Words.{when_some}
use Rattle.hx_index.specs.declared.looking.Side.TheVariants.{Below, Meets, Above}
use Rattle.hx_index.specs.Looks.{digits_of}
use Rattle.hx_index.specs.Orders.{IndexState, compare_at, without}
use Rattle.hx_index.specs.Searches.{most_looks}
use Rattle.hx_index.specs.Sides.{side_at}

row : List ℕ → ℤ → Row
row key n = record { key = key; version = record { 0 = 1 }; object = a_value.Text [] ∷ a_value.Int n ∷ [] }

-- the keys "c", "a" and "b" of slots 0, 1 and 3, with the numbers 7, 5 and 7; slot 2 keeps no object
objects : List (Option Row)
unfolding row
objects = Some (row (99 ∷ []) (pos 7)) ∷ Some (row (97 ∷ []) (pos 5)) ∷ None ∷ Some (row (98 ∷ []) (pos 7)) ∷ []

abbrev rows : ℕ → Option Row
rows i = when_some (slice_get objects i) None (λ (found : Option Row). found)

-- by the number, then by the key
number_decides : compare_at rows 2 1 0 ≡ Less
unfolding objects row
number_decides = refl

key_decides : compare_at rows 2 3 0 ≡ Less
unfolding objects row
key_decides = refl

-- all texts are alike
text_ties : compare_at rows 1 0 3 ≡ Greater
unfolding objects row
text_ties = refl

seven : Term
seven = a_term.Equal 2 (a_value.Int (pos 7))

below_seven : side_at rows seven 1 ≡ Below
unfolding objects row seven
below_seven = refl

meets_seven : side_at rows seven 3 ≡ Meets
unfolding objects row seven
meets_seven = refl

above_six : side_at rows (a_term.Range 2 (pos 5) (pos 6)) 0 ≡ Above
unfolding objects row
above_six = refl

-- one slot less
taken_out : without 3 (1 ∷ 3 ∷ 0 ∷ []) ≡ 1 ∷ 0 ∷ []
taken_out = refl

thousand : digits_of 1000 ≡ 10
thousand = refl

none : digits_of 0 ≡ 0
none = refl

eight : digits_of 8 ≡ 4
eight = refl

-- the orders of the key, of the text and of the number
index : IndexState
index = record { orders = (1 ∷ 3 ∷ 0 ∷ []) ∷ (1 ∷ 3 ∷ 0 ∷ []) ∷ (1 ∷ 3 ∷ 0 ∷ []) ∷ []; room = 3 }

-- a run of two and two searches of two looks; without a term on an attribute all three
by_number : most_looks index rows (seven ∷ []) ≡ 6
unfolding objects row seven index
by_number = refl

by_key : most_looks index rows (a_term.Equal 0 (a_value.Text (97 ∷ [])) ∷ []) ≡ 3
unfolding objects row index
by_key = refl
