-- What an item shows of the effect of its operation, and the parts that this is compared by.
use Rattle.std.specs.Prelude.{◌≡◌, ℕ, ◌-◌, Bool, ◌==◌, List, reverse, slice_get, Option, Some}
use Rattle.std.specs.List.{find}
use Rattle.hx_model.specs.Types.{Assign, Effect, Item, Value}
use Rattle.hx_types.specs.Words.{when_some}

-- the item has the answer and the object of the effect
abbrev pub Shows : Effect → Item → Type 0
Shows effect x = (x.answer ≡ effect.answer) × (x.object ≡ effect.object)

-- the assignment writes the value at the place
abbrev pub writes_at : ℕ → Assign → Bool
writes_at place a = (a.attribute - 1) == place

-- the value at a place of an object with these assignments written over: the last one's, or the old value
abbrev pub value_after : List Value → List Assign → ℕ → Option Value
value_after old sets place = when_some (find (writes_at place) (reverse sets)) (slice_get old place) (λ (a : Assign). Some a.value)
