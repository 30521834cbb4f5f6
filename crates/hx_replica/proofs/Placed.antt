-- An update with a place in a region is found there.
use Rattle.std.proofs.Common.{◌≡◌, ◌+◌, Bool, true, false, cond, List, [], ◌∷◌, length, Some, refl, sym, arith}
use Rattle.std.specs.Prelude.{is_some}
use Rattle.hx_model.specs.Types.{Place, RegionId, Update}
use Rattle.hx_types.specs.Words.{same_region}
use Rattle.hx_model.specs.Neighbours.{place_number}
use Rattle.hx_model.specs.Slots.{has_place, place_in}
use Rattle.hx_slot.specs.States.{IsPlacedIn}

not_placed : (g : RegionId) (places : List Place) → is_some (place_in g places) ≡ false → place_number g places ≡ length places
not_placed g [] = λ e. refl
not_placed g (p ∷ rest) = by (same_region p.region g) (not_placed g rest)
  where
    by : (t : Bool) → (is_some (place_in g rest) ≡ false → place_number g rest ≡ length rest)
        → is_some (cond t (Some p) (place_in g rest)) ≡ false → cond t 0 (place_number g rest + 1) ≡ length (p ∷ rest)
    by true more e = absurd cc
    by false more e = let h = more e in omega (arith, h)

-- so what is placed isn't missed
pub placed_found : (g : RegionId) (u : Update) → IsPlacedIn g u → false ≡ has_place g u → ⊥
placed_found g u placed e = let n = not_placed g u.places (sym e) in omega (arith, placed, n)
