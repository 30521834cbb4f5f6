-- The places of an update in one subspace, and those told by the region that its object leaves and the one that it comes to.
use Rattle.std.specs.Prelude.{ℕ, ◌<◌, false, not, List, [], ◌∷◌, map, Option, None, Some}
use Rattle.std.specs.List.{All}
use Rattle.hx_model.specs.Types.{Place, RegionId, Space, Touch, Value}
use Rattle.hx_types.specs.Words.{provided, same_region, when_some}
use Rattle.hx_model.specs.Places.{placed_after, regions_between, touched_in}

-- the places in a subspace
abbrev pub places_in : Space → List ℕ → Option (List Value) → Option (List Value) → List Touch → ℕ → List Place
places_in space key old new touches s = map (placed_after space s key new touches) (regions_between space s key old new)

-- the region before the update, and after it the one after the update if it differs
abbrev pub crossed : Option RegionId → Option RegionId → List RegionId
crossed None None = []
crossed None (Some after) = after ∷ []
crossed (Some before) None = before ∷ []
crossed (Some before) (Some after) = before ∷ provided (not (same_region before after)) (after ∷ [])

-- the place in a region of an update whose new object lies in such a region
abbrev pub place_for : Option RegionId → List Touch → RegionId → Place
place_for kept touches g =
    record { region = g; after = record { 0 = touched_in g touches }; keeps = when_some kept false (λ (r : RegionId). same_region r g) }

-- each place comes after a version below this one
abbrev pub ComeAfterLower : ℕ → List Place → Type 0
ComeAfterLower version places = All (λ (p : Place). p.after.0 < version) places
