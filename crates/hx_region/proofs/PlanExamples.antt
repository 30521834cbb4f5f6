-- Plans in a space of books, computed.
use Rattle.std.specs.Prelude.{true, ◌≡◌, ℕ, List, [], ◌∷◌, map, pos}
use Rattle.std.proofs.Common.{refl}
use Rattle.hx_model.specs.Types.{Config, Equal, Member, Planned, Range, RegionId}
use Rattle.hx_types.specs.declared.outcomes.Planned.TheVariants as a_plan
use Rattle.hx_types.specs.declared.values.Value.TheVariants as a_value
use Rattle.hx_model.specs.Planning.{plan_of}
use Rattle.hx_region.proofs.Examples.{books}

-- ---- plans, with all of four servers and with some

abbrev ready : ℕ → Member
ready s = record { server = record { 0 = s }; ready = true }

abbrev config_of : List (List Member) → Config
config_of regions = record { epoch = record { 0 = 1 }; servers = []; regions = regions }

abbrev regions_named : ℕ → List ℕ → Planned
regions_named s regions = a_plan.Regions s (map (λ n. let g : RegionId = record { 0 = n } in g) regions)

-- servers 1 to 4
abbrev all_left : Config
all_left =
    config_of (
    (ready 1 ∷ ready 2 ∷ []) ∷ (ready 2 ∷ ready 3 ∷ []) ∷ (ready 3 ∷ ready 4 ∷ []) ∷ (ready 4 ∷ ready 1 ∷ [])
    ∷ (ready 1 ∷ ready 2 ∷ []) ∷ (ready 2 ∷ ready 3 ∷ []) ∷ (ready 3 ∷ ready 4 ∷ []) ∷ (ready 4 ∷ ready 1 ∷ []) ∷ []
    )

some_years : plan_of books all_left (Range 2 (pos 1990) (pos 2010) ∷ []) ≡ regions_named 2 (6 ∷ 7 ∷ [])
some_years = refl

last_year : plan_of books all_left (Equal 2 (a_value.Int (pos 2099)) ∷ []) ≡ regions_named 2 (7 ∷ [])
last_year = refl

a_genre : plan_of books all_left (Equal 1 (a_value.Text (98 ∷ [])) ∷ []) ≡ regions_named 1 (4 ∷ [])
a_genre = refl

a_key : plan_of books all_left (Equal 0 (a_value.Text (98 ∷ [])) ∷ []) ≡ regions_named 0 (1 ∷ [])
a_key = refl

no_terms : plan_of books all_left [] ≡ regions_named 2 (6 ∷ 7 ∷ [])
no_terms = refl

-- servers 1 and 2: regions 2 and 6 are lost
abbrev two_left : Config
two_left =
    config_of (
    (ready 1 ∷ ready 2 ∷ []) ∷ (ready 2 ∷ []) ∷ [] ∷ (ready 1 ∷ [])
    ∷ (ready 1 ∷ ready 2 ∷ []) ∷ (ready 2 ∷ []) ∷ [] ∷ (ready 1 ∷ []) ∷ []
    )

lost_year : plan_of books two_left (Equal 2 (a_value.Int (pos 1999)) ∷ []) ≡ regions_named 0 (0 ∷ 1 ∷ [])
lost_year = refl

-- server 4: regions 2, 3, 6 and 7 are left
abbrev fourth_left : Config
fourth_left = config_of ([] ∷ [] ∷ (ready 4 ∷ []) ∷ (ready 4 ∷ []) ∷ [] ∷ [] ∷ (ready 4 ∷ []) ∷ (ready 4 ∷ []) ∷ [])

lost_genre : plan_of books fourth_left (Equal 1 (a_value.Text (98 ∷ [])) ∷ []) ≡ regions_named 2 (6 ∷ 7 ∷ [])
lost_genre = refl

-- server 1: regions 0, 3, 4 and 7 are left
abbrev first_left : Config
first_left = config_of ((ready 1 ∷ []) ∷ [] ∷ [] ∷ (ready 1 ∷ []) ∷ (ready 1 ∷ []) ∷ [] ∷ [] ∷ (ready 1 ∷ []) ∷ [])

all_lost : plan_of books first_left [] ≡ a_plan.Lost (record { 0 = 1 })
all_lost = refl
