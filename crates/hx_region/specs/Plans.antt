-- What the plan of a search promises.
use Rattle.std.specs.Prelude.{◌≡◌, ℕ, ◌<◌, ◌≤◌, ◌⊎◌, ◌↔◌, true, false, List, length}
use Rattle.std.specs.List.{All, AllPairs, Contains}
use Rattle.hx_model.specs.Types.{Config, RegionId, Space, Term, Value}
use Rattle.hx_types.specs.declared.outcomes.Planned.TheVariants as a_plan
use Rattle.hx_types.specs.Configs.{is_lost}
use Rattle.hx_model.specs.Matching.{matches}
use Rattle.hx_model.specs.Planning.{plan_of, query_regions}
use Rattle.hx_model.specs.Regions.{meets, place_of}
use Rattle.hx_region.specs.Spans.{IsRegionIn, subspace_count}

-- a region of the subspace that meets the terms
pub record IsForQuery (space : Space) (terms : List Term) (s : ℕ) (g : RegionId) : Type 0 where
  pub belongs : IsRegionIn space s g
  pub met : meets space g terms ≡ true

-- a plan names a subspace and, in order, regions of it that meet the terms, none of them lost
pub record IsPlan (space : Space) (config : Config) (terms : List Term) (s : ℕ) (regions : List RegionId) : Type 0 where
  pub subspace : s < subspace_count space
  pub each : All (λ (g : RegionId). IsForQuery space terms s g × (is_lost config g ≡ false)) regions
  pub ascend : AllPairs (λ (g h : RegionId). g.0 < h.0) regions

abbrev pub AreAsked : Space → Config → List Term → Type 0
AreAsked space config terms = (s : ℕ) (regions : List RegionId) → plan_of space config terms ≡ a_plan.Regions s regions → IsPlan space config terms s regions

-- every key and object that match lie in one of the plan's regions
abbrev pub MatchesAreAsked : Space → Config → List Term → Type 0
MatchesAreAsked space config terms =
    (s : ℕ) (regions : List RegionId) → plan_of space config terms ≡ a_plan.Regions s regions
    → (key : List ℕ) (object : List Value) → matches terms key object ≡ true → Contains regions (place_of space s key object)

-- some region of the subspace that meets the terms is lost
abbrev pub HasLost : Space → Config → List Term → ℕ → Type 0
HasLost space config terms s = (g : RegionId) × IsForQuery space terms s g × (is_lost config g ≡ true)

-- how many regions of a subspace are for the query
abbrev pub query_size : Space → List Term → ℕ → ℕ
query_size space terms s = length (query_regions space terms s).regions

-- a further subspace that has no lost region for the query has more regions for it, or as many and is declared no later
abbrev pub FewestAreAsked : Space → Config → List Term → Type 0
FewestAreAsked space config terms =
    (s : ℕ) (regions : List RegionId) → plan_of space config terms ≡ a_plan.Regions s regions
    → (t : ℕ) → t < subspace_count space → (HasLost space config terms t → ⊥)
    → (length regions < query_size space terms t) ⊎ ((length regions ≡ query_size space terms t) × (t ≤ s))

-- there is no plan exactly where every subspace has a lost region for the query
abbrev pub LostWhereEachLost : Space → Config → List Term → Type 0
LostWhereEachLost space config terms =
    ((g : RegionId) × (plan_of space config terms ≡ a_plan.Lost g)) ↔ ((s : ℕ) → s < subspace_count space → HasLost space config terms s)

-- the region that is then named is a lost one of the key subspace for the query, and the lowest
pub record IsLowestLost (space : Space) (config : Config) (terms : List Term) (g : RegionId) : Type 0 where
  pub asked : IsForQuery space terms 0 g
  pub lost : is_lost config g ≡ true
  pub lowest : (h : RegionId) → IsForQuery space terms 0 h → is_lost config h ≡ true → g.0 ≤ h.0

abbrev pub LowestLostIsNamed : Space → Config → List Term → Type 0
LowestLostIsNamed space config terms = (g : RegionId) → plan_of space config terms ≡ a_plan.Lost g → IsLowestLost space config terms g
