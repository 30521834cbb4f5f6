-- How the subspaces are tried: in each the regions for a query are counted, and the fewest are looked at first.
use Rattle.std.specs.Prelude.{◌≡◌, ℕ, ◌<◌, ◌≤◌, ◌⊎◌, true, List, map, length, if◌then◌else◌, nat_lt, slice_index_or, Option, None, Some}
use Rattle.hx_model.specs.Types.{Config, Space, Term}
use Rattle.hx_types.specs.Words.{below}
use Rattle.hx_model.specs.Planning.{QueryRegions, any_lost}
use Rattle.hx_region.specs.Spans.{subspace_count}
use Rattle.hx_region.specs.Plans.{query_size}
use Rattle.hx_region.specs.declared.candidates.Candidate.{Candidate}

-- how many regions each subspace has for a query
abbrev pub query_counts : Space → List Term → List (Option ℕ)
query_counts space terms = map (λ s. Some (query_size space terms s)) (below (subspace_count space))

-- what is left of a candidate's count: none where one of its regions is lost
abbrev pub IsCountOf : Config → QueryRegions → Option ℕ → Type 0
IsCountOf config q None = any_lost config q.regions ≡ true
IsCountOf config q (Some n) = n ≡ length q.regions

-- so many candidates are counted
pub record AreCounts (config : Config) (candidate : ℕ → QueryRegions) (n : ℕ) (counts : List (Option ℕ)) : Type 0 where
  pub count : length counts ≡ n
  pub each : (s : ℕ) → s < n → IsCountOf config (candidate s) (slice_index_or counts s None)

-- fewer, or as many and no later
abbrev pub IsNoWorse : ℕ → ℕ → ℕ → ℕ → Type 0
IsNoWorse count s other t = (count < other) ⊎ ((count ≡ other) × (t ≤ s))

-- the one with the fewest of the first so many counts that are left, and of several such the last
abbrev pub IsFewest : List (Option ℕ) → ℕ → Option Candidate → Type 0
IsFewest counts n None = (t : ℕ) → t < n → slice_index_or counts t None ≡ None
IsFewest counts n (Some best) =
    (best.subspace < n) × (slice_index_or counts best.subspace None ≡ Some best.count)
    × ((t m : ℕ) → t < n → slice_index_or counts t None ≡ Some m → IsNoWorse best.count best.subspace m t)

-- the better of the best so far and a further subspace, where it has a count
abbrev pub better_of : Option Candidate → ℕ → Option ℕ → Option Candidate
better_of best s None = best
better_of None s (Some n) = Some (record { subspace = s; count = n })
better_of (Some best) s (Some n) = if nat_lt best.count n then Some best else Some (record { subspace = s; count = n })
