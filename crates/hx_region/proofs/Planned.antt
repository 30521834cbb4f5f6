-- What the definition of a plan comes to.
use Rattle.std.proofs.Common.{◌≡◌, ℕ, zero, suc, ◌+◌, ◌-◌, ◌<◌, ◌≤◌, Bool, true, false, cond, ◌||◌, ltb, ◌⊎◌, inl, inr}
use Rattle.std.proofs.Common.{List, [], map, length, Option, None, Some, refl, sym, ap, ◌∙◌, subst, arith, add-one}
use Rattle.std.specs.List.{All, AllPairs, Contains}
use Rattle.std.proofs.lemmas.Bool.{cases_lt, cases_order}
use Rattle.std.proofs.lemmas.Bool.Decides.{nat_tests}
use Rattle.std.proofs.lemmas.List.Elements.{All-contains, All-filter, All-map, filter_passes}
use Rattle.std.proofs.lemmas.List.Kept.{AllPairs-filter}
use Rattle.hx_model.specs.Types.{Config, Planned, RegionId, Space, Term}
use Rattle.hx_types.specs.declared.outcomes.Planned.TheVariants as a_plan
use Rattle.hx_types.specs.Configs.{is_lost}
use Rattle.hx_types.specs.Spaces.{IsSpace}
use Rattle.hx_types.specs.Subspaces.{axes_of, first_region, size_of}
use Rattle.hx_types.specs.Words.{below, when_some}
use Rattle.hx_model.specs.Planning.{QueryRegions, any_lost, chosen, fewer_of, lowest_lost, plan_of, query_regions}
use Rattle.hx_model.specs.Regions.{meets, place_of, regions_of}
use Rattle.hx_region.specs.Spans.{IsRegionIn, subspace_count}
use Rattle.hx_region.proofs.Counted.{All-below}
use Rattle.hx_region.proofs.MetTerms.{matches_are_met}
use Rattle.hx_region.proofs.Subspaces.{places_belong}
use Rattle.hx_region.specs.Counts.{IsNoWorse}
use Rattle.hx_region.specs.Plans.{AreAsked, FewestAreAsked, HasLost, IsForQuery, IsLowestLost, IsPlan, LostWhereEachLost, LowestLostIsNamed, MatchesAreAsked}
use Rattle.hx_region.proofs.Choosing.{chosen_next}
use Rattle.hx_region.proofs.Listing.{Contains-below, Contains-filter, Contains-map, below_ascends, clash, find_first, none_passes}

-- ---- the regions of a subspace for a query

-- a row of a subspace
abbrev row_of : ℕ → ℕ → RegionId
row_of first n = record { 0 = first + n }

each_for_query : (space : Space) (terms : List Term) (s : ℕ) → All (IsForQuery space terms s) (query_regions space terms s).regions
each_for_query space terms s =
    let first = first_region space s in
    let size = size_of (axes_of space s) in
    let belong : All (IsRegionIn space s) (regions_of space s) =
    All-map (IsRegionIn space s) (row_of first) (below size) (All-below (λ n. IsRegionIn space s (row_of first n)) size (λ n l. spanned first size n l)) in
    let belong_too = All-filter (λ (g : RegionId). meets space g terms) (IsRegionIn space s) (regions_of space s) belong in
    let met = filter_passes (λ (g : RegionId). meets space g terms) (regions_of space s) in
    λ k d l. record { belongs = belong_too k d l; met = met k d l }
  where
    spanned : (first size n : ℕ) → n < size → (first ≤ first + n) × (first + n < first + size)
    spanned first size n l = (omega arith, omega (arith, l))

ascend : (space : Space) (terms : List Term) (s : ℕ) → AllPairs (λ (g h : RegionId). g.0 < h.0) (query_regions space terms s).regions
ascend space terms s =
    AllPairs-filter (λ (g h : RegionId). g.0 < h.0) (λ (g : RegionId). meets space g terms) (regions_of space s)
    (below_ascends (λ (g h : RegionId). g.0 < h.0) (row_of (first_region space s)) (size_of (axes_of space s)) (λ i j l m. later (first_region space s) i j l))
  where
    later : (first i j : ℕ) → i < j → first + i < first + j
    later first i j l = omega (arith, l)

-- every region for the query is listed
listed : (space : Space) (terms : List Term) (s : ℕ) (g : RegionId) → IsForQuery space terms s g → Contains (query_regions space terms s).regions g
listed space terms s g asked =
    let row = row_within (first_region space s) (size_of (axes_of space s)) g.0 asked.belongs.0 asked.belongs.1 in
    let among : Contains (regions_of space s) (row_of (first_region space s) row.0) =
    Contains-map (row_of (first_region space s)) (below (size_of (axes_of space s))) row.0 (Contains-below (size_of (axes_of space s)) row.0 row.1) in
    Contains-filter (λ (h : RegionId). meets space h terms) (regions_of space s) g asked.met
    (subst (λ n. let h : RegionId = record { 0 = n } in Contains (regions_of space s) h) row.2 among)
  where
    row_within : (first size n : ℕ) → first ≤ n → n < first + size → (row : ℕ) × (row < size) × (first + row ≡ n)
    row_within first size n l m = (n - first, omega (arith, l, m), omega (arith, l))

-- a list has a lost region exactly where there is one
some_lost : (space : Space) (config : Config) (terms : List Term) (s : ℕ)
    → any_lost config (query_regions space terms s).regions ≡ true → HasLost space config terms s
some_lost space config terms s e =
    let regions = (query_regions space terms s).regions in
    let first = find_first (λ (a b : RegionId). a.0 < b.0) (is_lost config) regions (ascend space terms s) e in
    (first.0, All-contains (IsForQuery space terms s) regions first.0 (each_for_query space terms s) first.2, first.3)

lost_some : (space : Space) (config : Config) (terms : List Term) (s : ℕ) → HasLost space config terms s
    → any_lost config (query_regions space terms s).regions ≡ true
lost_some space config terms s h = by (any_lost config (query_regions space terms s).regions) refl
  where
    by : (b : Bool) → any_lost config (query_regions space terms s).regions ≡ b → b ≡ true
    by true e = refl
    by false e =
        let none = none_passes (is_lost config) (query_regions space terms s).regions e in
        let not = All-contains (λ (g : RegionId). is_lost config g ≡ false) (query_regions space terms s).regions h.0 none (listed space terms s h.0 h.1) in
        absurd (clash (is_lost config h.0) h.2 not)

none_lost : (space : Space) (config : Config) (terms : List Term) (s : ℕ) → (HasLost space config terms s → ⊥)
    → any_lost config (query_regions space terms s).regions ≡ false
none_lost space config terms s h = by (any_lost config (query_regions space terms s).regions) refl
  where
    by : (b : Bool) → any_lost config (query_regions space terms s).regions ≡ b → b ≡ false
    by true e = absurd (h (some_lost space config terms s e))
    by false e = refl

-- ---- the best of some candidates

-- every one of the first n candidates has a lost region, or this is the best of those without
abbrev pub IsBest : Config → (ℕ → QueryRegions) → ℕ → Option QueryRegions → Type 0
IsBest config f n None = (t : ℕ) → t < n → any_lost config (f t).regions ≡ true
IsBest config f n (Some q) =
    (s : ℕ) × (s < n) × (q ≡ f s) × (any_lost config (f s).regions ≡ false)
    × ((t : ℕ) → t < n → any_lost config (f t).regions ≡ false → IsNoWorse (length (f s).regions) s (length (f t).regions) t)

-- a number up to n is n or below it
upto : (t n : ℕ) → t < suc n → (t < n) ⊎ (t ≡ n)
upto t n l = elim (cases_order t n) [
  | inl e ↦ inr e
  | inr (inl h) ↦ inl h
  | inr (inr h) ↦ absurd (omega (arith, h, l))
]

best_next : (config : Config) (f : ℕ → QueryRegions) (n : ℕ) (best : Option QueryRegions) → IsBest config f n best
    → IsBest config f (suc n) (fewer_of config (f n) best)
best_next config f n None h = by (any_lost config (f n).regions) refl
  where
    by : (b : Bool) → any_lost config (f n).regions ≡ b → IsBest config f (suc n) (cond b None (Some (f n)))
    by true e = λ t l. elim (upto t n l) [ inl m ↦ h t m | inr p ↦ subst (λ k. any_lost config (f k).regions ≡ true) (sym p) e ]
    by false e = (
      n,
      omega arith,
      refl,
      e,
      λ t l k. elim (upto t n l) [
        | inl m ↦ absurd (clash (any_lost config (f t).regions) (h t m) k)
        | inr p ↦ inr (ap (λ m. length (f m).regions) (sym p), omega (arith, p))
      ],
    )
best_next config f n (Some q) h = by (any_lost config (f n).regions) refl (ltb (length q.regions) (length (f n).regions)) refl
  where
    size : length q.regions ≡ length (f h.0).regions
    size = ap (λ (p : QueryRegions). length p.regions) h.2

    -- the further one is worse
    kept : ((t : ℕ) → t ≡ n → any_lost config (f t).regions ≡ false
        → IsNoWorse (length (f h.0).regions) h.0 (length (f t).regions) t) → IsBest config f (suc n) (Some q)
    kept worse = (h.0, omega (arith, h.1), h.2, h.3, λ t l k. elim (upto t n l) [ inl m ↦ h.4 t m k | inr p ↦ worse t p k ])

    -- better than one, no worse than another
    chain : (a b c s t n : ℕ) → a ≤ b → s < n → t < n → IsNoWorse b s c t → IsNoWorse a n c t
    chain a b c s t n l m o (inl p) = inl (omega (arith, l, p))
    chain a b c s t n l m o (inr p) = elim (cases_lt a c) [ inl r ↦ inl r | inr r ↦ inr (omega (arith, l, p.0, r), omega (arith, o)) ]

    by : (b : Bool) → any_lost config (f n).regions ≡ b → (c : Bool)
        → ltb (length q.regions) (length (f n).regions) ≡ c → IsBest config f (suc n) (cond (b || c) (Some q) (Some (f n)))
    by true e c g = kept (λ t p k. absurd (clash (any_lost config (f t).regions) (subst (λ m. any_lost config (f m).regions ≡ true) (sym p) e) k))
    by false e true g = kept (λ t p k. inl (subst (λ m. length (f h.0).regions < length (f m).regions) (sym p)
        (more (length q.regions) (length (f n).regions) (length (f h.0).regions) g size)))
      where
        more : (a b c : ℕ) → ltb a b ≡ true → a ≡ c → c < b
        more a b c e s = (let l : a < b = grind (arith, nat_tests, e) in omega (arith, l, s))
    by false e false g = (
      n,
      omega arith,
      refl,
      e,
      λ t l k. elim (upto t n l) [
        | inl m ↦ chain (length (f n).regions) (length (f h.0).regions) (length (f t).regions) h.0 t n
            (fewer (length q.regions) (length (f n).regions) (length (f h.0).regions) g size) h.1 m (h.4 t m k)
        | inr p ↦ inr (ap (λ m. length (f m).regions) (sym p), omega (arith, p))
      ],
    )
      where
        fewer : (a b c : ℕ) → ltb a b ≡ false → a ≡ c → b ≤ c
        fewer a b c e s = (let l : b ≤ a = grind (arith, nat_tests, e) in omega (arith, l, s))

pub best_of : (config : Config) (f : ℕ → QueryRegions) (n : ℕ) → IsBest config f n (chosen config None (map f (below n)))
best_of config f zero = λ t l. absurd (omega (arith, l))
best_of config f (suc n) =
    let e = subst (λ m. chosen config None (map f (below m))
    ≡ fewer_of config (f n) (chosen config None (map f (below n)))) (add-one n) (chosen_next config f n) in
    subst (λ (o : Option QueryRegions). IsBest config f (suc n) o) (sym e) (best_next config f n (chosen config None (map f (below n))) (best_of config f n))

-- ---- the plan

abbrev pub best : Space → Config → List Term → Option QueryRegions
best space config terms = chosen config None (map (query_regions space terms) (below (subspace_count space)))

abbrev pub planned : Space → Config → List Term → Option QueryRegions → Planned
planned space config terms o =
    when_some o (a_plan.Lost (lowest_lost config (query_regions space terms 0).regions)) (λ (q : QueryRegions). a_plan.Regions q.subspace q.regions)

-- the subspace and the regions that a plan names
abbrev named : Planned → QueryRegions
named (a_plan.Regions s regions) = record { subspace = s; regions = regions }
named (a_plan.Lost g) = record { subspace = 0; regions = [] }

abbrev lost_named : Planned → RegionId
lost_named (a_plan.Regions s regions) = record { 0 = 0 }
lost_named (a_plan.Lost g) = g

-- of a plan that names regions
record IsChosen (space : Space) (config : Config) (terms : List Term) (s : ℕ) (regions : List RegionId) : Type 0 where
  subspace : s < subspace_count space
  all : regions ≡ (query_regions space terms s).regions
  ready : any_lost config (query_regions space terms s).regions ≡ false
  fewest : (t : ℕ) → t < subspace_count space → any_lost config (query_regions space terms t).regions ≡ false
      → IsNoWorse (length (query_regions space terms s).regions) s (length (query_regions space terms t).regions) t

chosen_of : (space : Space) (config : Config) (terms : List Term) (s : ℕ) (regions : List RegionId)
    → plan_of space config terms ≡ a_plan.Regions s regions → IsChosen space config terms s regions
chosen_of space config terms s regions e = by (best space config terms) e (best_of config (query_regions space terms) (subspace_count space))
  where
    by : (o : Option QueryRegions) → planned space config terms o ≡ a_plan.Regions s regions
        → IsBest config (query_regions space terms) (subspace_count space) o → IsChosen space config terms s regions
    by None e h = cc
    by (Some q) e h =
        let same : query_regions space terms h.0 ≡ record { subspace = s; regions = regions } = sym h.2 ∙ ap named e in
        let at : h.0 ≡ s = ap (λ (p : QueryRegions). p.subspace) same in
        let all : regions ≡ (query_regions space terms h.0).regions = sym (ap (λ (p : QueryRegions). p.regions) same) in
        subst (λ t. IsChosen space config terms t regions) at (record { subspace = h.1; all = all; ready = h.3; fewest = h.4 })

pub asked : (space : Space) (config : Config) (terms : List Term) → AreAsked space config terms
asked space config terms s regions e =
    let h = chosen_of space config terms s regions e in
    let each = each_for_query space terms s in
    let ready = none_passes (is_lost config) (query_regions space terms s).regions h.ready in
    subst (λ (l : List RegionId). IsPlan space config terms s l) (sym h.all)
    (record { subspace = h.subspace; each = λ k d l. (each k d l, ready k d l); ascend = ascend space terms s })

pub all_asked : (space : Space) (config : Config) (terms : List Term) → IsSpace space → MatchesAreAsked space config terms
all_asked space config terms valid s regions e key object m =
    let h = chosen_of space config terms s regions e in
    let place : IsForQuery space terms s (place_of space s key object) =
    record {
      belongs = places_belong space valid s key object h.subspace;
      met = matches_are_met space valid s key object terms h.subspace m;
    } in
    subst (λ (l : List RegionId). Contains l (place_of space s key object)) (sym h.all) (listed space terms s (place_of space s key object) place)

pub fewest : (space : Space) (config : Config) (terms : List Term) → FewestAreAsked space config terms
fewest space config terms s regions e t l ready =
    let h = chosen_of space config terms s regions e in
    subst (λ (r : List RegionId). IsNoWorse (length r) s (length (query_regions space terms t).regions) t) (sym h.all)
    (h.fewest t l (none_lost space config terms t ready))

each_lost : (space : Space) (config : Config) (terms : List Term) (g : RegionId) → plan_of space config terms ≡ a_plan.Lost g
    → (g ≡ lowest_lost config (query_regions space terms 0).regions)
    × ((s : ℕ) → s < subspace_count space → any_lost config (query_regions space terms s).regions ≡ true)
each_lost space config terms g e = by (best space config terms) e (best_of config (query_regions space terms) (subspace_count space))
  where
    by : (o : Option QueryRegions) → planned space config terms o ≡ a_plan.Lost g → IsBest config (query_regions space terms) (subspace_count space) o
        → (g ≡ lowest_lost config (query_regions space terms 0).regions)
        × ((s : ℕ) → s < subspace_count space → any_lost config (query_regions space terms s).regions ≡ true)
    by None e h = (sym (ap lost_named e), h)
    by (Some q) e h = cc

pub lost : (space : Space) (config : Config) (terms : List Term) → LostWhereEachLost space config terms
lost space config terms = (
  λ h s l. some_lost space config terms s ((each_lost space config terms h.0 h.1).1 s l),
  λ h. by (λ s l. lost_some space config terms s (h s l)) (best space config terms)
      (best_of config (query_regions space terms) (subspace_count space)),
)
  where
    by : ((s : ℕ) → s < subspace_count space → any_lost config (query_regions space terms s).regions ≡ true)
        → (o : Option QueryRegions) → IsBest config (query_regions space terms) (subspace_count space) o
        → (g : RegionId) × (planned space config terms o ≡ a_plan.Lost g)
    by all None h = (lowest_lost config (query_regions space terms 0).regions, refl)
    by all (Some q) h = absurd (clash (any_lost config (query_regions space terms h.0).regions) (all h.0 h.1) h.3)

pub lowest : (space : Space) (config : Config) (terms : List Term) → LowestLostIsNamed space config terms
lowest space config terms g e =
    let h = each_lost space config terms g e in
    let regions = (query_regions space terms 0).regions in
    let first = find_first (λ (a b : RegionId). a.0 < b.0) (is_lost config) regions (ascend space terms 0) (h.1 0 (omega arith)) in
    let is : g ≡ first.0 = h.0 ∙ ap (λ (o : Option RegionId). when_some o (let none : RegionId = record { 0 = 0 } in none) (λ (r : RegionId). r)) first.1 in
    subst (λ (r : RegionId). IsLowestLost space config terms r) (sym is)
    (record {
      asked = All-contains (IsForQuery space terms 0) regions first.0 (each_for_query space terms 0) first.2;
      lost = first.3;
      lowest = λ k asked gone. no_higher first.0 k
          (All-contains (λ (r : RegionId). is_lost config r ≡ true → (first.0 ≡ r) ⊎ (first.0.0 < r.0)) regions k first.4 (listed space terms 0 k asked) gone);
    })
  where
    no_higher : (a b : RegionId) → (a ≡ b) ⊎ (a.0 < b.0) → a.0 ≤ b.0
    no_higher a b (inl p) = (let q = ap (λ (r : RegionId). r.0) p in omega (arith, q))
    no_higher a b (inr l) = omega (arith, l)
