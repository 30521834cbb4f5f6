-- Subspaces tried one after another, those with the fewest regions first.
use Rattle.std.proofs.Common.{◌≡◌, ℕ, zero, suc, ◌+◌, ◌^◌, ◌<◌, false, cond, inl, inr, List, [], ◌∷◌, ◌++◌, length}
use Rattle.std.proofs.Common.{get_or, Option, None, Some, is_some, refl, sym, ap, ◌∙◌, subst, arith}
use Rattle.std.specs.List.{sum_by}
use Rattle.std.proofs.lemmas.Bool.{cases_order}
use Rattle.std.proofs.lemmas.List.{get_or-map, get_or_append_left, get_or_push, length-map, length_push}
use Rattle.hx_model.specs.Types.{Config, RegionId, Space, Term}
use Rattle.hx_types.specs.declared.outcomes.Planned.TheVariants as a_plan
use Rattle.hx_types.specs.Words.{below}
use Rattle.hx_model.specs.Planning.{QueryRegions, any_lost, lowest_lost, plan_of, query_regions}
use Rattle.hx_region.specs.Spans.{subspace_count}
use Rattle.hx_region.specs.Counts.{AreCounts, IsCountOf, IsFewest, IsNoWorse, query_counts}
use Rattle.hx_region.specs.Plans.{query_size}
use Rattle.hx_region.specs.declared.candidates.Candidate.{Candidate}
use Rattle.hx_region.proofs.Listing.{clash}
use Rattle.hx_region.proofs.Planned.{IsBest, best, best_of, planned}

-- ---- what the counts tell of the candidates

-- the best of those that are left is the best of all
pub best_left : (config : Config) (f : ℕ → QueryRegions) (n : ℕ) (counts : List (Option ℕ)) (c : Candidate)
    → AreCounts config f n counts → IsFewest counts n (Some c) → any_lost config (f c.subspace).regions ≡ false
    → IsBest config f n (Some (f c.subspace))
best_left config f n counts c h fewest ready = (
  c.subspace,
  fewest.0,
  refl,
  ready,
  λ t l k. by t l k (get_or counts t None) refl (h.each t l),
)
  where
    its : c.count ≡ length (f c.subspace).regions
    its = (let q = h.each c.subspace fewest.0 in subst (IsCountOf config (f c.subspace)) fewest.1 q)

    by : (t : ℕ) → t < n → any_lost config (f t).regions ≡ false → (o : Option ℕ) → get_or counts t None ≡ o
        → IsCountOf config (f t) o → IsNoWorse (length (f c.subspace).regions) c.subspace (length (f t).regions) t
    by t l k None e q = absurd (clash (any_lost config (f t).regions) q k)
    by t l k (Some m) e q = subst (λ a. IsNoWorse a c.subspace (length (f t).regions) t) its
        (subst (λ b. IsNoWorse c.count c.subspace b t) q (fewest.2 t m l e))

pub none_left : (config : Config) (f : ℕ → QueryRegions) (n : ℕ) (counts : List (Option ℕ))
    → AreCounts config f n counts → IsFewest counts n None → IsBest config f n None
none_left config f n counts h none = λ t l. subst (IsCountOf config (f t)) (none t l) (h.each t l)

-- there is one best
best_once : (config : Config) (f : ℕ → QueryRegions) (n : ℕ) (o p : Option QueryRegions) → IsBest config f n o → IsBest config f n p → o ≡ p
best_once config f n None None h k = refl
best_once config f n None (Some q) h k = absurd (clash (any_lost config (f k.0).regions) (h k.0 k.1) k.3)
best_once config f n (Some q) None h k = absurd (clash (any_lost config (f h.0).regions) (k h.0 h.1) h.3)
best_once config f n (Some q) (Some r) h k =
    let same = one (length (f h.0).regions) h.0 (length (f k.0).regions) k.0 (h.4 k.0 k.1 k.3) (k.4 h.0 h.1 h.3) in
    ap Some (h.2 ∙ ap f same ∙ sym k.2)
  where
    one : (a s b t : ℕ) → IsNoWorse a s b t → IsNoWorse b t a s → s ≡ t
    one a s b t (inl p) (inl q) = absurd (omega (arith, p, q))
    one a s b t (inl p) (inr q) = absurd (omega (arith, p, q.0))
    one a s b t (inr p) (inl q) = absurd (omega (arith, p.0, q))
    one a s b t (inr p) (inr q) = omega (arith, p.1, q.1)

-- the counts of all subspaces, read as a list
fewest_of_all : (config : Config) (f : ℕ → QueryRegions) (n : ℕ) (counts read : List (Option ℕ))
    (o : Option Candidate) → AreCounts config f n counts → read ≡ counts → IsFewest read (length read) o → IsFewest counts n o
fewest_of_all config f n counts read o h same fewest =
    let whole : IsFewest counts (length counts) o = subst (λ (r : List (Option ℕ)). IsFewest r (length r) o) same fewest in
    subst (λ m. IsFewest counts m o) h.count whole

-- so the first that has no lost region is the plan's
pub plan_found : (space : Space) (config : Config) (terms : List Term) (counts read : List (Option ℕ)) (c : Candidate) (regions : List RegionId)
    → AreCounts config (query_regions space terms) (subspace_count space) counts → read ≡ counts → IsFewest read (length read) (Some c)
    → regions ≡ (query_regions space terms c.subspace).regions → false ≡ any_lost config regions
    → a_plan.Regions c.subspace regions ≡ plan_of space config terms
plan_found space config terms counts read c regions h same fewest all ready =
    let f = query_regions space terms in
    let left = best_left config f (subspace_count space) counts c h
    (fewest_of_all config f (subspace_count space) counts read (Some c) h same fewest)
    (sym (ready ∙ ap (any_lost config) all)) in
    ap (a_plan.Regions c.subspace) all
    ∙ ap (planned space config terms) (best_once config f (subspace_count space) (Some (f c.subspace))
    (best space config terms) left (best_of config f (subspace_count space)))

-- and where none is left there is no plan
pub plan_lost : (space : Space) (config : Config) (terms : List Term) (counts read : List (Option ℕ))
    → AreCounts config (query_regions space terms) (subspace_count space) counts → read ≡ counts
    → IsFewest read (length read) None → a_plan.Lost (lowest_lost config (query_regions space terms 0).regions) ≡ plan_of space config terms
plan_lost space config terms counts read h same none =
    let f = query_regions space terms in
    let left = none_left config f (subspace_count space) counts h (fewest_of_all config f (subspace_count space) counts read None h same none) in
    ap (planned space config terms) (best_once config f (subspace_count space) None (best space config terms) left (best_of config f (subspace_count space)))

-- ---- how many are left

abbrev pub left_of : List (Option ℕ) → ℕ
left_of counts = sum_by (λ (o : Option ℕ). cond (is_some o) 1 0) counts

-- ---- at the start

length-below : (n : ℕ) → length (below n) ≡ n
length-below zero = refl
length-below (suc n) = length_push (below n) n ∙ (let e = length-below n in omega (arith, e))

get_or-below : (n s : ℕ) → s < n → get_or (below n) s 0 ≡ s
get_or-below zero s l = absurd (omega (arith, l))
get_or-below (suc n) s l = elim (cases_order s n) [
  | inl e ↦ subst (λ k. get_or (below n ++ n ∷ []) k 0 ≡ k) (sym e) (get_or_push (below n) n 0 n (length-below n))
  | inr (inl h) ↦ get_or_append_left (below n) (n ∷ []) 0 s (let e = length-below n in omega (arith, e, h)) ∙ get_or-below n s h
  | inr (inr h) ↦ absurd (omega (arith, h, l))
]

-- every subspace is counted
pub counts_made : (config : Config) (space : Space) (terms : List Term) (counts : List (Option ℕ))
    → counts ≡ query_counts space terms → AreCounts config (query_regions space terms) (subspace_count space) counts
counts_made config space terms counts e =
    let size = λ (s : ℕ). Some (query_size space terms s) in
    subst (AreCounts config (query_regions space terms) (subspace_count space)) (sym e)
    (record {
      count = length-map (below (subspace_count space)) size ∙ length-below (subspace_count space);
      each = λ s l. subst (IsCountOf config (query_regions space terms s))
          (sym (get_or-map size (below (subspace_count space)) s 0 None
          (let n = length-below (subspace_count space) in omega (arith, n, l))
          ∙ ap size (get_or-below (subspace_count space) s l)))
          refl;
    })

pub few_counts : (space : Space) (terms : List Term) (counts : List (Option ℕ)) → counts ≡ query_counts space terms
    → subspace_count space < 2 ^ 32 → length counts < 2 ^ 32
few_counts space terms counts e few =
    let n = ap length e ∙ length-map (below (subspace_count space)) (λ s. Some (query_size space terms s)) ∙ length-below (subspace_count space) in
    omega (arith, n, few)
