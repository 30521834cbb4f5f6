-- The shortest run of the terms.
use Rattle.std.proofs.Common.{◌≡◌, ℕ, zero, suc, ◌+◌, ◌-◌, ◌<◌, Bool, true, false, cond, List, [], ◌∷◌, length, drop}
use Rattle.std.proofs.Common.{get_or, min, Option, refl, ap, sym, ◌∙◌, arith, ltb}
use Rattle.std.specs.List.{filter}
use Rattle.std.proofs.lemmas.Bool.{and_parts, cond_both, cond-true, ltb-true, false≢true, lt-ltb}
use Rattle.hx_model.specs.Types.{Row, Term}
use Rattle.hx_types.specs.Spaces.{attribute_of}
use Rattle.hx_index.specs.declared.searching.Span.{Span}
use Rattle.hx_index.specs.Invariant.{IsSpan}
use Rattle.hx_index.specs.Orders.{IndexState, order_of}
use Rattle.hx_index.specs.Runs.{IsRun}
use Rattle.hx_index.specs.Searches.{is_indexed, least_run, run_length}
use Rattle.hx_index.specs.Sides.{matches_at, meets_at}
use Rattle.hx_index.proofs.Running.{filter-within, matches-meets, run-is, run-long}

pub drop-next : (terms : List Term) (k : ℕ) (d : Term) → k < length terms → drop k terms ≡ get_or terms k d ∷ drop (k + 1) terms
drop-next [] k d l = absurd (omega (arith, l))
drop-next (t ∷ ts) zero d l = refl
drop-next (t ∷ ts) (suc k) d l = drop-next ts k d (omega (arith, l))
    ∙ ap (λ n. get_or ts k d ∷ drop n (t ∷ ts)) (let e : suc (k + 1) ≡ suc k + 1 = omega arith in e)

min-is : (a b : ℕ) → min a b ≡ cond (ltb a b) a b
min-is a b = cond_both (ltb a b) a b (λ x. min a b ≡ x) (λ t. let l = ltb-true a b t in
    omega (arith, l)) (λ f. let no : a < b → ⊥ = λ l. false≢true (sym f ∙ lt-ltb a b l) in omega (arith, no))

module _ (index : IndexState) (rows : ℕ → Option Row) (terms : List Term) (k : ℕ) (term : Term) (l : k < length terms) (is : term ≡ get_or terms k term) where
  next-is : drop k terms ≡ term ∷ drop (k + 1) terms
  next-is = drop-next terms k term l ∙ ap (λ (t : Term). t ∷ drop (k + 1) terms) (sym is)

  module _ (first end : ℕ) (run : IsRun rows term (order_of index (attribute_of term)) first end) (t : is_indexed index term ≡ true) where
    pub least-next : (best : Span) (other : Span) → other.first ≡ first → other.end ≡ end
        → least_run index rows (best.end - best.first) (drop k terms)
        ≡ least_run index rows ((cond (ltb (other.end - other.first) (best.end - best.first)) other best).end -
        (cond (ltb (other.end - other.first) (best.end - best.first)) other best).first) (drop (k + 1) terms)
    least-next best other f e =
        ap (least_run index rows (best.end - best.first)) next-is
        ∙ ap (λ m. least_run index rows m (drop (k + 1) terms))
        (
        cond-true (is_indexed index term) (min (run_length index rows term) (best.end - best.first)) (best.end - best.first) t
        ∙ ap (λ m. min m (best.end - best.first)) (run-long rows term (order_of index (attribute_of term)) first end run ∙ sym (λ i. e i - f i))
        ∙ min-is (other.end - other.first) (best.end - best.first)
        ∙ pick (ltb (other.end - other.first) (best.end - best.first))
        )
      where
        pick : (b : Bool) → cond b (other.end - other.first) (best.end - best.first) ≡ (cond b other best).end - (cond b other best).first
        pick true = refl
        pick false = refl

    -- the run of a term has all that match
    pub run-span : IsSpan index rows terms (attribute_of term) first end
    run-span = record {
      attribute_is = ltb-true (attribute_of term) (length index.orders)
          (and_parts (ltb 0 (attribute_of term)) (ltb (attribute_of term) (length index.orders)) t).1;
      within = run.within;
      ends = run.ends;
      all = filter-within (matches_at rows terms) (meets_at rows term) (matches-meets rows terms k term l is)
          (order_of index (attribute_of term)) ∙ ap (filter (matches_at rows terms))
          (run-is rows term (order_of index (attribute_of term)) first end run);
    }
