-- What a search finds in an order.
use Rattle.std.proofs.Common.{◌≡◌, ℕ, Bool, true, false, ◌&&◌, ◌||◌, List, [], ◌∷◌, is_some, Option, Some, None, Result, Ok, Err, IfOk, refl, ap, sym, ◌∙◌, eqb}
use Rattle.std.specs.List.{AllByRecursion, IsDistinct, filter}
use Rattle.std.specs.List.Sorted.{IsStrictlySortedBy}
use Rattle.std.specs.declared.cmp.Ordering.TheVariants.{Less}
use Rattle.std.proofs.lemmas.Bool.{cond_both, eqb-true, false_from_ne_true}
use Rattle.std.proofs.lemmas.List.Kept.{IsStrictlySortedBy-filter}
use Rattle.hx_model.specs.Types.{Row, Term}
use Rattle.hx_types.specs.Words.{when_some}
use Rattle.hx_model.specs.Matching.{matches}
use Rattle.hx_index.specs.Orders.{IsOrder, compare_at, stands_in}
use Rattle.hx_index.specs.Sides.{matches_at}
use Rattle.hx_index.proofs.Inserting.{less-differs}
use Rattle.hx_index.proofs.Totals.{slots-exact, slots-total}

pub if-ok : {A E : Type 0} {P Q : A → Type 0} (r : Result A E) → ((x : A) → P x → Q x) → IfOk r P → IfOk r Q
if-ok (Ok x) f p = f x p
if-ok (Err e) f p = tt

pub stands-filter : (p : ℕ → Bool) (i : ℕ) (xs : List ℕ) → stands_in (filter p xs) i ≡ (p i && stands_in xs i)
stands-filter p i [] = by (p i)
  where
    by : (b : Bool) → false ≡ (b && false)
    by true = refl
    by false = refl
stands-filter p i (x ∷ xs) = cond_both (p x) (x ∷ filter p xs) (filter p xs) (λ (l : List ℕ). stands_in l i ≡ (p i && (eqb x i || stands_in xs i)))
    (λ t. ap (λ b. eqb x i || b) (stands-filter p i xs) ∙ there (eqb x i) (p i) (stands_in xs i) (λ e. sym (ap p (eqb-true x i e)) ∙ t))
    (λ f. stands-filter p i xs ∙ gone (eqb x i) (p i) (stands_in xs i) (λ e. sym (ap p (eqb-true x i e)) ∙ f))
  where
    there : (a b c : Bool) → (a ≡ true → b ≡ true) → (a || (b && c)) ≡ (b && (a || c))
    there true b c h = ap (λ d. d && true) (sym (h refl))
    there false b c h = refl

    gone : (a b c : Bool) → (a ≡ true → b ≡ false) → (b && c) ≡ (b && (a || c))
    gone true b c h = ap (λ d. d && c) (h refl) ∙ ap (λ d. d && true) (sym (h refl))
    gone false b c h = refl

module _ (rows : ℕ → Option Row) (attribute : ℕ) (terms : List Term) (order : List ℕ) (h : IsOrder rows attribute order) where
  -- the numbers of those that match
  pub all-matching : (i : ℕ) → stands_in (filter (matches_at rows terms) order) i ≡ matches_at rows terms i
  all-matching i = stands-filter (matches_at rows terms) i order ∙ ap (λ b. matches_at rows terms i && b) (h.each i) ∙ by (rows i)
    where
      by : (o : Option Row) → (when_some o false (λ (r : Row). matches terms r.key r.object) && is_some o)
          ≡ when_some o false (λ (r : Row). matches terms r.key r.object)
      by None = refl
      by (Some r) = own (matches terms r.key r.object)
        where
          own : (b : Bool) → (b && true) ≡ b
          own true = refl
          own false = refl

  -- each once
  pub each-once : IsDistinct eqb (filter (matches_at rows terms) order)
  unfolding IsStrictlySortedBy IsDistinct
  each-once = distinct (filter (matches_at rows terms) order) (IsStrictlySortedBy-filter (compare_at rows attribute) (matches_at rows terms) order h.ascend)
    where
      apart : (x : ℕ) (ys : List ℕ) → AllByRecursion (λ y. compare_at rows attribute x y ≡ Less) ys → AllByRecursion (λ y. eqb x y ≡ false) ys
      apart x [] l = tt
      apart x (y ∷ ys) l = (
        false_from_ne_true (eqb x y)
            (λ t. less-differs (compare_at rows attribute) (slots-total rows attribute)
            (slots-exact rows attribute) x y l.0 (eqb-true x y t)),
        apart x ys l.1,
      )

      distinct : (xs : List ℕ) → IsStrictlySortedBy (compare_at rows attribute) xs → IsDistinct eqb xs
      distinct [] s = tt
      distinct (x ∷ xs) s = (apart x xs s.0, distinct xs s.1)
