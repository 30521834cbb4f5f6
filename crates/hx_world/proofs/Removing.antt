-- A name is taken out of ascending names where halving finds it.
use Rattle.std.proofs.Common.{◌≡◌, ℕ, zero, suc, zero-add, suc-add, ◌+◌, ◌<◌, ◌≤◌, inl, inr, true, false, not, List}
use Rattle.std.proofs.Common.{[], ◌∷◌, length, drop, remove, Some, refl, sym, ap, ◌∙◌, subst, arith, get_or}
use Rattle.std.specs.Prelude.{slice_get}
use Rattle.std.specs.List.Sorted.{IsPartitionedBy}
use Rattle.std.proofs.lemmas.Bool.{cond-true, cond-false, cases_Bool, eqb-true, eq-eqb, ne_eqb, and_parts, and_left, and_right, false≢true}
use Rattle.hx_model.specs.Types.{PostId}
use Rattle.hx_types.specs.Words.{IsIn, when_some}
use Rattle.hx_model.specs.Schedule.{same_name}
use Rattle.hx_law_lemmas.proofs.Lemmas.{in-slice_get}
use Rattle.hx_world.specs.Names.{AreAscending, is_before, names_but}
use Rattle.hx_world.proofs.Naming.{before_all, before_cases}

same_self : (id : PostId) → same_name id id ≡ true
same_self id = rw (eq-eqb id.entry id.entry refl, eq-eqb id.place id.place refl) refl

name_is : (a b : PostId) → same_name a b ≡ true → a ≡ b
name_is a b h =
    let p = and_parts _ _ h in
    let entry = eqb-true a.entry b.entry p.0 in
    let place = eqb-true a.place b.place p.1 in λ i. record { entry = entry i; place = place i }

-- a lower name is another
before_differs : (a b : PostId) → is_before a b ≡ true → same_name a b ≡ false
before_differs a b h =
    elim (before_cases a b h) [
      | inl l ↦ and_left _ _ (ne_eqb a.entry b.entry (λ e. omega (arith, l, e)))
      | inr l ↦ (let k = l.1 in and_right _ _ (ne_eqb a.place b.place (λ e. omega (arith, k, e))))
    ]

after_differs : (a b : PostId) → is_before a b ≡ true → same_name b a ≡ false
after_differs a b h =
    elim (before_cases a b h) [
      | inl l ↦ and_left _ _ (ne_eqb b.entry a.entry (λ e. omega (arith, l, e)))
      | inr l ↦ (let k = l.1 in and_right _ _ (ne_eqb b.place a.place (λ e. omega (arith, k, e))))
    ]

in_at : (names : List PostId) (i : ℕ) (d : PostId) → i < length names → IsIn (get_or names i d) names
in_at [] i d within = absurd (omega arith)
in_at (x ∷ rest) zero d within = inl refl
in_at (x ∷ rest) (suc i) d within = inr (in_at rest i d (omega arith))

-- the lower names stand before the others
pub lower_first : (names : List PostId) (id : PostId) → AreAscending names → IsPartitionedBy (λ y. is_before y id) names
lower_first [] id h i j d l m e = absurd (omega arith)
lower_first (x ∷ rest) id h zero zero d l m e = e
lower_first (x ∷ rest) id h zero (suc j) d l m e = before_all x (get_or rest j d) id (h.0 (get_or rest j d) (in_at rest j d (omega arith))) e
lower_first (x ∷ rest) id h (suc i) zero d l m e = absurd (omega (arith, l))
lower_first (x ∷ rest) id h (suc i) (suc j) d l m e = lower_first rest id h.1 i j d (omega (arith, l)) (omega arith) e

others_stay : (id : PostId) (names : List PostId) → ((y : PostId) → IsIn y names → same_name y id ≡ false) → names_but id names ≡ names
others_stay id [] f = refl
others_stay id (x ∷ rest) f =
    cond-true (not (same_name x id)) (x ∷ names_but id rest) (names_but id rest) (ap not (f x (inl refl)))
    ∙ ap (λ (l : List PostId). x ∷ l) (others_stay id rest (λ y i. f y (inr i)))

-- what is removed where the name stands is the name
pub removed : (names : List PostId) (id : PostId) (i : ℕ) → AreAscending names → slice_get names i ≡ Some id → remove names i ≡ names_but id names
removed [] id i h e = cc
removed (x ∷ rest) id zero h e =
    let first : x ≡ id = cc in
    let self : not (same_name x id) ≡ false = ap (λ (y : PostId). not (same_name y id)) first ∙ ap not (same_self id) in
    sym
    (
    cond-false (not (same_name x id)) (x ∷ names_but id rest) (names_but id rest) self
    ∙ others_stay id rest (λ y j. subst (λ (z : PostId). same_name y z ≡ false) first (after_differs x y (h.0 y j)))
    )
removed (x ∷ rest) id (suc i) h e =
    let other = before_differs x id (h.0 id (in-slice_get rest i id e)) in
    ap (λ (l : List PostId). x ∷ l) (removed rest id i h.1 e)
    ∙ sym (cond-true (not (same_name x id)) (x ∷ names_but id rest) (names_but id rest) (ap not other))

-- what is removed behind so many items is removed from those behind them
pub drop_removed : (names : List PostId) (n i : ℕ) → drop n (remove names (n + i)) ≡ remove (drop n names) i
drop_removed names zero i = rw zero-add refl
drop_removed [] (suc n) i = rw suc-add (sym (none i))
  where
    none : (k : ℕ) → remove {X = PostId} [] k ≡ []
    none zero = refl
    none (suc k) = refl
drop_removed (x ∷ rest) (suc n) i = rw suc-add (drop_removed rest n i)

-- a name that stands where it would is the one that is looked for
pub stands_there : (names : List PostId) (id : PostId) (i : ℕ)
    → when_some (slice_get names i) false (λ (x : PostId). same_name x id) ≡ true → slice_get names i ≡ Some id
stands_there [] id i e = absurd (false≢true e)
stands_there (x ∷ rest) id zero e = ap Some (name_is x id e)
stands_there (x ∷ rest) id (suc i) e = stands_there rest id i e

-- the first name is taken out where it is the one that is looked for
pub removed_first : (names rest : List PostId) (id : PostId) → AreAscending names
    → when_some (slice_get names 0) false (λ (x : PostId). same_name x id) ≡ true → rest ≡ drop 1 names
    → rest ≡ names_but id names
removed_first [] rest id h e is = absurd (false≢true e)
removed_first (x ∷ names) rest id h e is = is ∙ removed (x ∷ names) id 0 h (stands_there (x ∷ names) id 0 e)

abbrev LowerBefore : PostId → List PostId → ℕ → Type 0
LowerBefore id names i = (k : ℕ) (d : PostId) → 0 ≤ k → k < i → is_before (get_or names k d) id ≡ true

abbrev HigherFrom : PostId → List PostId → ℕ → Type 0
HigherFrom id names i = (k : ℕ) (d : PostId) → i ≤ k → k < length names → is_before (get_or names k d) id ≡ false

differs : (names : List PostId) (id : PostId) (i : ℕ) → AreAscending names → LowerBefore id names i → HigherFrom id names i
    → when_some (slice_get names i) false (λ (x : PostId). same_name x id) ≡ false → (y : PostId) → IsIn y names → same_name y id ≡ false
differs [] id i h low high e y j = absurd j
differs (x ∷ rest) id zero h low high e y (inl same) = subst (λ (z : PostId). same_name z id ≡ false) (sym same) e
differs (x ∷ rest) id zero h low high e y (inr j) =
    elim (cases_Bool (same_name y id)) [
      | inl t ↦ absurd (false≢true (sym (high 0 x (omega arith) (omega arith)) ∙ subst (λ (z : PostId). is_before x z ≡ true) (name_is y id t) (h.0 y j)))
      | inr f ↦ f
    ]
differs (x ∷ rest) id (suc i) h low high e y (inl same) =
    subst (λ (z : PostId). same_name z id ≡ false) (sym same) (before_differs x id (low 0 x (omega arith) (omega arith)))
differs (x ∷ rest) id (suc i) h low high e y (inr j) =
    differs rest id i h.1 (λ k d l m. low (suc k) d (omega arith) (omega (arith, m))) (λ k d l m. high (suc k) d (omega (arith, l)) (omega (arith, m))) e y j

-- where the name doesn't stand there is none to take out
pub absent : (names : List PostId) (id : PostId) (i : ℕ) → AreAscending names → LowerBefore id names i → HigherFrom id names i
    → when_some (slice_get names i) false (λ (x : PostId). same_name x id) ≡ false → names ≡ names_but id names
absent names id i h low high e = sym (others_stay id names (differs names id i h low high e))
