-- The members of a list in the order of another that has them all: marks of the members, and a walk over the order.
use Rattle.std.proofs.Common.{◌≡◌, ℕ, zero, suc, ◌+◌, ◌<◌, Bool, true, false, ◌&&◌, ◌||◌, List, [], ◌∷◌, ◌++◌, get_or}
use Rattle.std.proofs.Common.{if◌then◌else◌, is_some, length, inl, inr, Option, None, Some, refl, ap, sym, ◌∙◌, arith}
use Rattle.std.proofs.Common.{eqb, take}
use Rattle.std.specs.List.{IsDistinct, filter, slice_get, slice_set}
use Rattle.std.proofs.lemmas.Bool.{cases_eq, cond-true, eq-eqb, false≢true, ne_eqb, or_left, or_right}
use Rattle.std.proofs.lemmas.Option.{slice_get-get_or}
use Rattle.hx_model.specs.Types.{Row, Term}
use Rattle.hx_types.specs.Words.{when_some}
use Rattle.hx_index.specs.Orders.{stands_in}
use Rattle.hx_index.specs.Sides.{matches_at}
use Rattle.hx_index.proofs.Lemmas.{stands-filter}
use Rattle.hx_store.specs.Indexed.{is_marked}
use Rattle.hx_store.specs.Invariant.{AscendAt, HasAll}
use Rattle.hx_store.specs.Slots.{Entry}
use Rattle.hx_store.proofs.Following.{set-marked, set-unmarked}
use Rattle.hx_store.proofs.Lists.{take_next}
use Rattle.hx_store.proofs.Sorting.{ascend-times, distinct-times, filter-ascends, same-numbers}

stands-end : (i x : ℕ) (xs : List ℕ) → stands_in (xs ++ x ∷ []) i ≡ (stands_in xs i || eqb x i)
stands-end i x [] = only (eqb x i)
  where
    only : (b : Bool) → (b || false) ≡ b
    only true = refl
    only false = refl
stands-end i x (y ∷ ys) = ap (λ b. eqb y i || b) (stands-end i x ys) ∙ apart (eqb y i) (stands_in ys i) (eqb x i)
  where
    apart : (a b c : Bool) → (a || (b || c)) ≡ ((a || b) || c)
    apart true b c = refl
    apart false b c = refl

-- the mark of a place that has one
pub mark-at : (marks : List Bool) (i : ℕ) (d : Bool) → i < length marks → is_marked marks i ≡ get_or marks i d
mark-at marks i d l = ap (λ (o : Option Bool). when_some o false (λ (m : Bool). m)) (slice_get-get_or marks i d l)

-- one member more is marked
pub mark-more : (marks : List Bool) (places : List ℕ) (k x : ℕ) → x < length marks → slice_get places k ≡ Some x
    → ((i : ℕ) → is_marked marks i ≡ stands_in (take k places) i)
    → (i : ℕ) → is_marked (slice_set marks x true) i ≡ stands_in (take (k + 1) places) i
mark-more marks places k x l at h i = by ∙ sym (ap (λ (xs : List ℕ). stands_in xs i) (take_next places k x at) ∙ stands-end i x (take k places))
  where
    last : (b : Bool) → (b || true) ≡ true
    last true = refl
    last false = refl

    none : (b : Bool) → (b || false) ≡ b
    none true = refl
    none false = refl

    by : is_marked (slice_set marks x true) i ≡ (stands_in (take k places) i || eqb x i)
    by = elim (cases_eq i x) [
      | inl p ↦ ap (is_marked (slice_set marks x true)) p ∙ set-marked marks x true l
          ∙ sym (ap (λ b. stands_in (take k places) i || b) (eq-eqb x i (sym p)) ∙ last (stands_in (take k places) i))
      | inr n ↦ set-unmarked marks x i true n ∙ h i
          ∙ sym (ap (λ b. stands_in (take k places) i || b) (ne_eqb x i (λ p. n (sym p))) ∙ none (stands_in (take k places) i))
    ]

-- what passes at a place comes on top of what passes before it
pub filter-room : {A : Type 0} (p : A → Bool) (xs : List A) (k : ℕ) (d : A) → k < length xs → p (get_or xs k d) ≡ true
    → length (filter p (take k xs)) < length (filter p xs)
filter-room p [] k d l t = absurd (omega (arith, l))
filter-room p (x ∷ xs) zero d l t = (let e = ap (λ (zs : List _). length zs) (cond-true (p x) (x ∷ filter p xs) (filter p xs) t) in omega (arith, e))
filter-room p (x ∷ xs) (suc k) d l t = by (p x) (filter-room p xs k d (omega (arith, l)) t)
  where
    by : (b : Bool) → length (filter p (take k xs)) < length (filter p xs)
        → length (if b then x ∷ filter p (take k xs) else filter p (take k xs)) < length (if b then x ∷ filter p xs else filter p xs)
    by true h = omega (arith, h)
    by false h = h

pub stands-at : (xs : List ℕ) (k d : ℕ) → k < length xs → stands_in xs (get_or xs k d) ≡ true
stands-at [] k d l = absurd (omega (arith, l))
stands-at (x ∷ xs) zero d l = or_left (eqb x x) _ (eq-eqb x x refl)
stands-at (x ∷ xs) (suc k) d l = or_right (eqb x (get_or xs k d)) _ (stands-at xs k d (omega (arith, l)))

-- the members of a list as they stand in the order
module _ (es : List Entry) (old order : List ℕ) (h : HasAll es (stands_in old) order) where
  pub walked-same : (i : ℕ) → stands_in (filter (stands_in old) order) i ≡ stands_in old i
  walked-same i = stands-filter (stands_in old) i order ∙ both (stands_in old i) (stands_in order i) (h.all i)
    where
      both : (a b : Bool) → (a ≡ true → b ≡ true) → (a && b) ≡ a
      both true b f = f refl
      both false b f = refl

  pub walked-ascends : AscendAt es (filter (stands_in old) order)
  walked-ascends = filter-ascends es (stands_in old) order h.ascend

  -- are as many
  pub walked-length : IsDistinct eqb old → length (filter (stands_in old) order) ≡ length old
  walked-length once =
      let each = ascend-times es (filter (stands_in old) order) walked-ascends in
      same-numbers (filter (stands_in old) order) old each (distinct-times old once) walked-same

pub narrower : (es : List Entry) (p q : ℕ → Bool) (order : List ℕ) → HasAll es p order → ((i : ℕ) → q i ≡ true → p i ≡ true) → HasAll es q order
narrower es p q order h f = record {
  ascend = h.ascend;
  within = h.within;
  all = λ i t. h.all i (f i t);
}

-- what matches is there
pub match-some : (rows : ℕ → Option Row) (terms : List Term) (i : ℕ) → matches_at rows terms i ≡ true → is_some (rows i) ≡ true
match-some rows terms i t = by (rows i) refl
  where
    by : (o : Option Row) → rows i ≡ o → is_some (rows i) ≡ true
    by None e = absurd (false≢true (sym (ap (λ (o : Option Row). matches_at (λ j. o) terms i) e) ∙ t))
    by (Some r) e = ap is_some e
