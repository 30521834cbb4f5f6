-- The order of an attribute with a slot more, and with one less.
use Rattle.std.proofs.Common.{◌≡◌, ℕ, true, false, not, ◌&&◌, ◌||◌, List, [], ◌∷◌, insert, remove, slice_get, IsSome}
use Rattle.std.proofs.Common.{is_some, Some, None, Option, refl, ap, sym, ◌∙◌, eqb}
use Rattle.std.specs.List.{AllByRecursion}
use Rattle.std.specs.List.Sorted.{IsStrictlySortedBy}
use Rattle.std.specs.Option.{option_cmp}
use Rattle.std.specs.Ordering.{nat_cmp, ordering_then}
use Rattle.std.specs.declared.cmp.Ordering.{Ordering}
use Rattle.std.specs.declared.cmp.Ordering.TheVariants.{Less}
use Rattle.std.proofs.lemmas.Bool.{cond_both, cond-false, cond-true, eq-eqb, eqb-true, false_from_ne_true, false≢true, or_left, or_right}
use Rattle.std.proofs.lemmas.List.Kept.{IsStrictlySortedBy-filter}
use Rattle.hx_model.specs.Types.{Row}
use Rattle.hx_index.specs.Invariant.{IsSplit, stands_before}
use Rattle.hx_index.specs.Orders.{IsOrder, compare_at, compare_rows, rows_without, stands_in, without}
use Rattle.hx_index.proofs.Inserting.{found-at, insert-sorted, insert-without, remove-without, split-within, stands-insert, stands-without}
use Rattle.hx_index.proofs.Totals.{slots-exact, slots-total}

agree : (R S : ℕ → ℕ → Ordering) (Q : ℕ → Type 0) → ((i j : ℕ) → Q i → Q j → R i j ≡ S i j) → (xs : List ℕ)
    → AllByRecursion Q xs → IsStrictlySortedBy R xs → IsStrictlySortedBy S xs
unfolding IsStrictlySortedBy
agree R S Q f [] q s = tt
agree R S Q f (x ∷ xs) q s = (each xs q.1 s.0, agree R S Q f xs q.1 s.1)
  where
    each : (ys : List ℕ) → AllByRecursion Q ys → AllByRecursion (λ y. R x y ≡ Less) ys → AllByRecursion (λ y. S x y ≡ Less) ys
    each [] p h = tt
    each (y ∷ ys) p h = (sym (f x y q.0 p.0) ∙ h.0, each ys p.1 h.1)

others : (id : ℕ) (xs : List ℕ) → stands_in xs id ≡ false → AllByRecursion (λ x. eqb x id ≡ false) xs
others id [] n = tt
others id (x ∷ xs) n = (
  false_from_ne_true (eqb x id) (λ t. false≢true (sym n ∙ or_left (eqb x id) _ t)),
  others id xs (false_from_ne_true (stands_in xs id) (λ t. false≢true (sym n ∙ or_right (eqb x id) _ t))),
)

module _ (rows : ℕ → Option Row) (attribute id : ℕ) where
  abbrev R : ℕ → ℕ → Ordering
  R = compare_at rows attribute

  abbrev S : ℕ → ℕ → Ordering
  S = compare_at (rows_without id rows) attribute

  same-row : (i : ℕ) → eqb i id ≡ false → rows_without id rows i ≡ rows i
  same-row i e = cond-false (eqb i id) None (rows i) e

  same-order : (i j : ℕ) → eqb i id ≡ false → eqb j id ≡ false → S i j ≡ R i j
  same-order i j e f = λ k. ordering_then (option_cmp (compare_rows attribute) (same-row i e k) (same-row j f k)) (nat_cmp i j)

  no-row : rows_without id rows id ≡ None
  no-row = cond-true (eqb id id) None (rows id) (eq-eqb id id refl)

  module _ (order : List ℕ) (h : IsOrder (rows_without id rows) attribute order) where
    pub not-there : stands_in order id ≡ false
    not-there = h.each id ∙ ap is_some no-row

    pub as-sorted : IsStrictlySortedBy R order
    as-sorted = agree S R (λ x. eqb x id ≡ false) same-order order (others id order not-there) h.ascend

    pub inserted : (k : ℕ) → IsSome (rows id) → IsSplit (stands_before rows attribute id) k order → IsOrder rows attribute (insert order k id)
    inserted k kept split = record {
      ascend = insert-sorted R (slots-total rows attribute) (slots-exact rows attribute) id k order as-sorted not-there split;
      each = λ i. stands-insert id i k order (split-within (stands_before rows attribute id) k order split)
          ∙ cond_both (eqb id i) true (stands_in order i) (λ b. (eqb id i || stands_in order i) ≡ is_some (rows i))
          (λ t. as-id i t) (λ f. as-other i f);
    }
      where
        as-id : (i : ℕ) → eqb id i ≡ true → (eqb id i || stands_in order i) ≡ is_some (rows i)
        as-id i t = ap (λ b. b || stands_in order i) t ∙ sym (ap (λ j. is_some (rows j)) (sym (eqb-true id i t)) ∙ kept)

        as-other : (i : ℕ) → eqb id i ≡ false → (eqb id i || stands_in order i) ≡ is_some (rows i)
        as-other i f = ap (λ b. b || stands_in order i) f ∙ h.each i
            ∙ ap is_some (same-row i (false_from_ne_true (eqb i id)
            (λ t. false≢true (sym f ∙ eq-eqb id i (sym (eqb-true i id t))))))

    pub back-again : (k : ℕ) → IsSplit (stands_before rows attribute id) k order → order ≡ without id (insert order k id)
    back-again k split = sym (insert-without id k order not-there (split-within (stands_before rows attribute id) k order split))

  module _ (order : List ℕ) (h : IsOrder rows attribute order) (kept : IsSome (rows id)) (k : ℕ)
      (split : IsSplit (stands_before rows attribute id) k order) where
    pub found : slice_get order k ≡ Some id
    found = found-at R (slots-total rows attribute) (slots-exact rows attribute) id k order h.ascend (h.each id ∙ kept) split

    pub removed-is : remove order k ≡ without id order
    removed-is = remove-without R (slots-total rows attribute) (slots-exact rows attribute) id k order h.ascend found split

    gone : stands_in (without id order) id ≡ false
    gone = stands-without id id order ∙ ap (λ b. not b && stands_in order id) (eq-eqb id id refl)

    pub removed : IsOrder (rows_without id rows) attribute (without id order)
    removed = record {
      ascend = agree R S (λ x. eqb x id ≡ false) (λ i j e f. sym (same-order i j e f)) (without id order)
          (others id (without id order) gone) (IsStrictlySortedBy-filter R (λ j. not (eqb j id)) order h.ascend);
      each = λ i. stands-without id i order ∙ cond_both (eqb i id) None (rows i)
          (λ (o : Option Row). (not (eqb i id) && stands_in order i) ≡ is_some o)
          (λ t. ap (λ b. not b && stands_in order i) t) (λ f. ap (λ b. not b && stands_in order i) f ∙ h.each i);
    }
