-- A slot has another object than the one by which its number stands in an order.
use Rattle.std.proofs.Common.{◌≡◌, ℕ, false, List, Option, None, Some, is_some, refl, ap, sym, ◌∙◌, subst, eqb}
use Rattle.std.specs.List.Sorted.{IsStrictlySortedBy}
use Rattle.std.specs.Cmp.Lexicographic.{options_total}
use Rattle.std.specs.Option.{option_cmp}
use Rattle.std.specs.Ordering.{nat_cmp, ordering_then}
use Rattle.std.specs.declared.cmp.Ordering.{Ordering}
use Rattle.std.specs.declared.cmp.Ordering.TheVariants.{Equal}
use Rattle.std.proofs.lemmas.Bool.{cond_both, cond-false, cond-true, eq-eqb, eqb-true}
use Rattle.hx_model.specs.Types.{Row}
use Rattle.hx_index.specs.Orders.{IsOrder, compare_at, compare_rows, rows_with, rows_without}
use Rattle.hx_index.proofs.Totals.{rows-total, same-both, same-self}

module _ (rows : ℕ → Option Row) (id : ℕ) (own : Option Row) where
  pub with-here : rows_with id own rows id ≡ own
  with-here = cond-true (eqb id id) own (rows id) (eq-eqb id id refl)

  pub with-other : (i : ℕ) → eqb i id ≡ false → rows_with id own rows i ≡ rows i
  with-other i f = cond-false (eqb i id) own (rows i) f

  -- a slot with its own object
  pub with-own : rows id ≡ own → rows_with id own rows ≡ rows
  with-own e = λ k i. one i k
    where
      one : (i : ℕ) → rows_with id own rows i ≡ rows i
      one i = cond_both (eqb i id) own (rows i) (λ (o : Option Row). o ≡ rows i) (λ t. sym e ∙ ap rows (sym (eqb-true i id t))) (λ f. refl)

  -- without the slot it doesn't matter which object it has
  pub without-with : rows_without id (rows_with id own rows) ≡ rows_without id rows
  without-with = λ k i. one i k
    where
      one : (i : ℕ) → rows_without id (rows_with id own rows) i ≡ rows_without id rows i
      one i = cond_both (eqb i id) None (rows_with id own rows i) (λ (o : Option Row). o ≡ rows_without id rows i)
          (λ t. sym (cond-true (eqb i id) None (rows i) t)) (λ f. with-other i f ∙ sym (cond-false (eqb i id) None (rows i) f))

same-some : (attribute : ℕ) (x y : Option Row) → option_cmp (compare_rows attribute) x y ≡ Equal → is_some x ≡ is_some y
same-some attribute None None e = refl
same-some attribute None (Some s) e = absurd cc
same-some attribute (Some r) None e = absurd cc
same-some attribute (Some r) (Some s) e = refl

-- where objects compare alike, the order is the same
alike-order : (attribute : ℕ) (old new : ℕ → Option Row)
    → ((i : ℕ) → option_cmp (compare_rows attribute) (old i) (new i) ≡ Equal) → (order : List ℕ)
    → IsOrder old attribute order → IsOrder new attribute order
alike-order attribute old new alike order h = record {
  ascend = subst (λ (R : ℕ → ℕ → Ordering). IsStrictlySortedBy R order) (λ k i j. same i j k) h.ascend;
  each = λ i. h.each i ∙ same-some attribute (old i) (new i) (alike i);
}
  where
    same : (i j : ℕ) → compare_at old attribute i j ≡ compare_at new attribute i j
    same i j = ap (λ (o : Ordering). ordering_then o (nat_cmp i j))
        (same-both (options_total (rows-total attribute)) (old i) (new i) (old j) (new j) (alike i) (alike j))

-- the order of an attribute depends on its values and the keys alone
pub stays-order : (rows : ℕ → Option Row) (id attribute : ℕ) (own : Option Row)
    → option_cmp (compare_rows attribute) own (rows id) ≡ Equal → (order : List ℕ)
    → IsOrder (rows_with id own rows) attribute order → IsOrder rows attribute order
stays-order rows id attribute own e = alike-order attribute (rows_with id own rows) rows alike
  where
    alike : (i : ℕ) → option_cmp (compare_rows attribute) (rows_with id own rows i) (rows i) ≡ Equal
    alike i = cond_both (eqb i id) own (rows i) (λ (o : Option Row). option_cmp (compare_rows attribute) o (rows i) ≡ Equal)
        (λ t. ap (λ j. option_cmp (compare_rows attribute) own (rows j)) (eqb-true i id t) ∙ e)
        (λ f. same-self (options_total (rows-total attribute)) (rows i))
