-- The sides of values ascend with the order of an attribute.
use Rattle.std.proofs.Common.{◌≡◌, ℕ, ℤ, ◌<◌, Bool, true, false, cond, List, [], ◌∷◌, length, Option, Some, None}
use Rattle.std.proofs.Common.{slice_index_or, refl, ap, sym, ◌∙◌, arith, zero, suc}
use Rattle.std.specs.Int.Signed.{le_z}
use Rattle.std.proofs.lemmas.Int.{ints}
use Rattle.std.specs.List.{AllByRecursion}
use Rattle.std.specs.List.Sorted.{IsStrictlySortedBy, IsPartitionedBy}
use Rattle.std.specs.Option.{option_cmp}
use Rattle.std.specs.Ordering.{int_cmp, is_gt, ordering_reverse, ordering_then}
use Rattle.std.specs.declared.cmp.Ordering.{Ordering}
use Rattle.std.specs.declared.cmp.Ordering.TheVariants.{Less, Equal, Greater}
use Rattle.std.proofs.lemmas.Bool.{cond_both, false_from_ne_true, false≢true}
use Rattle.hx_model.specs.Types.{Row, Term, Value}
use Rattle.hx_types.specs.declared.values.Value.TheVariants as a_value
use Rattle.hx_types.specs.declared.values.Term.TheVariants as a_term
use Rattle.hx_types.specs.Words.{when_some}
use Rattle.hx_types.specs.Spaces.{attribute_of}
use Rattle.hx_index.specs.declared.looking.Side.{Side}
use Rattle.hx_index.specs.declared.looking.Side.TheVariants.{Below, Meets, Above}
use Rattle.hx_index.specs.Invariant.{is_part}
use Rattle.hx_index.specs.Orders.{compare_at, compare_rows, compare_values, value_of}
use Rattle.hx_index.specs.Sides.{side_at, side_by, side_in, side_of, side_of_value}
use Rattle.hx_index.proofs.Totals.{values-total}

abbrev row-side : Term → Option Row → Side
row-side term found = when_some found Below (λ (r : Row). side_of term (value_of (attribute_of term) r))

le-chain : (a b c : ℤ) → le_z a b ≡ true → le_z b c ≡ true → le_z a c ≡ true
le-chain a b c h k = grind (arith, ints)

not-above : (m n : ℤ) → is_gt (int_cmp m n) ≡ false → le_z m n ≡ true
not-above m n g = grind (arith, ints)

-- whole numbers
int-part : (past : Bool) (lo hi m n : ℤ) → is_gt (int_cmp m n) ≡ false
    → is_part past (side_in lo hi (a_value.Int n)) ≡ true → is_part past (side_in lo hi (a_value.Int m)) ≡ true
int-part past lo hi m n g p =
    let least = not-above m n g in
    cond_both (le_z lo m) (cond (le_z m hi) Meets Above) Below (λ s. is_part past s ≡ true)
    (
    λ low.
    let n-low = le-chain lo m n low least in
    let q : is_part past (cond (le_z n hi) Meets Above) ≡ true = ap (λ b. is_part past (cond b (cond (le_z n hi) Meets Above) Below)) (sym n-low) ∙ p in
    cond_both (le_z m hi) Meets Above (λ s. is_part past s ≡ true)
    (λ high. meets (le_z n hi) q)
    (λ high. absurd (false≢true (sym (ap (λ b. is_part past (cond b Meets Above)) (not-high high least)) ∙ q)))
    )
    (λ low. refl)
  where
    meets : (b : Bool) → is_part past (cond b Meets Above) ≡ true → past ≡ true
    meets true e = e
    meets false e = absurd (false≢true e)

    not-high : le_z m hi ≡ false → le_z m n ≡ true → le_z n hi ≡ false
    not-high f l = false_from_ne_true (le_z n hi) (λ t. false≢true (sym f ∙ le-chain m n hi l t))

value-part : (past : Bool) (term : Term) (x y : Value) → is_gt (compare_values x y) ≡ false
    → is_part past (side_of_value term y) ≡ true → is_part past (side_of_value term x) ≡ true
value-part past (a_term.Equal a v) x y g p = by (compare_values x y) (compare_values y v) (compare_values x v) refl refl refl g p
  where
    by : (a b c : Ordering) → compare_values x y ≡ a → compare_values y v ≡ b → compare_values x v ≡ c
        → is_gt a ≡ false → is_part past (side_by b) ≡ true → is_part past (side_by c) ≡ true
    by a b Less q r s g p = refl
    by Less Less Equal q r s g p = absurd (let t = values-total.trans x y v q r in cc)
    by Less Less Greater q r s g p = absurd (let t = values-total.trans x y v q r in cc)
    by Less Equal Equal q r s g p = p
    by Less Equal Greater q r s g p =
        let e = values-total.congr y v x r in
        absurd (let a = values-total.antisymm x v in let b = values-total.antisymm y x in let d = ap ordering_reverse q in cc)
    by Less Greater c q r s g p = absurd (false≢true p)
    by Equal b Equal q r s g p = let e = values-total.congr x y v q in ap (λ o. is_part past (side_by o)) (sym s ∙ e ∙ r) ∙ p
    by Equal b Greater q r s g p = let e = values-total.congr x y v q in ap (λ o. is_part past (side_by o)) (sym s ∙ e ∙ r) ∙ p
    by Greater b c q r s g p = absurd (false≢true (sym g))
value-part past (a_term.Range a lo hi) (a_value.Text s) y g p = refl
value-part past (a_term.Range a lo hi) (a_value.Int m) (a_value.Text t) g p = absurd (false≢true (sym g))
value-part past (a_term.Range a lo hi) (a_value.Int m) (a_value.Int n) g p = int-part past lo hi m n g p

found-part : (past : Bool) (term : Term) (x y : Option Value) → is_gt (option_cmp compare_values x y) ≡ false
    → is_part past (side_of term y) ≡ true → is_part past (side_of term x) ≡ true
found-part past term None y g p = refl
found-part past term (Some x) None g p = absurd (false≢true (sym g))
found-part past term (Some x) (Some y) g p = value-part past term x y g p

first-not : (a b : Ordering) → is_gt (ordering_then a b) ≡ false → is_gt a ≡ false
first-not Less b g = refl
first-not Equal b g = refl
first-not Greater b g = absurd (false≢true (sym g))

less-not : (o : Ordering) → o ≡ Less → is_gt o ≡ false
less-not o e = ap is_gt e

row-part : (past : Bool) (term : Term) (x y : Option Row)
    → is_gt (option_cmp (compare_rows (attribute_of term)) x y) ≡ false → is_part past (row-side term y) ≡ true
    → is_part past (row-side term x) ≡ true
row-part past term None y g p = refl
row-part past term (Some r) None g p = absurd (false≢true (sym g))
row-part past term (Some r) (Some s) g p = found-part past term (value_of (attribute_of term) r) (value_of (attribute_of term) s) (first-not _ _ g) p

-- what is before a value that stands in the part stands in it
pub parted : (past : Bool) (term : Term) (rows : ℕ → Option Row) (order : List ℕ)
    → IsStrictlySortedBy (compare_at rows (attribute_of term)) order
    → IsPartitionedBy (λ i. is_part past (side_at rows term i)) order
unfolding IsStrictlySortedBy
parted past term rows [] s i j d l m e = absurd (omega arith)
parted past term rows (x ∷ xs) s zero zero d l m e = e
parted past term rows (x ∷ xs) s zero (suc j) d l m e =
    row-part past term (rows x) (rows (slice_index_or xs j d)) (first-not _ _ (less-not _ (at xs j d s.0 (omega arith)))) e
  where
    at : (ys : List ℕ) (j d : ℕ) → AllByRecursion (λ y. compare_at rows (attribute_of term) x y ≡ Less) ys
        → j < length ys → compare_at rows (attribute_of term) x (slice_index_or ys j d) ≡ Less
    at [] j d h l = absurd (omega arith)
    at (y ∷ ys) zero d h l = h.0
    at (y ∷ ys) (suc j) d h l = at ys j d h.1 (omega arith)
parted past term rows (x ∷ xs) s (suc i) zero d l m e = absurd (omega arith)
parted past term rows (x ∷ xs) s (suc i) (suc j) d l m e = parted past term rows xs s.1 i j d (omega arith) (omega arith) e
