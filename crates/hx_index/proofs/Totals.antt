-- Slots compare by a total order, under which no two are equal.
use Rattle.std.proofs.Common.{◌≡◌, ℕ, ◌-◌, Option, Some, false, refl, ap, sym, ◌∙◌, eqb, slice_get}
use Rattle.std.specs.Cmp.{IsTotalOrder, int_cmp_total, nat_cmp_total, on_total, then_total}
use Rattle.std.specs.Cmp.Lexicographic.{nat_list_cmp_total, options_total, slice_cmp}
use Rattle.std.specs.Option.{option_cmp}
use Rattle.std.specs.Ordering.{is_lt, nat_cmp, ordering_reverse, ordering_then}
use Rattle.std.specs.declared.cmp.Ordering.{Ordering}
use Rattle.std.specs.declared.cmp.Ordering.TheVariants.{Less, Equal, Greater}
use Rattle.std.proofs.lemmas.Bool.{cond-false, ne_eqb}
use Rattle.std.proofs.lemmas.Map.Lookups.{exact_unsigned}
use Rattle.hx_model.specs.Types.{Row, Value}
use Rattle.hx_types.specs.declared.values.Value.TheVariants as a_value
use Rattle.hx_index.specs.Orders.{compare_at, compare_rows, compare_values, key_of, value_of}

abbrev antisymmetric : (x y : Value) → compare_values x y ≡ ordering_reverse (compare_values y x)
antisymmetric (a_value.Text a) (a_value.Text b) = nat_list_cmp_total.antisymm a b
antisymmetric (a_value.Text a) (a_value.Int n) = refl
antisymmetric (a_value.Int m) (a_value.Text b) = refl
antisymmetric (a_value.Int m) (a_value.Int n) = int_cmp_total.antisymm m n

transitive : (x y z : Value) → compare_values x y ≡ Less → compare_values y z ≡ Less → compare_values x z ≡ Less
transitive (a_value.Text a) (a_value.Text b) (a_value.Text c) h k = nat_list_cmp_total.trans a b c h k
transitive (a_value.Text a) (a_value.Text b) (a_value.Int n) h k = refl
transitive (a_value.Text a) (a_value.Int m) (a_value.Text c) h k = absurd cc
transitive (a_value.Text a) (a_value.Int m) (a_value.Int n) h k = refl
transitive (a_value.Int l) (a_value.Text b) z h k = absurd cc
transitive (a_value.Int l) (a_value.Int m) (a_value.Text c) h k = absurd cc
transitive (a_value.Int l) (a_value.Int m) (a_value.Int n) h k = int_cmp_total.trans l m n h k

congruent : (x y z : Value) → compare_values x y ≡ Equal → compare_values x z ≡ compare_values y z
congruent (a_value.Text a) (a_value.Text b) (a_value.Text c) h = nat_list_cmp_total.congr a b c h
congruent (a_value.Text a) (a_value.Text b) (a_value.Int n) h = refl
congruent (a_value.Text a) (a_value.Int m) z h = absurd cc
congruent (a_value.Int l) (a_value.Text b) z h = absurd cc
congruent (a_value.Int l) (a_value.Int m) (a_value.Text c) h = refl
congruent (a_value.Int l) (a_value.Int m) (a_value.Int n) h = int_cmp_total.congr l m n h

pub values-total : IsTotalOrder compare_values
values-total = record { antisymm = antisymmetric; trans = transitive; congr = congruent }

pub rows-total : (attribute : ℕ) → IsTotalOrder (compare_rows attribute)
rows-total attribute = then_total (on_total (value_of attribute) (options_total values-total)) (on_total key_of nat_list_cmp_total)

pub slots-total : (rows : ℕ → Option Row) (attribute : ℕ) → IsTotalOrder (compare_at rows attribute)
slots-total rows attribute = then_total (on_total rows (options_total (rows-total attribute))) nat_cmp_total

module _ {A : Type 0} {R : A → A → Ordering} (o : IsTotalOrder R) where
  pub same-self : (x : A) → R x x ≡ Equal
  same-self x = by (R x x) (o.antisymm x x)
    where
      by : (a : Ordering) → a ≡ ordering_reverse a → a ≡ Equal
      by Less e = absurd cc
      by Equal e = refl
      by Greater e = absurd cc

  -- equals compare alike
  pub same-both : (x y z w : A) → R x y ≡ Equal → R z w ≡ Equal → R x z ≡ R y w
  same-both x y z w e f = o.congr x y z e ∙ o.antisymm y z ∙ ap ordering_reverse (o.congr z w y f) ∙ sym (o.antisymm y w)

-- the value of an attribute above 0 is that of the object
pub value-above : (attribute : ℕ) (r : Row) → (attribute ≡ 0 → ⊥) → value_of attribute r ≡ slice_get r.object (attribute - 1)
value-above attribute r n = cond-false (eqb attribute 0) (Some (a_value.Text (key_of r))) (slice_get r.object (attribute - 1)) (ne_eqb attribute 0 n)

-- rows of one key that have the same value of an attribute
pub rows-equal : (attribute : ℕ) (r s : Row) → key_of r ≡ key_of s
    → option_cmp compare_values (value_of attribute r) (value_of attribute s) ≡ Equal → compare_rows attribute r s ≡ Equal
rows-equal attribute r s e f =
    ap (λ (a : Ordering). ordering_then a (slice_cmp nat_cmp (key_of r) (key_of s))) f
    ∙ ap (slice_cmp nat_cmp (key_of r)) (sym e)
    ∙ same-self nat_list_cmp_total (key_of r)

-- a slot isn't before itself
pub not-before : (rows : ℕ → Option Row) (attribute id : ℕ) → is_lt (compare_at rows attribute id id) ≡ false
not-before rows attribute id = ap is_lt (same-self (slots-total rows attribute) id)

second-equal : (a b : Ordering) → ordering_then a b ≡ Equal → b ≡ Equal
second-equal Less b e = absurd cc
second-equal Equal b e = e
second-equal Greater b e = absurd cc

-- only one number is equal to another
pub slots-exact : (rows : ℕ → Option Row) (attribute i j : ℕ) → compare_at rows attribute i j ≡ Equal → i ≡ j
slots-exact rows attribute i j e = exact_unsigned i j (second-equal _ (nat_cmp i j) e)
