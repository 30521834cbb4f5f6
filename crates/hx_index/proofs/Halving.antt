-- A binary search, and how many looks it takes.
use Rattle.std.proofs.Common.{◌≡◌, ℕ, zero, suc, ◌+◌, ◌/◌, ◌<◌, ◌≤◌, Bool, true, false, cond, List, length}
use Rattle.std.proofs.Common.{slice_index_or, refl, ap, sym, ◌∙◌, subst, arith, eqb}
use Rattle.std.specs.List.Sorted.{IsPartitionedBy}
use Rattle.std.proofs.lemmas.Bool.{cond_both, cond-false, cond-true, eq-eqb, eqb-true, false_from_ne_true, false≢true}
use Rattle.hx_index.specs.Looks.{HaveCounted, digits_of, digits_within, raised}

-- the test passes below a place and not from another on
pub record IsBetween (p : ℕ → Bool) (order : List ℕ) (low high : ℕ) : Type 0 where
  pub within : low ≤ high
  pub ends : high ≤ length order
  pub before : (i : ℕ) → i < low → p (slice_index_or order i 0) ≡ true
  pub from : (i : ℕ) → high ≤ i → i < length order → p (slice_index_or order i 0) ≡ false

module _ (p : ℕ → Bool) (order : List ℕ) where
  module _ (parted : IsPartitionedBy p order) (low high middle : ℕ) (h : IsBetween p order low high) (l : low ≤ middle) (m : middle < high) where
    pub between-above : p (slice_index_or order middle 0) ≡ true → IsBetween p order (middle + 1) high
    between-above t = record {
      within = omega (arith, m);
      ends = h.ends;
      before = λ i b. parted i middle 0 (omega (arith, b)) (let e = h.ends in omega (arith, e, m)) t;
      from = h.from;
    }

    pub between-below : p (slice_index_or order middle 0) ≡ false → IsBetween p order low middle
    between-below f = record {
      within = l;
      ends = (let e = h.ends in omega (arith, e, m));
      before = h.before;
      from = λ i b n. false_from_ne_true (p (slice_index_or order i 0)) (λ t. false≢true (sym f ∙ parted middle i 0 b n t));
    }

-- how deep the digits are sought doesn't matter
half-below : (n f : ℕ) → n ≤ suc f → (n ≡ 0 → ⊥) → n / 2 ≤ f
half-below n f l z = omega (arith, l, z)

deep : (f g n : ℕ) → n ≤ f → n ≤ g → digits_within f n ≡ digits_within g n
deep zero zero n l m = refl
deep zero (suc g) n l m = sym (cond-true (eqb n 0) 0 (suc (digits_within g (n / 2))) (eq-eqb n 0 (omega (arith, l))))
deep (suc f) zero n l m = cond-true (eqb n 0) 0 (suc (digits_within f (n / 2))) (eq-eqb n 0 (omega (arith, m)))
deep (suc f) (suc g) n l m = cond_both (eqb n 0) 0 (suc (digits_within f (n / 2))) (λ x. x ≡ cond (eqb n 0) 0 (suc (digits_within g (n / 2))))
    (λ t. sym (cond-true (eqb n 0) 0 (suc (digits_within g (n / 2))) t))
    (λ t. let z : n ≡ 0 → ⊥ = λ e. false≢true (sym t ∙ eq-eqb n 0 e) in
    ap suc (deep f g (n / 2) (half-below n f l z) (half-below n g m z))
    ∙ sym (cond-false (eqb n 0) 0 (suc (digits_within g (n / 2))) t))

grows : (f m n : ℕ) → m ≤ n → digits_within f m ≤ digits_within f n
grows zero m n l = omega arith
grows (suc f) m n l = cond_both (eqb m 0) 0 (suc (digits_within f (m / 2))) (λ x. x ≤ cond (eqb n 0) 0 (suc (digits_within f (n / 2))))
    (λ t. omega arith)
    (λ t. let z : m ≡ 0 → ⊥ = λ e. false≢true (sym t ∙ eq-eqb m 0 e) in
    let r = grows f (m / 2) (n / 2) (omega (arith, l)) in
    subst (λ x. suc (digits_within f (m / 2)) ≤ x)
    (sym (cond-false (eqb n 0) 0 (suc (digits_within f (n / 2)))
    (false_from_ne_true (eqb n 0) (λ u. z (let e = eqb-true n 0 u in omega (arith, e, l)))))) (omega (arith, r)))

-- a half has a digit less
pub half-digits : (h n : ℕ) → 0 < n → h ≤ n / 2 → digits_of h + 1 ≤ digits_of n
half-digits h zero l m = absurd (omega (arith, l))
half-digits h (suc n) l m =
    let a = deep h n h (omega arith) (omega (arith, m)) in
    let b = grows n h (suc n / 2) m in
    let c = cond-false (eqb (suc n) 0) 0 (suc (digits_within n (suc n / 2)))
    (false_from_ne_true (eqb (suc n) 0) (λ t. let e = eqb-true (suc n) 0 t in omega (arith, e))) in
    omega (arith, a, b, c)

pub raised-most : (n : ℕ) → raised n ≤ n + 1
raised-most n = cond_both (eqb n 0xffff_ffff_ffff_ffff) n (n + 1) (λ x. x ≤ n + 1) (λ t. omega arith) (λ t. omega arith)

pub raised-least : (n : ℕ) → n ≤ raised n
raised-least n = cond_both (eqb n 0xffff_ffff_ffff_ffff) n (n + 1) (λ x. n ≤ x) (λ t. omega arith) (λ t. omega arith)

-- one look more is one counted more
pub counted_one : (n old now : ℕ) → HaveCounted n old now → HaveCounted (n + 1) old (raised now)
counted_one n old now h = cond_both (eqb now 0xffff_ffff_ffff_ffff) now (now + 1) (HaveCounted (n + 1) old)
    (λ t l. let e = eqb-true now 0xffff_ffff_ffff_ffff t in absurd (omega (arith, l, e)))
    (λ f l. let more = h (omega (arith, l)) in omega (arith, more))
