-- Order of texts by their first bytes.
use Rattle.std.proofs.Common.{◌≡◌, ℕ, zero, suc, ◌+◌, ◌*◌, ◌^◌, ◌<◌, ◌≤◌, List, [], ◌∷◌, drop, take, length, get_or}
use Rattle.std.proofs.Common.{add-one, inl, inr, refl, ap, sym, ◌∙◌, subst, arith}
use Rattle.std.specs.List.{AllByRecursion}
use Rattle.std.specs.Cmp.{nat_cmp_is}
use Rattle.std.specs.Int.{from_be_bytes, w64}
use Rattle.std.specs.Cmp.Lexicographic.{slice_cmp}
use Rattle.std.specs.declared.cmp.Ordering.{Ordering}
use Rattle.std.specs.declared.cmp.Ordering.TheVariants.{Less, Equal, Greater}
use Rattle.std.specs.Ordering.{nat_cmp, ordering_then}
use Rattle.std.proofs.lemmas.Bool.{cases_lt}
use Rattle.std.proofs.Math.Nat.{eq-or-lt_of_le, pow-le-pow_right, pow-suc}
use Rattle.hx_types.specs.Prefixes.{IsPrefixOf, prefix_from, prefix_of}

abbrev AreBytes : List ℕ → Type 0
AreBytes bytes = AllByRecursion (λ byte. byte < 256) bytes

-- of a lower number the prefix is lower, whatever bytes come
outgrown : (k m n : ℕ) (a b : List ℕ) → AreBytes a → m < n → prefix_from k m a < prefix_from k n b
outgrown zero m n a b h l = l
outgrown (suc k) m n [] [] h l = outgrown k (m * 256) (n * 256) [] [] h (omega (arith, l))
outgrown (suc k) m n [] (y ∷ ys) h l = outgrown k (m * 256) (n * 256 + y) [] ys h (omega (arith, l))
outgrown (suc k) m n (x ∷ xs) [] h l = let x256 = h.0 in outgrown k (m * 256 + x) (n * 256) xs [] h.1 (omega (arith, l, x256))
outgrown (suc k) m n (x ∷ xs) (y ∷ ys) h l = let x256 = h.0 in outgrown k (m * 256 + x) (n * 256 + y) xs ys h.1 (omega (arith, l, x256))

-- none is lower than that of the empty text
least : (k m n : ℕ) (a : List ℕ) → m ≤ n → prefix_from k m [] ≤ prefix_from k n a
least zero m n a l = l
least (suc k) m n [] l = least k (m * 256) (n * 256) [] (omega (arith, l))
least (suc k) m n (x ∷ xs) l = least k (m * 256) (n * 256 + x) xs (omega (arith, l))

by-first : (x y : ℕ) (o rest : Ordering) → o ≡ nat_cmp x y → ordering_then (nat_cmp x y) rest ≡ ordering_then o rest
by-first x y o rest e = ap (λ p. ordering_then p rest) (sym e)

-- of a lower prefix the text is lower
lower : (k n : ℕ) (a b : List ℕ) → AreBytes a → AreBytes b → prefix_from k n a < prefix_from k n b → slice_cmp nat_cmp a b ≡ Less
lower zero n a b h g l = absurd (omega (arith, l))
lower (suc k) n [] [] h g l = absurd (omega (arith, l))
lower (suc k) n [] (y ∷ ys) h g l = refl
lower (suc k) n (x ∷ xs) [] h g l = let m = least k (n * 256) (n * 256 + x) xs (omega arith) in absurd (omega (arith, l, m))
lower (suc k) n (x ∷ xs) (y ∷ ys) h g l = elim (cases_lt x y) [
  | inl s ↦ by-first x y Less (slice_cmp nat_cmp xs ys) (nat_cmp_is x y Less s)
  | inr m ↦ elim (eq-or-lt_of_le m) [
    | inl e ↦ by-first x y Equal (slice_cmp nat_cmp xs ys) (nat_cmp_is x y Equal (sym e))
        ∙ lower k (n * 256 + x) xs ys h.1 g.1 (subst (λ z. prefix_from k (n * 256 + x) xs < prefix_from k (n * 256 + z) ys) e l)
    | inr s ↦ let o = outgrown k (n * 256 + y) (n * 256 + x) ys xs g.1 (omega (arith, s)) in absurd (omega (arith, l, o))
  ]
]

-- and of a higher one it is higher
higher : (k n : ℕ) (a b : List ℕ) → AreBytes a → AreBytes b → prefix_from k n b < prefix_from k n a → slice_cmp nat_cmp a b ≡ Greater
higher zero n a b h g l = absurd (omega (arith, l))
higher (suc k) n [] [] h g l = absurd (omega (arith, l))
higher (suc k) n [] (y ∷ ys) h g l = let m = least k (n * 256) (n * 256 + y) ys (omega arith) in absurd (omega (arith, l, m))
higher (suc k) n (x ∷ xs) [] h g l = refl
higher (suc k) n (x ∷ xs) (y ∷ ys) h g l = elim (cases_lt x y) [
  | inl s ↦ let o = outgrown k (n * 256 + x) (n * 256 + y) xs ys h.1 (omega (arith, s)) in absurd (omega (arith, l, o))
  | inr m ↦ elim (eq-or-lt_of_le m) [
    | inl e ↦ by-first x y Equal (slice_cmp nat_cmp xs ys) (nat_cmp_is x y Equal (sym e))
        ∙ higher k (n * 256 + x) xs ys h.1 g.1 (subst (λ z. prefix_from k (n * 256 + z) ys < prefix_from k (n * 256 + x) xs) e l)
    | inr s ↦ by-first x y Greater (slice_cmp nat_cmp xs ys) (nat_cmp_is x y Greater s)
  ]
]

module _ (a b : List ℕ) (m n : ℕ) (h : IsPrefixOf a m) (g : IsPrefixOf b n) where
  pub lower-cmp : m < n → slice_cmp nat_cmp a b ≡ Less
  lower-cmp l = (let p = h.prefix_is in let q = g.prefix_is in lower 8 0 a b h.bytes g.bytes (omega (arith, l, p, q)))

  pub higher-cmp : n < m → slice_cmp nat_cmp a b ≡ Greater
  higher-cmp l = (let p = h.prefix_is in let q = g.prefix_is in higher 8 0 a b h.bytes g.bytes (omega (arith, l, p, q)))

  -- prefixes that differ are in the order of their texts
  pub apart-cmp : (m ≡ n → ⊥) → nat_cmp m n ≡ slice_cmp nat_cmp a b
  apart-cmp d = elim (cases_lt m n) [
    | inl l ↦ sym (nat_cmp_is m n Less l) ∙ sym (lower-cmp l)
    | inr l ↦ elim (eq-or-lt_of_le l) [
      | inl e ↦ absurd (d (sym e))
      | inr s ↦ sym (nat_cmp_is m n Greater s) ∙ sym (higher-cmp s)
    ]
  ]

-- one byte more of a text
pub one-byte : (k n i : ℕ) (bytes : List ℕ) → prefix_from (suc k) n (drop i bytes) ≡ prefix_from k (n * 256 + get_or bytes i 0) (drop (suc i) bytes)
one-byte k n zero [] = (let e : n * 256 ≡ n * 256 + 0 = omega arith in ap (λ m. prefix_from k m []) e)
one-byte k n (suc i) [] = (let e : n * 256 ≡ n * 256 + 0 = omega arith in ap (λ m. prefix_from k m []) e)
one-byte k n zero (x ∷ xs) = refl
one-byte k n (suc i) (x ∷ xs) = one-byte k n i xs

-- a number so far is below that many bytes
pub few-bytes : (n i : ℕ) → n < 256 ^ i → i < 8 → n < 256 ^ 7
few-bytes n i l m = let most : i ≤ 7 = omega (arith, m) in
    let p : 256 ^ i ≤ 256 ^ 7 = pow-le-pow_right {n = 256} (omega arith) {i = i} {j = 7} most in omega (arith, l, p)

pub more-bytes : (n i b : ℕ) → n < 256 ^ i → b < 256 → n * 256 + b < 256 ^ (i + 1)
more-bytes n i b l h = subst (λ z. n * 256 + b < z) (ap (λ j. 256 ^ j) (sym (add-one i))) (let e = pow-suc 256 i in omega (arith, l, h, e))

pub all-bytes : (bytes : List ℕ) → ((i : ℕ) → get_or bytes i 0 < 256) → AreBytes bytes
all-bytes [] f = tt
all-bytes (x ∷ xs) f = (f 0, all-bytes xs (λ i. f (suc i)))

eight : (a b c d e f g h : ℕ) → a * 72057594037927936 + b * 281474976710656 + c * 1099511627776 + d * 4294967296 + e * 16777216 + f * 65536 + g * 256 + h
    ≡ (((((((0 * 256 + a) * 256 + b) * 256 + c) * 256 + d) * 256 + e) * 256 + f) * 256 + g) * 256 + h
eight a b c d e f g h = omega arith

-- eight bytes read at once are the prefix of a text that begins with them
pub first-eight : (text front : List ℕ) → front ≡ take 8 text → 8 ≤ length text → from_be_bytes w64 front ≡ prefix_of text
first-eight text front e l = ap (from_be_bytes w64) e ∙ by text l
  where
    by : (text : List ℕ) → 8 ≤ length text → from_be_bytes w64 (take 8 text) ≡ prefix_of text
    by (a ∷ b ∷ c ∷ d ∷ e ∷ f ∷ g ∷ h ∷ rest) l = eight a b c d e f g h
    by [] l = absurd (omega (arith, l))
    by (a ∷ []) l = absurd (omega (arith, l))
    by (a ∷ b ∷ []) l = absurd (omega (arith, l))
    by (a ∷ b ∷ c ∷ []) l = absurd (omega (arith, l))
    by (a ∷ b ∷ c ∷ d ∷ []) l = absurd (omega (arith, l))
    by (a ∷ b ∷ c ∷ d ∷ e ∷ []) l = absurd (omega (arith, l))
    by (a ∷ b ∷ c ∷ d ∷ e ∷ f ∷ []) l = absurd (omega (arith, l))
    by (a ∷ b ∷ c ∷ d ∷ e ∷ f ∷ g ∷ []) l = absurd (omega (arith, l))
