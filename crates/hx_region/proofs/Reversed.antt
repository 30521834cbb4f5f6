-- Bits in reverse order, a byte at a time.
use Rattle.std.proofs.Common.{◌≡◌, ℕ, zero, suc, ◌+◌, ◌*◌, ◌/◌, ◌%◌, ◌^◌, ◌<◌, map, get_or, refl, sym, ap, ◌∙◌, arith}
use Rattle.std.specs.Int.{byte_at}
use Rattle.std.specs.List.{range_with_len}
use Rattle.std.proofs.Math.Nat.{div-div-eq-div-mul, pow-suc, pow-succ'}
use Rattle.std.proofs.Math.Pow.{mod-mod-pow}
use Rattle.std.proofs.lemmas.Nat.{pow-add, field_of}
use Rattle.std.proofs.lemmas.List.FromFn.{get_or-map-range_with_len}
use Rattle.hx_model.specs.Cells.{reversed_bits}
use Rattle.hx_region.specs.declared.hashing.TheConstants.{REVERSED_BYTES}

-- the lower bits come first, and those above them last
reversed-joined : (m n k x : ℕ) → k ≡ m + n → reversed_bits k x ≡ reversed_bits m x * 2 ^ n + reversed_bits n (x / 2 ^ m)
reversed-joined zero n k x e =
    (let whole : x / 1 ≡ x = omega arith in ap (λ j. reversed_bits j x) e ∙ ap (λ j. reversed_bits j x) none
    ∙ ap (reversed_bits n) (sym whole) ∙ nothing_before (2 ^ n) (reversed_bits n (x / 1)))
  where
    none : 0 + n ≡ n
    none = omega arith

    nothing_before : (p r : ℕ) → r ≡ 0 * p + r
    nothing_before p r = omega arith
reversed-joined (suc m) n zero x e = absurd (omega (arith, e))
reversed-joined (suc m) n (suc k) x e =
    let l : k ≡ m + n = omega (arith, e) in
    let r = reversed-joined m n k (x / 2) l in
    let d : x / 2 / 2 ^ m ≡ x / 2 ^ suc m = div-div-eq-div-mul x 2 (2 ^ m) ∙ ap (λ j. x / j) (sym (pow-succ' 2 m)) in
    joined (x % 2) (reversed_bits m (x / 2)) (2 ^ m) (2 ^ n) (2 ^ k) (reversed_bits k (x / 2))
    (reversed_bits n (x / 2 ^ suc m)) (ap (λ j. 2 ^ j) l ∙ pow-add 2 m n)
    (r ∙ ap (λ j. reversed_bits m (x / 2) * 2 ^ n + reversed_bits n j) d)
  where
    joined : (b s p q w r t : ℕ) → w ≡ p * q → r ≡ s * q + t → b * w + r ≡ (b * p + s) * q + t
    joined b s p q w r t e f = (let g = ap (λ k. b * k) e in omega (arith, f, g))

-- the bits above don't count
reversed-low : (m x : ℕ) → reversed_bits m (x % 2 ^ m) ≡ reversed_bits m x
reversed-low zero x = refl
reversed-low (suc m) x =
    let one_more : suc m ≡ m + 1 = omega arith in
    let lowest : x % 2 ^ suc m % 2 ≡ x % 2 = ap (λ j. x % 2 ^ j % 2) one_more ∙ mod-mod-pow x m 1 in
    let above : x % 2 ^ suc m / 2 ≡ x / 2 % 2 ^ m = ap (λ j. x % 2 ^ j / 2) one_more ∙ field_of x m 1 in
    ap (λ b. b * 2 ^ m + reversed_bits m (x % 2 ^ suc m / 2)) lowest
    ∙ ap (λ y. x % 2 * 2 ^ m + reversed_bits m y) above
    ∙ ap (λ r. x % 2 * 2 ^ m + r) (reversed-low m (x / 2))

-- a byte comes before those above it
byte_first : (n k x rest : ℕ) → k ≡ 8 + n → rest ≡ x / 256 → reversed_bits k x ≡ reversed_bits 8 (x % 256) * 2 ^ n + reversed_bits n rest
byte_first n k x rest e f =
    reversed-joined 8 n k x e
    ∙ ap (λ b. b * 2 ^ n + reversed_bits n (x / 256)) (sym (reversed-low 8 x))
    ∙ ap (λ y. reversed_bits 8 (x % 256) * 2 ^ n + reversed_bits n y) (sym f)

-- the table has the reversed bits of each byte
table_is : REVERSED_BYTES ≡ map (reversed_bits 8) (range_with_len 0 256)
table_is = refl

-- a byte of the table
pub table_at : (b : ℕ) → b < 256 → get_or REVERSED_BYTES b 0 ≡ reversed_bits 8 b
table_at b l = ap (λ t. get_or t b 0) table_is ∙ get_or-map-range_with_len (reversed_bits 8) 0 256 b b 0 l (omega arith)

-- eight bytes, the first of them the highest
from_bytes : (w a b c d e f g h : ℕ) (w7 w6 w5 w4 w3 w2 w1 : ℕ) → w ≡ a * 2 ^ 56 + w7 → w7 ≡ b * 2 ^ 48 + w6
    → w6 ≡ c * 2 ^ 40 + w5 → w5 ≡ d * 2 ^ 32 + w4 → w4 ≡ e * 2 ^ 24 + w3
    → w3 ≡ f * 2 ^ 16 + w2 → w2 ≡ g * 2 ^ 8 + w1 → w1 ≡ h * 2 ^ 0 + 0
    → a * 256 ^ 7 + b * 256 ^ 6 + c * 256 ^ 5 + d * 256 ^ 4 + e * 256 ^ 3 + f * 256 ^ 2 + g * 256 ^ 1 + h ≡ w
from_bytes w a b c d e f g h w7 w6 w5 w4 w3 w2 w1 p8 p7 p6 p5 p4 p3 p2 p1 = omega (arith, p8, p7, p6, p5, p4, p3, p2, p1)

-- 64 bits in reverse order are their bytes in reverse order, each with its bits in reverse order
pub bytes_reversed : (x a b c d e f g h : ℕ)
    → a ≡ reversed_bits 8 (byte_at 0 x) → b ≡ reversed_bits 8 (byte_at 1 x) → c ≡ reversed_bits 8 (byte_at 2 x) → d ≡ reversed_bits 8 (byte_at 3 x)
    → e ≡ reversed_bits 8 (byte_at 4 x) → f ≡ reversed_bits 8 (byte_at 5 x) → g ≡ reversed_bits 8 (byte_at 6 x) → h ≡ reversed_bits 8 (byte_at 7 x)
    → a * 256 ^ 7 + b * 256 ^ 6 + c * 256 ^ 5 + d * 256 ^ 4 + e * 256 ^ 3 + f * 256 ^ 2 + g * 256 ^ 1 + h ≡ reversed_bits 64 x
bytes_reversed x a b c d e f g h pa pb pc pd pe pf pg ph =
    from_bytes (reversed_bits 64 x) a b c d e f g h _ _ _ _ _ _ _
    (step 56 64 x (x / 256) a refl refl pa)
    (step 48 56 (x / 256) (x / 256 ^ 2) b refl (after 1) pb)
    (step 40 48 (x / 256 ^ 2) (x / 256 ^ 3) c refl (after 2) pc)
    (step 32 40 (x / 256 ^ 3) (x / 256 ^ 4) d refl (after 3) pd)
    (step 24 32 (x / 256 ^ 4) (x / 256 ^ 5) e refl (after 4) pe)
    (step 16 24 (x / 256 ^ 5) (x / 256 ^ 6) f refl (after 5) pf)
    (step 8 16 (x / 256 ^ 6) (x / 256 ^ 7) g refl (after 6) pg)
    (step 0 8 (x / 256 ^ 7) (x / 256 ^ 8) h refl (after 7) ph)
  where
    step : (n k y rest b : ℕ) → k ≡ 8 + n → rest ≡ y / 256 → b ≡ reversed_bits 8 (y % 256) → reversed_bits k y ≡ b * 2 ^ n + reversed_bits n rest
    step n k y rest b e f p = byte_first n k y rest e f ∙ ap (λ r. r * 2 ^ n + reversed_bits n rest) (sym p)

    after : (i : ℕ) → x / 256 ^ suc i ≡ x / 256 ^ i / 256
    after i = sym (div-div-eq-div-mul x (256 ^ i) 256 ∙ ap (λ k. x / k) (sym (pow-suc 256 i)))
