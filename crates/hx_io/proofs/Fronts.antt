-- What a read takes from the front of what is left.
use Rattle.std.proofs.Common.{◌≡◌, ℕ, ◌+◌, ◌<◌, ◌≤◌, List, [], ◌++◌, take, drop, length, min, sym, ◌∙◌, ap, arith, length-append, length-drop, length-take}
use Rattle.std.proofs.lemmas.List.{take-append-drop, take_at, drop-drop, drop_all}
use Rattle.std.proofs.KnownBytes.{Consumes-trans}
use Rattle.std.specs.Prelude.{Option}
use Rattle.std.specs.Io.KnownBytes.{Consumes}

-- a buffer's front is what was left, and none is read only at the end
pub read_front : (all left front buf : List ℕ) (given chunk n : ℕ) → drop given all ≡ left
    → front ≡ take n (drop given all) → n ≡ min (min (length buf) chunk) (length (drop given all)) → 1 ≤ chunk
    → (left ≡ take n (front ++ drop n buf) ++ drop (given + n) all) × (n ≡ 0 → 0 < length (front ++ drop n buf) → drop (given + n) all ≡ [])
read_front all left front buf given chunk n is_left is_front count some =
    let size : length front ≡ n = ap length is_front ∙ omega (arith, length-take n (drop given all)) in
    let whole : take n (front ++ drop n buf) ≡ take n (drop given all) = take_at front (drop n buf) n size ∙ is_front in
    let rest : drop (given + n) all ≡ drop n (drop given all) = sym (drop-drop n given all) in
    let room : length (front ++ drop n buf) ≤ length buf = omega (arith, length-append front (drop n buf), length-drop n buf) in (
      rw (whole, rest) (sym is_left ∙ sym (take-append-drop n (drop given all))),
      λ (none : n ≡ 0) (asked : 0 < length (front ++ drop n buf)). rest ∙ drop_all n (drop given all) (omega arith),
    )

-- the bytes that were taken so far, and those of one more read
pub consumes_more : (a b c : Option (List ℕ)) (bytes buf : List ℕ) (n : ℕ) → n ≤ length buf → Consumes a b bytes → Consumes b c (take n buf)
    → (all : List ℕ) × Consumes a c all × (length all ≡ length bytes + n)
consumes_more a b c bytes buf n room p q = (
  bytes ++ take n buf,
  Consumes-trans a b c bytes (take n buf) p q,
  omega (arith, length-append bytes (take n buf), length-take n buf),
)
