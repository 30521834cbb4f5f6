-- Numbers after commas, one after the other.
use Rattle.std.proofs.Common.{◌≡◌, ℕ, zero, suc, ◌-◌, ◌<◌, true, false, cond, List, [], ◌∷◌, ◌++◌, None, Some, refl, ap, ◌∙◌, arith}
use Rattle.std.specs.Prelude.{codes, nat_eq}
use Rattle.std.specs.List.{starts_with}
use Rattle.hx_report_lines.specs.Readers.{◌>>=◌, on_some, short_number, word}
use Rattle.hx_report_lines.specs.Tailing.{numbers_after}

pub at_end : (n : ℕ) (front bytes : List ℕ) → n ≡ 0 → numbers_after n front bytes ≡ Some (front, bytes)
at_end zero front bytes e = refl
at_end (suc n) front bytes e = absurd (omega arith)

pub no_comma : (n : ℕ) (front bytes : List ℕ) → starts_with nat_eq bytes (codes ",") ≡ false → numbers_after n front bytes ≡ Some (front, bytes)
no_comma zero front bytes e = refl
no_comma (suc n) front bytes e = ap (λ b. cond b
    ((word (codes ",") >>= (λ u. short_number >>= (λ m. numbers_after n (front ++ m ∷ [])))) bytes) (Some (front, bytes))) e

after_comma : (n : ℕ) (front bytes mid : List ℕ) → starts_with nat_eq bytes (codes ",") ≡ true
    → word (codes ",") bytes ≡ Some (tt, mid) → numbers_after (suc n) front bytes
    ≡ on_some (short_number mid) (λ x. numbers_after n (front ++ x.0 ∷ []) x.1)
after_comma n front bytes mid e w =
    ap (λ b. cond b ((word (codes ",") >>= (λ u. short_number >>= (λ m. numbers_after n (front ++ m ∷ [])))) bytes) (Some (front, bytes))) e
    ∙ ap (λ o. on_some o (λ y. on_some (short_number y.1) (λ x. numbers_after n (front ++ x.0 ∷ []) x.1))) w

pub no_number : (n : ℕ) (front bytes mid : List ℕ) → 0 < n → starts_with nat_eq bytes (codes ",") ≡ true
    → word (codes ",") bytes ≡ Some (tt, mid) → short_number mid ≡ None → numbers_after n front bytes ≡ None
no_number zero front bytes mid lt e w s = absurd (omega arith)
no_number (suc n) front bytes mid lt e w s = after_comma n front bytes mid e w ∙ ap (λ o. on_some o (λ x. numbers_after n (front ++ x.0 ∷ []) x.1)) s

pub one_number : (n m : ℕ) (front bytes mid rest : List ℕ) → 0 < n → starts_with nat_eq bytes (codes ",") ≡ true
    → word (codes ",") bytes ≡ Some (tt, mid) → short_number mid ≡ Some (m, rest)
    → numbers_after n front bytes ≡ numbers_after (n - 1) (front ++ m ∷ []) rest
one_number zero m front bytes mid rest lt e w s = absurd (omega arith)
one_number (suc n) m front bytes mid rest lt e w s =
    let less : n ≡ suc n - 1 = omega arith in
    after_comma n front bytes mid e w ∙ ap (λ o. on_some o (λ x. numbers_after n (front ++ x.0 ∷ []) x.1)) s
    ∙ ap (λ k. numbers_after k (front ++ m ∷ []) rest) less
