-- Byte order of texts: a text is below another where it compares as less, so this is a strict total order.
use Rattle.std.proofs.Common.{◌≡◌, ℕ, Bool, true, false, ◌&&◌, ◌||◌, ◌==◌, nat_lt, cond, List, [], ◌∷◌, refl, sym, ap, ◌∙◌}
use Rattle.std.proofs.lemmas.Bool.{false≢true}
use Rattle.std.proofs.lemmas.Map.Text.{is_eq-slice_cmp}
use Rattle.std.specs.Cmp.Lexicographic.{nat_list_cmp_total, nat_list_eq_equiv, slice_cmp}
use Rattle.std.specs.Ordering.{is_eq, is_lt, nat_cmp, ordering_reverse, ordering_then}
use Rattle.std.specs.declared.cmp.Ordering.{Ordering}
use Rattle.std.specs.declared.cmp.Ordering.TheVariants.{Less, Equal, Greater}
use Rattle.hx_types.specs.Words.{same_text, text_below}

-- how two texts compare
abbrev order : List ℕ → List ℕ → Ordering
order a b = slice_cmp nat_cmp a b

by_first : (less equal : Bool) (rest : Ordering) (below : Bool) → below ≡ is_lt rest
    → (less || (equal && below)) ≡ is_lt (ordering_then (cond less Less (cond equal Equal Greater)) rest)
by_first true equal rest below h = refl
by_first false true rest below h = h
by_first false false rest below h = refl

-- byte order as it is compared
pub text_below-is_lt : (a b : List ℕ) → text_below a b ≡ is_lt (slice_cmp nat_cmp a b)
text_below-is_lt [] [] = refl
text_below-is_lt [] (y ∷ ys) = refl
text_below-is_lt (x ∷ xs) [] = refl
text_below-is_lt (x ∷ xs) (y ∷ ys) = by_first (nat_lt x y) (x == y) (order xs ys) (text_below xs ys) (text_below-is_lt xs ys)

less : (a b : List ℕ) → text_below a b ≡ true → order a b ≡ Less
less a b e = by (order a b) (sym (text_below-is_lt a b) ∙ e)
  where
    by : (o : Ordering) → is_lt o ≡ true → o ≡ Less
    by Less t = refl
    by Equal t = absurd (false≢true t)
    by Greater t = absurd (false≢true t)

-- what is below a lower text is below
pub text_below-trans : (a b c : List ℕ) → text_below a b ≡ true → text_below b c ≡ true → text_below a c ≡ true
text_below-trans a b c e f = text_below-is_lt a c ∙ ap is_lt (nat_list_cmp_total.trans a b c (less a b e) (less b c f))

-- no two texts are below each other
pub text_below-back : (a b : List ℕ) → text_below a b ≡ true → text_below b a ≡ false
text_below-back a b e = text_below-is_lt b a ∙ ap is_lt (nat_list_cmp_total.antisymm b a ∙ ap ordering_reverse (less a b e))

-- a lower text is another
pub text_below-differs : (a b : List ℕ) → text_below a b ≡ true → same_text a b ≡ false
text_below-differs a b e = sym (is_eq-slice_cmp a b) ∙ ap is_eq (less a b e)

pub text_below-apart : (a b : List ℕ) → text_below a b ≡ true → a ≡ b → ⊥
text_below-apart a b e q = false≢true (sym (text_below-differs a b e) ∙ ap (same_text a) (sym q) ∙ nat_list_eq_equiv.refl a)

-- of two texts that differ one is below the other
pub text_below-other : (a b : List ℕ) → same_text a b ≡ false → text_below a b ≡ false → text_below b a ≡ true
text_below-other a b n e =
    text_below-is_lt b a ∙ ap is_lt (nat_list_cmp_total.antisymm b a)
    ∙ by (order a b) (is_eq-slice_cmp a b ∙ n) (sym (text_below-is_lt a b) ∙ e)
  where
    by : (o : Ordering) → is_eq o ≡ false → is_lt o ≡ false → is_lt (ordering_reverse o) ≡ true
    by Less s t = absurd (false≢true (sym t))
    by Equal s t = absurd (false≢true (sym s))
    by Greater s t = refl

-- that two texts are the same can be read backwards
pub same_text-symm : (a b : List ℕ) → same_text a b ≡ same_text b a
same_text-symm = nat_list_eq_equiv.symm
