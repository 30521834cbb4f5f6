-- Bytes that stand between quotes as they are.
use Rattle.std.proofs.Common.{◌≡◌, ℕ, Bool, true, false, not, ◌||◌, cond, eqb, List, [], ◌∷◌, ◌++◌, refl, ap, ◌∙◌}
use Rattle.std.specs.List.{flat_map, list_all}
use Rattle.std.specs.Prelude.{codes}
use Rattle.std.proofs.lemmas.Bool.{and_parts, false≢true}
use Rattle.hx_print.specs.Plain.{is_plain}
use Rattle.hx_print.specs.Printing.{escape}

escaped : (b : ℕ) → is_plain b ≡ true → escape b ≡ b ∷ []
escaped b = by (eqb b 34) (eqb b 92) (eqb b 10) (eqb b 9)
  where
    by : (q s n t : Bool) → not (q || s || n || t) ≡ true
        → cond q (codes "\\\"") (cond s (codes "\\\\") (cond n (codes "\\n") (cond t (codes "\\t") (b ∷ [])))) ≡ b ∷ []
    by false false false false e = refl
    by true s n t e = absurd (false≢true e)
    by false true n t e = absurd (false≢true e)
    by false false true t e = absurd (false≢true e)
    by false false false true e = absurd (false≢true e)

-- they are the same once escaped
pub stays_plain : (bytes : List ℕ) → list_all is_plain bytes ≡ true → flat_map escape bytes ≡ bytes
stays_plain [] e = refl
stays_plain (b ∷ rest) e =
    let both = and_parts (is_plain b) (list_all is_plain rest) e in
    ap (λ (x : List ℕ). x ++ flat_map escape rest) (escaped b both.0) ∙ ap (λ (x : List ℕ). b ∷ x) (stays_plain rest both.1)
