-- The words of an option tell it.
use Rattle.std.proofs.Common.{ℕ, ◌≡◌, ◌<◌, ◌^◌, List, [], ◌∷◌, ◌++◌, get_or, drop, Some, refl, ap, sym, subst, ◌∙◌, arith}
use Rattle.std.specs.Prelude.{◌↔◌}
use Rattle.std.specs.Fmt.{decimal}
use Rattle.std.proofs.lemmas.Fmt.{decimal_injective}
use Rattle.std.proofs.lemmas.Option.{same_Some}
use Rattle.hx_words.specs.declared.options.CommandOption.{CommandOption}
use Rattle.hx_words.specs.declared.options.CommandOption.TheVariants.{Workers, Lose, Repeat, Seed, Trace}
use Rattle.hx_words.specs.Options.{words_of, IsWithin}

-- the third letter of the first word is another for each option
letter : {xs ys : List (List ℕ)} → xs ≡ ys → get_or (get_or xs 0 []) 2 0 ≡ get_or (get_or ys 0 []) 2 0
letter e = ap (λ words. get_or (get_or words 0 []) 2 0) e

value : (a b : ℕ) {xs ys : List (List ℕ)} → a < 2 ^ 64 → b < 2 ^ 64 → xs ≡ ys → get_or xs 1 [] ≡ decimal a → get_or ys 1 [] ≡ decimal b → a ≡ b
value a b h g e first second = decimal_injective a b h g (sym first ∙ ap (λ words. get_or words 1 []) e ∙ second)

pub told : (a b : CommandOption) (xs ys : List (List ℕ)) → IsWithin a → IsWithin b → words_of a ++ xs ≡ words_of b ++ ys → (a ≡ b) × (xs ≡ ys)
told (Workers a) (Workers b) xs ys h g e = (ap Workers (value a b (omega (arith, h.1)) (omega (arith, g.1)) e refl refl), ap (drop 2) e)
told (Workers a) (Lose b) xs ys h g e = absurd (omega (arith, letter e))
told (Workers a) (Repeat b) xs ys h g e = absurd (omega (arith, letter e))
told (Workers a) (Seed b) xs ys h g e = absurd (omega (arith, letter e))
told (Workers a) Trace xs ys h g e = absurd (omega (arith, letter e))
told (Lose a) (Workers b) xs ys h g e = absurd (omega (arith, letter e))
told (Lose a) (Lose b) xs ys h g e = (ap Lose (value a b (omega (arith, h)) (omega (arith, g)) e refl refl), ap (drop 2) e)
told (Lose a) (Repeat b) xs ys h g e = absurd (omega (arith, letter e))
told (Lose a) (Seed b) xs ys h g e = absurd (omega (arith, letter e))
told (Lose a) Trace xs ys h g e = absurd (omega (arith, letter e))
told (Repeat a) (Workers b) xs ys h g e = absurd (omega (arith, letter e))
told (Repeat a) (Lose b) xs ys h g e = absurd (omega (arith, letter e))
told (Repeat a) (Repeat b) xs ys h g e = (ap Repeat (value a b (omega (arith, h)) (omega (arith, g)) e refl refl), ap (drop 2) e)
told (Repeat a) (Seed b) xs ys h g e = absurd (omega (arith, letter e))
told (Repeat a) Trace xs ys h g e = absurd (omega (arith, letter e))
told (Seed a) (Workers b) xs ys h g e = absurd (omega (arith, letter e))
told (Seed a) (Lose b) xs ys h g e = absurd (omega (arith, letter e))
told (Seed a) (Repeat b) xs ys h g e = absurd (omega (arith, letter e))
told (Seed a) (Seed b) xs ys h g e = (ap Seed (value a b h g e refl refl), ap (drop 2) e)
told (Seed a) Trace xs ys h g e = absurd (omega (arith, letter e))
told Trace (Workers b) xs ys h g e = absurd (omega (arith, letter e))
told Trace (Lose b) xs ys h g e = absurd (omega (arith, letter e))
told Trace (Repeat b) xs ys h g e = absurd (omega (arith, letter e))
told Trace (Seed b) xs ys h g e = absurd (omega (arith, letter e))
told Trace Trace xs ys h g e = (refl, ap (drop 1) e)

-- an option of two words is the only one of them
pub only : (a : CommandOption) (name text : List ℕ) → words_of a ≡ name ∷ text ∷ [] → IsWithin a → (b : CommandOption)
    → (Some a ≡ Some b) ↔ ((words_of b ≡ name ∷ text ∷ []) × IsWithin b)
only a name text e h b = (to, from)
  where
    to : Some a ≡ Some b → (words_of b ≡ name ∷ text ∷ []) × IsWithin b
    to same = subst (λ o. (words_of o ≡ name ∷ text ∷ []) × IsWithin o) (same_Some a b same) (e, h)

    from : (words_of b ≡ name ∷ text ∷ []) × IsWithin b → Some a ≡ Some b
    from g = ap Some ((told a b [] [] h g.1 (ap (λ words. words ++ []) (e ∙ sym g.0))).0)
