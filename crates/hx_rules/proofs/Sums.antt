-- A checked sum is the sum where that is a number of 64 bits, and nothing else.
use Rattle.std.proofs.Common.{◌≡◌, ℤ, Bool, true, false, refl}
use Rattle.std.proofs.lemmas.Bool.{ltb-true, lt-ltb}
use Rattle.std.specs.Prelude.{pos, negsuc, ◌+ℤ◌, FitsSigned, Ok, Err}
use Rattle.std.specs.Int.{w64}
use Rattle.hx_types.specs.declared.calls.Answer.TheVariants as an_answer
use Rattle.hx_types.specs.declared.values.Value.TheVariants as a_value
use Rattle.hx_types.specs.Effects.{added, fits_64}

fits : (z : ℤ) → fits_64 z ≡ true → FitsSigned w64 z
fits (pos n) e = record { sfits = ltb-true _ _ e }
fits (negsuc n) e = record { sfits = ltb-true _ _ e }

fits_back : (z : ℤ) → FitsSigned w64 z → fits_64 z ≡ true
fits_back (pos n) h = lt-ltb _ _ h.sfits
fits_back (negsuc n) h = lt-ltb _ _ h.sfits

-- a sum that was found
pub added_fits : (v i : ℤ) → FitsSigned w64 (v +ℤ i) → added v i ≡ Ok (a_value.Int (v +ℤ i))
added_fits v i h = rw (fits_back (v +ℤ i) h) refl

-- a sum that wasn't
pub added_overflows : (v i : ℤ) → ¬ FitsSigned w64 (v +ℤ i) → added v i ≡ Err an_answer.Overflow
added_overflows v i n = by (fits_64 (v +ℤ i)) refl where
  by : (b : Bool) → fits_64 (v +ℤ i) ≡ b → added v i ≡ Err an_answer.Overflow
  by true e = absurd (n (fits (v +ℤ i) e))
  by false e = rw e refl
