-- What is parsed of a text that begins as a number in decimal does.
use Rattle.std.proofs.Common.{ℕ, zero, suc, ◌≡◌, ◌<◌, ◌≤◌, ◌^◌, List, length, get_or, Some, Result, Ok, Err, ap, sym, subst, arith, ◌∙◌}
use Rattle.std.specs.Prelude.{◌↔◌}
use Rattle.std.specs.Fmt.{decimal}
use Rattle.std.specs.Result.{OkIff, result_ok}
use Rattle.std.specs.Str.Parse.{ParsesUnsigned, AllDigits, digits_value}
use Rattle.std.proofs.lemmas.Fmt.{first_decimal, decimal_digit, decimal_nonempty, digits_decimal, parse-decimal, decimal-digits_value}
use Rattle.std.proofs.lemmas.Option.{same_Some, none-some}
use Rattle.std.proofs.lemmas.Str.Parse.{IsNumeralModel, numerals_by_value, tells_digits, parse_plain, not_in_digits}
use Rattle.hx_words.specs.Numbers.{BeginsAsDecimal}

digits : IsNumeralModel (AllDigits 10) (digits_value 10)
digits = numerals_by_value (AllDigits 10) tells_digits

lone_zero : (n : ℕ) → n < 2 ^ 64 → get_or (decimal n) 0 0 ≡ 48 → length (decimal n) ≤ 1
lone_zero zero h e = rw (decimal_digit 0 (omega arith)) (omega arith)
lone_zero (suc n) h e = omega (arith, first_decimal (suc n) (omega arith) h)

pub begins : (text : List ℕ) (n : ℕ) → n < 2 ^ 64 → text ≡ decimal n → BeginsAsDecimal text
begins text n h e = subst BeginsAsDecimal (sym e) (record {
  no_sign = not_in_digits digits (decimal n) 43 (digits_decimal digits n h) (λ r. omega arith) 0 (decimal_nonempty n h);
  lone_zero = lone_zero n h;
})

read_back : {E : Type 0} (text : List ℕ) (r : Result ℕ E)
    → OkIff r (AllDigits 10 text × (0 < length text) × (digits_value 10 text < 2 ^ 64)) (digits_value 10 text)
    → BeginsAsDecimal text → (n : ℕ) → result_ok r ≡ Some n → text ≡ decimal n
read_back text (Err error) h b n e = absurd (none-some n e)
read_back text (Ok x) h b n e = sym (decimal-digits_value digits text h.0.0 h.0.1
    (λ first. omega (arith, b.lone_zero first, h.0.1)) h.0.2) ∙ ap decimal (sym h.1 ∙ same_Some x n e)

pub parsed : {E : Type 0} (text : List ℕ) (r : Result ℕ E) → ParsesUnsigned 64 10 text r → BeginsAsDecimal text
    → (n : ℕ) → n < 2 ^ 64 → (result_ok r ≡ Some n) ↔ (text ≡ decimal n)
parsed text r p b n h = (read_back text r (parse_plain digits 64 text r p b.no_sign) b n, λ e. ap result_ok (parse-decimal 64 n text r h h e p))
