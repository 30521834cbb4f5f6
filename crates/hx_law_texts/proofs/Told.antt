-- What a reader gives where it succeeds, on tokens whose texts and numbers can be said.
use Rattle.hx_law_texts.proofs.Vocabulary.{[], and_right, Bool, Bounds, cond, Err, false, FitsSigned, int_le, is_at, IsText, leb-true, length, List, nat_le}
use Rattle.hx_law_texts.proofs.Vocabulary.{negsuc, Number, Ok, ok_is, on_ok_ok, Order, pos, Reader, Reason, refl, repeat, Result, Sign, subst, suc, Text, Tok}
use Rattle.hx_law_texts.proofs.Vocabulary.{true, Until, w64, Word, zero, ℕ, ℤ, ◌<◌, ◌^◌, ◌∷◌, ◌≡◌, ◌≤◌}
use Rattle.hx_script.specs.Readers.{◌>>=◌, give, refuse, judged, check, word, number, text, end, sign, fixed, is_between, nat_of, number_in, natural}
use Rattle.hx_script.specs.Readers.{number_from, steps}

-- each text is one, and each number is of 64 bits
abbrev pub AllTold : List Tok → Type 0
AllTold [] = Unit {0}
AllTold (Word w ∷ ts) = AllTold ts
AllTold (Number n ∷ ts) = FitsSigned w64 n × AllTold ts
AllTold (Text t ∷ ts) = IsText t × AllTold ts
AllTold (Sign s ∷ ts) = AllTold ts

pub record Tells {A : Type 0} (p : Reader A) (Q : A → Type 0) : Type 0 where
  pub at : (ts : List Tok) (x : A × List Tok) → AllTold ts → p ts ≡ Ok x → Q x.0 × AllTold x.1

-- nothing is said of the value
abbrev pub Any : {A : Type 0} → A → Type 0
Any x = Unit {0}

pub tells_then : {A B : Type 0} {p : Reader A} {f : A → Reader B} (P : A → Type 0) {Q : B → Type 0} → Tells p P
    → ((a : A) → P a → Tells (f a) Q) → Tells (p >>= f) Q
tells_then {A} {B} {p} {f} P {Q} tp tf = record {
  at = λ ts x all e.
      let o = on_ok_ok (p ts) (λ y. f y.0 y.1) x e in
      let a = tp.at ts o.0 all o.1 in
      (tf o.0.0 a.0).at o.0.1 x a.1 o.2;
}

pub tells_give : {A : Type 0} {Q : A → Type 0} (a : A) → Q a → Tells (give a) Q
tells_give {A} {Q} a q = record { at = λ ts x all e. subst (λ (y : A × List Tok). Q y.0 × AllTold y.1) (ok_is (a, ts) x e) (q, all) }

pub tells_refuse : {A : Type 0} {Q : A → Type 0} (r : Reason) → Tells {A = A} (refuse r) Q
tells_refuse r = record { at = λ ts x all e. absurd cc }

pub tells_check : (b : Bool) (r : Reason) → Tells (check b r) Any
tells_check true r = tells_give {Q = Any} tt tt
tells_check false r = tells_refuse r

pub tells_judged : {A : Type 0} (r : Result A Reason) → Tells (judged r) (λ a. r ≡ Ok a)
tells_judged (Ok a) = tells_give {Q = λ x. Ok a ≡ Ok x} a refl
tells_judged (Err e) = tells_refuse e

word_at : (ts : List Tok) (x : List ℕ × List Tok) → AllTold ts → word ts ≡ Ok x → Unit {0} × AllTold x.1
word_at [] x all e = absurd cc
word_at (Word w ∷ ts) x all e = (tt, subst (λ (y : List ℕ × List Tok). AllTold y.1) (ok_is (w, ts) x e) all)
word_at (Number n ∷ ts) x all e = absurd cc
word_at (Text t ∷ ts) x all e = absurd cc
word_at (Sign s ∷ ts) x all e = absurd cc

pub tells_word : Tells word Any
tells_word = record { at = word_at }

number_at : (ts : List Tok) (x : ℤ × List Tok) → AllTold ts → number ts ≡ Ok x → FitsSigned w64 x.0 × AllTold x.1
number_at [] x all e = absurd cc
number_at (Word w ∷ ts) x all e = absurd cc
number_at (Number n ∷ ts) x all e = subst (λ (y : ℤ × List Tok). FitsSigned w64 y.0 × AllTold y.1) (ok_is (n, ts) x e) all
number_at (Text t ∷ ts) x all e = absurd cc
number_at (Sign s ∷ ts) x all e = absurd cc

pub tells_number : Tells number (FitsSigned w64)
tells_number = record { at = number_at }

text_at : (ts : List Tok) (x : List ℕ × List Tok) → AllTold ts → text ts ≡ Ok x → IsText x.0 × AllTold x.1
text_at [] x all e = absurd cc
text_at (Word w ∷ ts) x all e = absurd cc
text_at (Number n ∷ ts) x all e = absurd cc
text_at (Text t ∷ ts) x all e = subst (λ (y : List ℕ × List Tok). IsText y.0 × AllTold y.1) (ok_is (t, ts) x e) all
text_at (Sign s ∷ ts) x all e = absurd cc

pub tells_text : Tells text IsText
tells_text = record { at = text_at }

end_at : (ts : List Tok) (x : Unit {0} × List Tok) → AllTold ts → end ts ≡ Ok x → Unit {0} × AllTold x.1
end_at [] x all e = (tt, subst (λ (y : Unit {0} × List Tok). AllTold y.1) (ok_is (tt, []) x e) tt)
end_at (t ∷ ts) x all e = absurd cc

pub tells_end : Tells end Any
tells_end = record { at = end_at }

sign_at : (s : List ℕ) (ts : List Tok) (x : Unit {0} × List Tok) → AllTold ts → sign s ts ≡ Ok x → Unit {0} × AllTold x.1
sign_at s [] x all e = absurd cc
sign_at s (Word w ∷ ts) x all e = absurd cc
sign_at s (Number n ∷ ts) x all e = absurd cc
sign_at s (Text t ∷ ts) x all e = absurd cc
sign_at s (Sign t ∷ ts) x all e = (tells_check _ Order).at ts x all e

pub tells_sign : (s : List ℕ) → Tells (sign s) Any
tells_sign s = record { at = sign_at s }

fixed_at : (s : List ℕ) (ts : List Tok) (x : Unit {0} × List Tok) → AllTold ts → fixed s ts ≡ Ok x → Unit {0} × AllTold x.1
fixed_at s [] x all e = absurd cc
fixed_at s (Word w ∷ ts) x all e = (tells_check _ Order).at ts x all e
fixed_at s (Number n ∷ ts) x all e = absurd cc
fixed_at s (Text t ∷ ts) x all e = absurd cc
fixed_at s (Sign t ∷ ts) x all e = absurd cc

pub tells_fixed : (s : List ℕ) → Tells (fixed s) Any
tells_fixed s = record { at = fixed_at s }

-- what was checked holds
tells_true : (b : Bool) (r : Reason) → Tells (check b r) (λ u. b ≡ true)
tells_true true r = tells_give {Q = λ u. true ≡ true} tt refl
tells_true false r = tells_refuse r

at_most : (lo hi : ℕ) (n : ℤ) → is_between lo hi n ≡ true → nat_of n ≤ hi
at_most lo hi (pos n) h = leb-true n hi (and_right (nat_le lo n) (nat_le n hi) h)
at_most lo hi (negsuc n) h = absurd cc

pub tells_number_in : (lo hi : ℕ) → Tells (number_in lo hi) (λ n. n ≤ hi)
unfolding number_in
tells_number_in lo hi = tells_then (FitsSigned w64) tells_number
    (λ n f. tells_then (λ u. is_between lo hi n ≡ true) (tells_true (is_between lo hi n) Bounds)
    (λ u h. tells_give (nat_of n) (at_most lo hi n h)))

small : (n : ℤ) → FitsSigned w64 n → int_le (pos 0) n ≡ true → nat_of n < 2 ^ 63
small (pos n) f h = f.sfits
small (negsuc n) f h = absurd cc

pub tells_natural : Tells natural (λ n. n < 2 ^ 63)
unfolding natural
tells_natural = tells_then (FitsSigned w64) tells_number
    (λ n f. tells_then (λ u. int_le (pos 0) n ≡ true) (tells_true (int_le (pos 0) n) Bounds)
    (λ u h. tells_give (nat_of n) (small n f h)))

pub tells_number_from : (lo : ℤ) → Tells (number_from lo) (FitsSigned w64)
unfolding number_from
tells_number_from lo = tells_then (FitsSigned w64) tells_number (λ hi f. tells_then Any (tells_check (int_le lo hi) Bounds) (λ u h. tells_give hi f))

-- what each step keeps stands behind a repetition
steps_tell : {B : Type 0} (Q : B → Type 0) (u : Until) (step : B → Reader B) → ((b : B) → Q b → Tells (step b) Q)
    → (fuel : ℕ) (b : B) → Q b → (ts : List Tok) (x : B × List Tok) → AllTold ts → steps u step fuel b ts ≡ Ok x
    → Q x.0 × AllTold x.1
unfolding steps
steps_tell {B} Q u step y zero b q ts x all e = by_end (is_at u ts) e
  where
    by_end : (t : Bool) → cond t (Ok (b, ts)) (Err Order) ≡ Ok x → Q x.0 × AllTold x.1
    by_end true e = subst (λ (y : B × List Tok). Q y.0 × AllTold y.1) (ok_is (b, ts) x e) (q, all)
    by_end false e = absurd cc
steps_tell {B} Q u step y (suc fuel) b q ts x all e = by_end (is_at u ts) (λ c r us z more f. steps_tell Q u step y fuel c r us z more f) e
  where
    by_end : (t : Bool) → ((c : B) → Q c → (us : List Tok) (z : B × List Tok) → AllTold us
        → steps u step fuel c us ≡ Ok z → Q z.0 × AllTold z.1)
        → cond t (Ok (b, ts)) ((step b >>= steps u step fuel) ts) ≡ Ok x → Q x.0 × AllTold x.1
    by_end true again e = subst (λ (y : B × List Tok). Q y.0 × AllTold y.1) (ok_is (b, ts) x e) (q, all)
    by_end false again e =
        let o = on_ok_ok (step b ts) (λ y. steps u step fuel y.0 y.1) x e in
        let a = (y b q).at ts o.0 all o.1 in
        again o.0.0 a.0 o.0.1 x a.1 o.2

pub tells_repeat : {B : Type 0} (Q : B → Type 0) (u : Until) (step : B → Reader B)
    → ((b : B) → Q b → Tells (step b) Q) → (b : B) → Q b → Tells (repeat u step b) Q
tells_repeat Q u step y b q = record { at = λ ts x all e. steps_tell Q u step y (length ts) b q ts x all e }
