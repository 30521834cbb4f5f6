-- What a reader gives where it succeeds, on tokens whose words are words.
use Rattle.std.proofs.Common.{◌≡◌, ℕ, ℤ, pos, negsuc, zero, suc, ◌≤◌, Bool, true, false, cond, List, [], ◌∷◌, length, Result, Ok, Err, refl, subst}
use Rattle.std.specs.Prelude.{◌&&◌, nat_le, int_le}
use Rattle.std.proofs.lemmas.Bool.{leb-true}
use Rattle.hx_lex.specs.Letters.{IsWord}
use Rattle.hx_script.specs.declared.errors.Reason.{Reason}
use Rattle.hx_script.specs.declared.errors.Reason.TheVariants.{Order, Bounds}
use Rattle.hx_script.specs.declared.line.Until.{Until}
use Rattle.hx_script.specs.Toks.{Tok, Word, Number, Text, Sign}
use Rattle.hx_script.specs.Readers.{◌>>=◌, Reader, give, refuse, judged, check, word, number, text, end, sign, fixed}
use Rattle.hx_script.specs.Readers.{is_between, nat_of, number_in, natural, number_from, is_at, steps, repeat}
use Rattle.hx_script.proofs.Takes.{on_ok_ok, ok_is}

-- each word is one
abbrev pub AllToks : List Tok → Type 0
AllToks [] = Unit {0}
AllToks (Word w ∷ ts) = IsWord w × AllToks ts
AllToks (Number n ∷ ts) = AllToks ts
AllToks (Text t ∷ ts) = AllToks ts
AllToks (Sign s ∷ ts) = AllToks ts

pub record Yields {A : Type 0} (p : Reader A) (Q : A → Type 0) : Type 0 where
  pub at : (ts : List Tok) (x : A × List Tok) → AllToks ts → p ts ≡ Ok x → Q x.0 × AllToks x.1

-- nothing is said of the value
abbrev pub Any : {A : Type 0} → A → Type 0
Any x = Unit {0}

pub yields_then : {A B : Type 0} {p : Reader A} {f : A → Reader B} (P : A → Type 0) {Q : B → Type 0} → Yields p P
    → ((a : A) → P a → Yields (f a) Q) → Yields (p >>= f) Q
yields_then {A} {B} {p} {f} P {Q} yp yf = record {
  at = λ ts x all e.
      let o = on_ok_ok (p ts) (λ y. f y.0 y.1) x e in
      let a = yp.at ts o.0 all o.1 in
      (yf o.0.0 a.0).at o.0.1 x a.1 o.2;
}

pub yields_give : {A : Type 0} {Q : A → Type 0} (a : A) → Q a → Yields (give a) Q
yields_give {A} {Q} a q = record { at = λ ts x all e. subst (λ (y : A × List Tok). Q y.0 × AllToks y.1) (ok_is (a, ts) x e) (q, all) }

pub yields_refuse : {A : Type 0} {Q : A → Type 0} (r : Reason) → Yields {A = A} (refuse r) Q
yields_refuse r = record { at = λ ts x all e. absurd cc }

pub yields_check : (b : Bool) (r : Reason) → Yields (check b r) (λ u. b ≡ true)
yields_check true r = yields_give {Q = λ u. true ≡ true} tt refl
yields_check false r = yields_refuse r

pub yields_judged : {A : Type 0} (r : Result A Reason) → Yields (judged r) (λ a. r ≡ Ok a)
yields_judged (Ok a) = yields_give {Q = λ x. Ok a ≡ Ok x} a refl
yields_judged (Err e) = yields_refuse e

word_at : (ts : List Tok) (x : List ℕ × List Tok) → AllToks ts → word ts ≡ Ok x → IsWord x.0 × AllToks x.1
word_at [] x all e = absurd cc
word_at (Word w ∷ ts) x all e = subst (λ (y : List ℕ × List Tok). IsWord y.0 × AllToks y.1) (ok_is (w, ts) x e) all
word_at (Number n ∷ ts) x all e = absurd cc
word_at (Text t ∷ ts) x all e = absurd cc
word_at (Sign s ∷ ts) x all e = absurd cc

pub yields_word : Yields word IsWord
yields_word = record { at = word_at }

number_at : (ts : List Tok) (x : ℤ × List Tok) → AllToks ts → number ts ≡ Ok x → Unit {0} × AllToks x.1
number_at [] x all e = absurd cc
number_at (Word w ∷ ts) x all e = absurd cc
number_at (Number n ∷ ts) x all e = (tt, subst (λ (y : ℤ × List Tok). AllToks y.1) (ok_is (n, ts) x e) all)
number_at (Text t ∷ ts) x all e = absurd cc
number_at (Sign s ∷ ts) x all e = absurd cc

pub yields_number : Yields number Any
yields_number = record { at = number_at }

text_at : (ts : List Tok) (x : List ℕ × List Tok) → AllToks ts → text ts ≡ Ok x → Unit {0} × AllToks x.1
text_at [] x all e = absurd cc
text_at (Word w ∷ ts) x all e = absurd cc
text_at (Number n ∷ ts) x all e = absurd cc
text_at (Text t ∷ ts) x all e = (tt, subst (λ (y : List ℕ × List Tok). AllToks y.1) (ok_is (t, ts) x e) all)
text_at (Sign s ∷ ts) x all e = absurd cc

pub yields_text : Yields text Any
yields_text = record { at = text_at }

end_at : (ts : List Tok) (x : Unit {0} × List Tok) → AllToks ts → end ts ≡ Ok x → Unit {0} × AllToks x.1
end_at [] x all e = (tt, subst (λ (y : Unit {0} × List Tok). AllToks y.1) (ok_is (tt, []) x e) tt)
end_at (t ∷ ts) x all e = absurd cc

pub yields_end : Yields end Any
yields_end = record { at = end_at }

checked : (b : Bool) (r : Reason) (ts : List Tok) (x : Unit {0} × List Tok) → AllToks ts → check b r ts ≡ Ok x → Unit {0} × AllToks x.1
checked b r ts x all e = (tt, ((yields_check b r).at ts x all e).1)

sign_at : (s : List ℕ) (ts : List Tok) (x : Unit {0} × List Tok) → AllToks ts → sign s ts ≡ Ok x → Unit {0} × AllToks x.1
sign_at s [] x all e = absurd cc
sign_at s (Word w ∷ ts) x all e = absurd cc
sign_at s (Number n ∷ ts) x all e = absurd cc
sign_at s (Text t ∷ ts) x all e = absurd cc
sign_at s (Sign t ∷ ts) x all e = checked _ Order ts x all e

pub yields_sign : (s : List ℕ) → Yields (sign s) Any
yields_sign s = record { at = sign_at s }

fixed_at : (s : List ℕ) (ts : List Tok) (x : Unit {0} × List Tok) → AllToks ts → fixed s ts ≡ Ok x → Unit {0} × AllToks x.1
fixed_at s [] x all e = absurd cc
fixed_at s (Word w ∷ ts) x all e = checked _ Order ts x all.1 e
fixed_at s (Number n ∷ ts) x all e = absurd cc
fixed_at s (Text t ∷ ts) x all e = absurd cc
fixed_at s (Sign t ∷ ts) x all e = absurd cc

pub yields_fixed : (s : List ℕ) → Yields (fixed s) Any
yields_fixed s = record { at = fixed_at s }

pub and_left : (a b : Bool) → (a && b) ≡ true → a ≡ true
and_left true b e = refl
and_left false b e = absurd cc

pub and_right : (a b : Bool) → (a && b) ≡ true → b ≡ true
and_right true b e = e
and_right false b e = absurd cc

between_is : (lo hi : ℕ) (n : ℤ) → is_between lo hi n ≡ true → (lo ≤ nat_of n) × (nat_of n ≤ hi)
between_is lo hi (pos n) h = (leb-true lo n (and_left (nat_le lo n) (nat_le n hi) h), leb-true n hi (and_right (nat_le lo n) (nat_le n hi) h))
between_is lo hi (negsuc n) h = absurd cc

pub yields_number_in : (lo hi : ℕ) → Yields (number_in lo hi) (λ n. (lo ≤ n) × (n ≤ hi))
unfolding number_in
yields_number_in lo hi = yields_then Any yields_number
    (λ n u. yields_then (λ u. is_between lo hi n ≡ true) (yields_check (is_between lo hi n) Bounds)
    (λ u h. yields_give (nat_of n) (between_is lo hi n h)))

pub yields_natural : Yields natural Any
unfolding natural
yields_natural = yields_then Any yields_number (λ n u. yields_then (λ u. int_le (pos 0) n ≡ true)
    (yields_check (int_le (pos 0) n) Bounds) (λ u h. yields_give (nat_of n) tt))

pub yields_number_from : (lo : ℤ) → Yields (number_from lo) (λ hi. int_le lo hi ≡ true)
unfolding number_from
yields_number_from lo = yields_then Any yields_number
    (λ hi u. yields_then (λ u. int_le lo hi ≡ true) (yields_check (int_le lo hi) Bounds) (λ u h. yields_give hi h))

-- what each step keeps stands behind a repetition
steps_yield : {B : Type 0} (Q : B → Type 0) (u : Until) (step : B → Reader B) → ((b : B) → Q b → Yields (step b) Q)
    → (fuel : ℕ) (b : B) → Q b → (ts : List Tok) (x : B × List Tok) → AllToks ts → steps u step fuel b ts ≡ Ok x
    → Q x.0 × AllToks x.1
unfolding steps
steps_yield {B} Q u step y zero b q ts x all e = by_end (is_at u ts) e
  where
    by_end : (t : Bool) → cond t (Ok (b, ts)) (Err Order) ≡ Ok x → Q x.0 × AllToks x.1
    by_end true e = subst (λ (y : B × List Tok). Q y.0 × AllToks y.1) (ok_is (b, ts) x e) (q, all)
    by_end false e = absurd cc
steps_yield {B} Q u step y (suc fuel) b q ts x all e = by_end (is_at u ts) (λ c r us z more f. steps_yield Q u step y fuel c r us z more f) e
  where
    by_end : (t : Bool) → ((c : B) → Q c → (us : List Tok) (z : B × List Tok) → AllToks us
        → steps u step fuel c us ≡ Ok z → Q z.0 × AllToks z.1)
        → cond t (Ok (b, ts)) ((step b >>= steps u step fuel) ts) ≡ Ok x → Q x.0 × AllToks x.1
    by_end true again e = subst (λ (y : B × List Tok). Q y.0 × AllToks y.1) (ok_is (b, ts) x e) (q, all)
    by_end false again e =
        let o = on_ok_ok (step b ts) (λ y. steps u step fuel y.0 y.1) x e in
        let a = (y b q).at ts o.0 all o.1 in
        again o.0.0 a.0 o.0.1 x a.1 o.2

pub yields_repeat : {B : Type 0} (Q : B → Type 0) (u : Until) (step : B → Reader B)
    → ((b : B) → Q b → Yields (step b) Q) → (b : B) → Q b → Yields (repeat u step b) Q
yields_repeat Q u step y b q = record { at = λ ts x all e. steps_yield Q u step y (length ts) b q ts x all e }
