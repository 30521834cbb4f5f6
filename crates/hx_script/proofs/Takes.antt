-- Readers take tokens from the front, and reading to the end goes on from what is left.
use Rattle.std.proofs.Common.{◌≡◌, ℕ, zero, suc, cond, ◌<◌, ◌≤◌, Bool, true, false, List, [], ◌∷◌, length, Result, Ok, Err, ℤ, refl, sym, ap, ◌∙◌, arith}
use Rattle.std.specs.Str.{bytes_eq}
use Rattle.hx_script.specs.declared.errors.Reason.{Reason}
use Rattle.hx_script.specs.declared.errors.Reason.TheVariants.{Order}
use Rattle.hx_script.specs.declared.errors.Stop.{Stop}
use Rattle.hx_script.specs.declared.errors.Stop.TheVariants.{Memory, Fault}
use Rattle.hx_script.specs.declared.line.Until.{Until}
use Rattle.hx_script.specs.Toks.{Tok, Word, Number, Text, Sign}
use Rattle.hx_script.specs.Readers.{◌>>=◌, on_ok, Reader, give, refuse, check, word, number, text, sign, judged, is_at, steps, repeat, Fails}

-- a reader leaves no more than there was
pub record Shrinks {A : Type 0} (p : Reader A) : Type 0 where
  pub at : (ts : List Tok) (x : A × List Tok) → p ts ≡ Ok x → length x.1 ≤ length ts

-- a reader takes a token at least
pub record Consumes {A : Type 0} (p : Reader A) : Type 0 where
  pub at : (ts : List Tok) (x : A × List Tok) → p ts ≡ Ok x → length x.1 < length ts

-- the value of a step that did not fail
pub on_ok_ok : {A B : Type 0} (r : Result A Reason) (f : A → Result B Reason) (y : B) → on_ok r f ≡ Ok y → (x : A) × (r ≡ Ok x) × (f x ≡ Ok y)
on_ok_ok (Ok x) f y e = (x, refl, e)
on_ok_ok (Err d) f y e = absurd cc

abbrev done : {A : Type 0} → A → Result A Reason
done x = Ok x

on_ok_same : {A B : Type 0} (r : Result A Reason) (f g : A → Result B Reason) → ((x : A) → r ≡ Ok x → f x ≡ g x) → on_ok r f ≡ on_ok r g
on_ok_same (Ok x) f g h = h x refl
on_ok_same (Err d) f g h = refl

pub shrinks_then : {A B : Type 0} (p : Reader A) (f : A → Reader B) → Shrinks p → ((a : A) → Shrinks (f a)) → Shrinks (p >>= f)
shrinks_then p f sp sf = record {
  at = λ ts x e.
      let o = on_ok_ok (p ts) (λ y. f y.0 y.1) x e in
      omega (arith, sp.at ts o.0 o.1, (sf o.0.0).at o.0.1 x o.2);
}

pub consumes_then : {A B : Type 0} (p : Reader A) (f : A → Reader B) → Consumes p → ((a : A) → Shrinks (f a)) → Consumes (p >>= f)
consumes_then p f sp sf = record {
  at = λ ts x e.
      let o = on_ok_ok (p ts) (λ y. f y.0 y.1) x e in
      omega (arith, sp.at ts o.0 o.1, (sf o.0.0).at o.0.1 x o.2);
}

pub shrinks : {A : Type 0} (p : Reader A) → Consumes p → Shrinks p
shrinks p c = record { at = λ ts x e. omega (arith, c.at ts x e) }

pub ok_is : {A : Type 0} (x y : A) → done x ≡ done y → x ≡ y
ok_is x y e = cc

pub give_shrinks : {A : Type 0} (a : A) → Shrinks (give a)
give_shrinks {A} a = record { at = λ ts x e. omega (arith, ap (λ (y : A × List Tok). length y.1) (ok_is (a, ts) x e)) }

pub refuse_shrinks : {A : Type 0} (r : Reason) → Shrinks (refuse {A = A} r)
refuse_shrinks r = record { at = λ ts x e. absurd cc }

pub check_shrinks : (b : Bool) (r : Reason) → Shrinks (check b r)
check_shrinks true r = give_shrinks tt
check_shrinks false r = refuse_shrinks r

word_takes : (ts : List Tok) (x : List ℕ × List Tok) → word ts ≡ Ok x → length x.1 < length ts
word_takes [] x e = absurd cc
word_takes (Word v ∷ ts) x e = omega (arith, ap (λ (y : List ℕ × List Tok). length y.1) (ok_is (v, ts) x e))
word_takes (Number v ∷ ts) x e = absurd cc
word_takes (Text v ∷ ts) x e = absurd cc
word_takes (Sign v ∷ ts) x e = absurd cc

pub word_consumes : Consumes word
word_consumes = record { at = word_takes }

number_takes : (ts : List Tok) (x : ℤ × List Tok) → number ts ≡ Ok x → length x.1 < length ts
number_takes [] x e = absurd cc
number_takes (Word v ∷ ts) x e = absurd cc
number_takes (Number v ∷ ts) x e = omega (arith, ap (λ (y : ℤ × List Tok). length y.1) (ok_is (v, ts) x e))
number_takes (Text v ∷ ts) x e = absurd cc
number_takes (Sign v ∷ ts) x e = absurd cc

pub number_consumes : Consumes number
number_consumes = record { at = number_takes }

text_takes : (ts : List Tok) (x : List ℕ × List Tok) → text ts ≡ Ok x → length x.1 < length ts
text_takes [] x e = absurd cc
text_takes (Word v ∷ ts) x e = absurd cc
text_takes (Number v ∷ ts) x e = absurd cc
text_takes (Text v ∷ ts) x e = omega (arith, ap (λ (y : List ℕ × List Tok). length y.1) (ok_is (v, ts) x e))
text_takes (Sign v ∷ ts) x e = absurd cc

pub text_consumes : Consumes text
text_consumes = record { at = text_takes }

sign_takes : (s : List ℕ) (ts : List Tok) (x : Unit {0} × List Tok) → sign s ts ≡ Ok x → length x.1 < length ts
sign_takes s [] x e = absurd cc
sign_takes s (Word v ∷ ts) x e = absurd cc
sign_takes s (Number v ∷ ts) x e = absurd cc
sign_takes s (Text v ∷ ts) x e = absurd cc
sign_takes s (Sign v ∷ ts) x e = omega (arith, (check_shrinks (bytes_eq v s) Order).at ts x e)

pub sign_consumes : (s : List ℕ) → Consumes (sign s)
sign_consumes s = record { at = sign_takes s }

pub judged_shrinks : {A : Type 0} (r : Result A Reason) → Shrinks (judged r)
judged_shrinks (Ok x) = give_shrinks x
judged_shrinks (Err e) = refuse_shrinks e

-- enough fuel is as good as more
steps_more : {B : Type 0} (u : Until) (step : B → Reader B) → ((b : B) → Consumes (step b))
    → (m n : ℕ) (b : B) (ts : List Tok) → length ts ≤ m → length ts ≤ n → steps u step m b ts ≡ steps u step n b ts
unfolding steps
steps_more u step c zero zero b [] hm hn = refl
steps_more u step c zero (suc n) b [] hm hn = refl
steps_more u step c (suc m) zero b [] hm hn = refl
steps_more u step c (suc m) (suc n) b [] hm hn = refl
steps_more u step c zero n b (t ∷ ts) hm hn = absurd (omega arith)
steps_more u step c (suc m) zero b (t ∷ ts) hm hn = absurd (omega arith)
steps_more u step c (suc m) (suc n) b (t ∷ ts) hm hn =
    ap (λ r. cond (is_at u (t ∷ ts)) (Ok (b, t ∷ ts)) r) (on_ok_same (step b (t ∷ ts)) (λ x. steps u step m x.0 x.1) (λ x. steps u step n x.0 x.1)
    (λ x e. steps_more u step c m n x.0 x.1 (omega (arith, (c b).at (t ∷ ts) x e)) (omega (arith, (c b).at (t ∷ ts) x e))))

pub goes_on : {B : Type 0} (u : Until) (step : B → Reader B) → ((b : B) → Consumes (step b))
    → (b : B) (ts : List Tok) (b' : B) (rest : List Tok) → is_at u ts ≡ false → step b ts ≡ Ok (b', rest)
    → repeat u step b ts ≡ repeat u step b' rest
unfolding steps
goes_on u step c b [] b' rest h e = absurd (omega (arith, (c b).at [] (b', rest) e))
goes_on u step c b (t ∷ ts) b' rest h e =
    rw (h, e) (steps_more u step c (length ts) (length rest) b' rest (omega (arith, (c b).at (t ∷ ts) (b', rest) e)) (omega arith))

pub stops : {B : Type 0} (u : Until) (step : B → Reader B) (b : B) (ts : List Tok) (r : Reason) → is_at u ts ≡ false
    → step b ts ≡ Err r → repeat u step b ts ≡ Err r
unfolding steps
stops u step b [] r h e = absurd cc
stops u step b (t ∷ ts) r h e = rw (h, e) refl

pub ends : {B : Type 0} (u : Until) (step : B → Reader B) (b : B) (ts : List Tok) → is_at u ts ≡ true → repeat u step b ts ≡ Ok (b, ts)
unfolding steps
ends u step b [] h = refl
ends u step b (t ∷ ts) h = rw h refl

-- the error of a step is that of the repetition
pub fails : {B : Type 0} (e : Stop) (u : Until) (step : B → Reader B) (b : B) (ts : List Tok)
    (total : Result (B × List Tok) Reason) → is_at u ts ≡ false → Fails e (step b ts) → repeat u step b ts ≡ total → Fails e total
fails Memory u step b ts total h f so_far = tt
fails (Fault r) u step b ts total h f so_far = sym so_far ∙ stops u step b ts r h f

pub ruleset takes = (
  consumes_then,
  shrinks_then,
  shrinks,
  check_shrinks,
  give_shrinks,
  refuse_shrinks,
  judged_shrinks,
  word_consumes,
  number_consumes,
  text_consumes,
  sign_consumes,
)
