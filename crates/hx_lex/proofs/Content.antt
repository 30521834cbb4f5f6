-- What stands in quotes is a text: UTF-8 with no control character but newline and tab.
use Rattle.std.proofs.Common.{◌≡◌, ℕ, zero, suc, ◌+◌, ◌<◌, ◌≤◌, Bool, true, false, cond, eqb, ltb, List, [], ◌∷◌, ◌++◌}
use Rattle.std.proofs.Common.{length, get_or, take, Option, Some, None, Result, Ok, Err, refl, sym, ◌∙◌, subst, arith}
use Rattle.std.proofs.Common.{inl, inr, add-zero}
use Rattle.std.specs.Prelude.{◌&&◌}
use Rattle.std.specs.Str.{IsUtf8, is_utf8}
use Rattle.std.specs.Str.Lossy.{utf8_valid_len, valid_len_up_to}
use Rattle.std.specs.Str as strings
use Rattle.std.specs.Char.{IsScalar, encode_utf8}
use lib.Utf8.{scalar}
use Rattle.std.specs.Option.{option_map_or}
use Rattle.std.proofs.lemmas.Bool.{ne_eqb, eqb-true, le-ltb, cases_lt}
use Rattle.std.proofs.lemmas.Bool.Decides.{nat_tests}
use Rattle.std.proofs.lemmas.List.{append-nil}
use Rattle.std.proofs.lemmas.Str.{IsUtf8-append, IsUtf8-nil, IsUtf8-encode, IsUtf8-from_is_utf8, encode_ascii, inside_one, length-encode, len_utf8_bounds}
use Rattle.hx_lex.specs.declared.errors.LexError.{LexError}
use Rattle.hx_lex.specs.declared.errors.LexError.TheVariants.{BadChar}
use Rattle.hx_lex.specs.Answers.{◌>>=◌}
use Rattle.hx_lex.specs.Quotes.{escaped, content, followed_by}

pub and_left : (x y : Bool) → x && y ≡ true → x ≡ true
and_left true y e = refl
and_left false y e = absurd cc

pub and_right : (x y : Bool) → x && y ≡ true → y ≡ true
and_right true y e = e
and_right false y e = absurd cc

abbrev done : List ℕ → Result (List ℕ) LexError
done x = Ok x

ok_is : (x y : List ℕ) → done x ≡ done y → x ≡ y
ok_is x y e = cc

abbrev pub after : List ℕ → Result (List ℕ) LexError → Result (List ℕ) LexError
after front read = read >>= λ cs. Ok (front ++ cs)

-- what comes after a front that was read
pub after_ok : (front t : List ℕ) (read : Result (List ℕ) LexError) → after front read ≡ Ok t → (u : List ℕ) × (read ≡ Ok u) × (t ≡ front ++ u)
after_ok front t (Ok u) e = (u, refl, sym (ok_is (front ++ u) t e))
after_ok front t (Err d) e = absurd cc

pub ascii : (n : ℕ) → n < 128 → IsUtf8 (n ∷ [])
ascii n lt = subst IsUtf8 (encode_ascii n lt) (IsUtf8-encode n (grind (arith, nat_tests)))

-- the bytes of a character that isn't ASCII stand for themselves
high_content : (bs rest : List ℕ) (at : ℕ) → ((k : ℕ) → k < length bs → 128 ≤ get_or bs k 0)
    → content false at (bs ++ rest) ≡ after bs (content false (at + length bs) rest)
unfolding content
high_content [] rest at high = rw add-zero (after_nil (content false at rest))
  where
    after_nil : (read : Result (List ℕ) LexError) → read ≡ after [] read
    after_nil (Ok u) = refl
    after_nil (Err d) = refl
high_content (b ∷ bs) rest at high =
    let le : 128 ≤ b = high 0 (omega arith) in
    let k : at + 1 + length bs ≡ at + length (b ∷ bs) = omega arith in
    rw (
      le-ltb b 32 (omega arith),
      ne_eqb b 92 (λ e. omega (arith, e)),
      high_content bs rest (at + 1) (λ i lt. high (suc i) (omega arith)),
      k,
    )
    (after_more b bs (content false (at + length (b ∷ bs)) rest))
  where
    after_more : (b : ℕ) (bs : List ℕ) (read : Result (List ℕ) LexError) → followed_by b (after bs read) ≡ after (b ∷ bs) read
    after_more b bs (Ok u) = refl
    after_more b bs (Err d) = refl

pub high_bytes : (c k : ℕ) → 128 ≤ c → k < length (encode_utf8 c) → 128 ≤ get_or (encode_utf8 c) k 0
high_bytes c k le lt =
    elim (cases_lt (get_or (encode_utf8 c) k 0) 128) [
      | inl low ↦ absurd (let e = inside_one c [] (encode_utf8 c) k (sym (append-nil (encode_utf8 c))) lt low in omega (arith, e))
      | inr high ↦ high
    ]

-- an escape stands for an ASCII byte
escaped_ascii : (c x : ℕ) → escaped c ≡ Some x → x < 128
escaped_ascii c x e = by_tests (eqb c 34) (eqb c 92) (eqb c 110) (eqb c 116) x e
  where
    some_is : (x y : ℕ) → Some x ≡ Some y → x ≡ y
    some_is x y e = cc

    by_tests : (p q r s : Bool) (x : ℕ) → cond p (Some 34) (cond q (Some 92) (cond r (Some 10) (cond s (Some 9) None))) ≡ Some x → x < 128
    by_tests true q r s x e = omega (arith, some_is 34 x e)
    by_tests false true r s x e = omega (arith, some_is 92 x e)
    by_tests false false true s x e = omega (arith, some_is 10 x e)
    by_tests false false false true x e = omega (arith, some_is 9 x e)
    by_tests false false false false x e = absurd cc

-- only ASCII is behind a backslash
escaped_low : (c x : ℕ) → escaped c ≡ Some x → c < 128
escaped_low c x e = by_tests c (eqb c 34) (eqb c 92) (eqb c 110) (eqb c 116) x refl refl refl refl e
  where
    by_tests : (c : ℕ) (p q r s : Bool) (x : ℕ) → eqb c 34 ≡ p → eqb c 92 ≡ q → eqb c 110 ≡ r → eqb c 116 ≡ s
        → cond p (Some 34) (cond q (Some 92) (cond r (Some 10) (cond s (Some 9) None))) ≡ Some x → c < 128
    by_tests c true q r s x f g h i e = omega (arith, eqb-true c 34 f)
    by_tests c false true r s x f g h i e = omega (arith, eqb-true c 92 g)
    by_tests c false false true s x f g h i e = omega (arith, eqb-true c 110 h)
    by_tests c false false false true x f g h i e = omega (arith, eqb-true c 116 i)
    by_tests c false false false false x f g h i e = absurd cc

low_step : (c : ℕ) (rest : List ℕ) → c < 128 → ((behind : Bool) (at : ℕ) (u : List ℕ) → content behind at rest ≡ Ok u
    → IsUtf8 u) → (behind : Bool) (at : ℕ) (t : List ℕ) → content behind at (c ∷ rest) ≡ Ok t → IsUtf8 t
unfolding content
low_step c rest lt below true at t e = by_escape (escaped c) refl e
  where
    by_escape : (o : Option ℕ) → escaped c ≡ o → option_map_or (λ x. followed_by x (content false (at + 2) rest)) o (Err (BadChar at)) ≡ Ok t → IsUtf8 t
    by_escape None f e = absurd cc
    by_escape (Some x) f e =
        let u = after_ok (x ∷ []) t (content false (at + 2) rest) e in
        subst IsUtf8 (sym u.2) (IsUtf8-append (x ∷ []) u.0 (ascii x (escaped_ascii c x f)) (below false (at + 2) u.0 u.1))
low_step c rest lt below false at t e = by_tests (ltb c 32) (eqb c 92) e
  where
    by_tests : (p q : Bool) → cond p (Err (BadChar at)) (cond q (content true at rest) (followed_by c (content false (at + 1) rest))) ≡ Ok t → IsUtf8 t
    by_tests true q e = absurd cc
    by_tests false true e = below true at t e
    by_tests false false e =
        let u = after_ok (c ∷ []) t (content false (at + 1) rest) e in
        subst IsUtf8 (sym u.2) (IsUtf8-append (c ∷ []) u.0 (ascii c lt) (below false (at + 1) u.0 u.1))

high_step : (c : ℕ) (rest : List ℕ) → IsScalar c → 128 ≤ c
    → ((behind : Bool) (at : ℕ) (u : List ℕ) → content behind at rest ≡ Ok u → IsUtf8 u)
    → (behind : Bool) (at : ℕ) (t : List ℕ) → content behind at (encode_utf8 c ++ rest) ≡ Ok t → IsUtf8 t
unfolding content
high_step c rest is le below false at t e =
    let u = after_ok (encode_utf8 c) t (content false (at + length (encode_utf8 c)) rest)
    (sym (high_content (encode_utf8 c) rest at (λ k lt. high_bytes c k le lt)) ∙ e) in
    subst IsUtf8 (sym u.2) (IsUtf8-append (encode_utf8 c) u.0 (IsUtf8-encode c is) (below false (at + length (encode_utf8 c)) u.0 u.1))
high_step c rest is le below true at t e = behind_high (encode_utf8 c) (some c) (λ k lt. high_bytes c k le lt) e
  where
    some : (c : ℕ) → 0 < length (encode_utf8 c)
    some c = omega (arith, length-encode c, len_utf8_bounds c)

    behind_high : (bs : List ℕ) → 0 < length bs → ((k : ℕ) → k < length bs → 128 ≤ get_or bs k 0) → content true at (bs ++ rest) ≡ Ok t → IsUtf8 t
    behind_high [] lt high e = absurd (omega arith)
    behind_high (b ∷ bs) lt high e = by_escape b (escaped b) refl (high 0 (omega arith)) e
      where
        by_escape : (b : ℕ) (o : Option ℕ) → escaped b ≡ o → 128 ≤ b
            → option_map_or (λ x. followed_by x (content false (at + 2) (bs ++ rest))) o (Err (BadChar at)) ≡ Ok t → IsUtf8 t
        by_escape b None f le e = absurd cc
        by_escape b (Some x) f le e = absurd (omega (arith, escaped_low b x f))

content_chars : (cs : List ℕ) → strings.all_scalars cs ≡ true → (behind : Bool) (at : ℕ) (t : List ℕ)
    → content behind at (strings.encode_utf8_all cs) ≡ Ok t → IsUtf8 t
unfolding content
content_chars [] all false at t e = subst IsUtf8 (ok_is [] t e) IsUtf8-nil
content_chars [] all true at t e = absurd cc
content_chars (c ∷ cs) all behind at t e =
    let is : scalar c ≡ true = and_left (scalar c) (strings.all_scalars cs) all in
    let below = content_chars cs (and_right (scalar c) (strings.all_scalars cs) all) in
    elim (cases_lt c 128) [
      | inl lt ↦ low_step c (strings.encode_utf8_all cs) lt below behind at t
          (subst (λ (x : List ℕ). content behind at (x ++ strings.encode_utf8_all cs) ≡ Ok t) (encode_ascii c lt) e)
      | inr le ↦ high_step c (strings.encode_utf8_all cs) is le below behind at t e
    ]

-- so a text can be kept as a `String`
pub content_utf8 : (at : ℕ) (bytes t : List ℕ) → IsUtf8 bytes → content false at bytes ≡ Ok t → IsUtf8 t
content_utf8 at bytes t u e = content_chars u.0 u.1.0 false at t (rw u.1.1 e)

-- the longest front that is UTF-8 is UTF-8
front_utf8 : (bytes : List ℕ) (n : ℕ) → IsUtf8 (take (valid_len_up_to bytes n) bytes)
front_utf8 bytes zero = IsUtf8-nil
front_utf8 bytes (suc n) = by_test (is_utf8 (take (suc n) bytes)) refl (front_utf8 bytes n)
  where
    by_test : (b : Bool) → is_utf8 (take (suc n) bytes) ≡ b → IsUtf8 (take (valid_len_up_to bytes n) bytes)
        → IsUtf8 (take (cond b (suc n) (valid_len_up_to bytes n)) bytes)
    by_test true e shorter = IsUtf8-from_is_utf8 (take (suc n) bytes) e
    by_test false e shorter = shorter

valid_front : (bytes : List ℕ) → IsUtf8 (take (utf8_valid_len bytes) bytes)
unfolding utf8_valid_len
valid_front bytes = front_utf8 bytes (length bytes)

pub content_utf8_front : (at : ℕ) (bytes t : List ℕ) → content false at (take (utf8_valid_len bytes) bytes) ≡ Ok t → IsUtf8 t
content_utf8_front at bytes t e = content_utf8 at (take (utf8_valid_len bytes) bytes) t (valid_front bytes) e
