-- Texts between quotes, a byte at a time.
use Rattle.std.proofs.Common.{◌≡◌, ℕ, ◌+◌, ◌<◌, ◌≤◌, ◌≢◌, Bool, true, false, cond, eqb, List, [], ◌∷◌, ◌++◌, length}
use Rattle.std.proofs.Common.{get_or, drop, Some, None, Result, Ok, Err, refl, ap, add-one, drop-cons, append_assoc}
use Rattle.std.proofs.lemmas.List.{at_drop_all, append-nil, nil_from_length}
use Rattle.std.proofs.lemmas.Bool.{lt-ltb, le-ltb, ne_eqb}
use Rattle.std.proofs.lemmas.Str.{utf8_valid_len-IsUtf8, utf8_valid_len_le}
use Rattle.hx_lex.specs.declared.errors.LexError.{LexError}
use Rattle.hx_lex.specs.declared.errors.LexError.TheVariants.{BadChar}
use Rattle.hx_lex.specs.Answers.{◌>>=◌}
use Rattle.hx_lex.specs.Quotes.{inside_len, content, escaped, followed_by}

pub inside_len_behind : (bs : List ℕ) (i : ℕ) → i < length bs → inside_len true (drop i bs) ≡ 1 + inside_len false (drop (i + 1) bs)
inside_len_behind bs i h = rw (add-one, drop-cons bs i 0) refl

pub inside_len_next : (bs : List ℕ) (i : ℕ) → i < length bs
    → inside_len false (drop i bs) ≡ cond (eqb (get_or bs i 0) 34) 0 (1 + inside_len (eqb (get_or bs i 0) 92) (drop (i + 1) bs))
inside_len_next bs i h = rw (add-one, drop-cons bs i 0) refl

pub inside_len_end : (behind : Bool) (bs : List ℕ) (i : ℕ) → length bs ≤ i → inside_len behind (drop i bs) ≡ 0
inside_len_end true bs i h = at_drop_all (inside_len true) bs i h
inside_len_end false bs i h = at_drop_all (inside_len false) bs i h

-- what was read before, and what is still read
abbrev pub with_front : List ℕ → Result (List ℕ) LexError → Result (List ℕ) LexError
with_front front read = read >>= λ cs. Ok (front ++ cs)

pub regroup : (front : List ℕ) (c : ℕ) (read : Result (List ℕ) LexError) → with_front front (followed_by c read) ≡ with_front (front ++ c ∷ []) read
regroup front c (Ok cs) = ap Ok (simp append_assoc)
regroup front c (Err e) = refl

pub content_plain : (front : List ℕ) (at b : ℕ) (bs : List ℕ) → 32 ≤ b → b ≢ 92
    → with_front front (content false at (b ∷ bs)) ≡ with_front (front ++ b ∷ []) (content false (at + 1) bs)
unfolding content
content_plain front at b bs le ne = rw (le-ltb b 32 le, ne_eqb b 92 ne) (regroup front b (content false (at + 1) bs))

pub content_escape : (front : List ℕ) (at b c x : ℕ) (bs : List ℕ) → b ≡ 92 → escaped c ≡ Some x
    → with_front front (content false at (b ∷ c ∷ bs)) ≡ with_front (front ++ x ∷ []) (content false (at + 2) bs)
unfolding content
content_escape front at b c x bs is e = rw (is, e) (regroup front x (content false (at + 2) bs))

pub content_control : (front : List ℕ) (at b : ℕ) (bs : List ℕ) → b < 32 → with_front front (content false at (b ∷ bs)) ≡ Err (BadChar at)
unfolding content
content_control front at b bs lt = rw (lt-ltb b 32 lt) refl

pub content_alone : (front : List ℕ) (at b : ℕ) (bs : List ℕ) → b ≡ 92 → length bs ≡ 0 → with_front front (content false at (b ∷ bs)) ≡ Err (BadChar at)
unfolding content
content_alone front at b bs is none = rw (is, nil_from_length bs none) refl

pub content_unknown : (front : List ℕ) (at b c : ℕ) (bs : List ℕ) → b ≡ 92 → escaped c ≡ None
    → with_front front (content false at (b ∷ c ∷ bs)) ≡ Err (BadChar at)
unfolding content
content_unknown front at b c bs is e = rw (is, e) refl

pub content_end : (front : List ℕ) (at : ℕ) (bs : List ℕ) → length bs ≡ 0 → with_front front (content false at bs) ≡ Ok front
unfolding content
content_end front at bs none = rw (nil_from_length bs none) (ap Ok (append-nil front))

pub ruleset content_steps = (content_plain, content_escape, content_control, content_alone, content_unknown, content_end)

pub ruleset utf8_lengths = (utf8_valid_len-IsUtf8, utf8_valid_len_le)
