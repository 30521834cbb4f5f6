-- A text, a line at a time.
use Rattle.std.proofs.Common.{◌≡◌, ℕ, zero, suc, ◌+◌, ◌<◌, ◌≤◌, Bool, true, false, cond, not, eqb, List, [], ◌∷◌}
use Rattle.std.proofs.Common.{length, take, drop, Ok, Err, refl, sym, ap, ◌∙◌, inl, inr, arith}
use Rattle.std.specs.Prelude.{◌⊎◌}
use Rattle.std.proofs.lemmas.Bool.{false_from_ne_true}
use Rattle.std.proofs.lemmas.List.{nil_from_length, drop-drop, length-take}
use Rattle.std.proofs.lemmas.List.Folds.{length-prefix_len}
use Rattle.memchr.specs.Find.{NoneBefore, Nowhere, Passes, is_byte}
use Rattle.hx_script.specs.declared.errors.Reason.{Reason}
use Rattle.hx_script.specs.declared.errors.ScriptError.TheVariants as errors
use Rattle.hx_script.specs.declared.draft.Draft.{Draft}
use Rattle.hx_script.specs.Grammar.{line_of}
use Rattle.hx_script.specs.Texts.{line_len, onto_first, lines_of, read_lines, finished}

-- a line ends at the first newline, or with the text
until : (bs : List ℕ) (k : ℕ) → k ≤ length bs → ((i : ℕ) → 0 ≤ i → i < k → ¬ Passes (is_byte 10) bs i)
    → (k ≡ length bs) ⊎ Passes (is_byte 10) bs k → line_len bs ≡ k
until [] k within none stop = omega (arith, within)
until (b ∷ bs) zero within none stop =
    elim stop [
      | inl e ↦ absurd (omega (arith, e))
      | inr e ↦ rw e refl
    ]
until (b ∷ bs) (suc k) within none stop =
    let here : eqb b 10 ≡ false = false_from_ne_true (eqb b 10) (none 0 (omega arith) (omega arith)) in
    let rest = until bs k (omega (arith, within)) (λ i low lt. none (suc i) (omega arith) (omega (arith, lt)))
    (elim stop [
      | inl e ↦ inl (omega (arith, e))
      | inr e ↦ inr e
    ]) in
    rw (here, rest) (omega arith)

pub newline_at : (bs : List ℕ) (k : ℕ) → NoneBefore (Passes (is_byte 10) bs) 0 (length bs) k → Passes (is_byte 10) bs k → line_len bs ≡ k
newline_at bs k first here = until bs k (omega (arith, first.high)) first.before (inr here)

pub no_newline : (bs : List ℕ) → Nowhere (Passes (is_byte 10) bs) 0 (length bs) → line_len bs ≡ length bs
no_newline bs none = until bs (length bs) (omega arith) none (inl refl)

join : (b k : ℕ) (xs : List ℕ) → lines_of xs ≡ take k xs ∷ lines_of (drop (k + 1) xs)
    → onto_first b (lines_of xs) ≡ take (1 + k) (b ∷ xs) ∷ lines_of (drop (1 + k + 1) (b ∷ xs))
join b k xs e =
    let two : 1 + k + 1 ≡ suc (k + 1) = omega arith in
    let one : 1 + k ≡ suc k = omega arith in
    rw (e, two, one) refl

more : (b k : ℕ) (xs : List ℕ) (t : Bool) → lines_of xs ≡ take k xs ∷ lines_of (drop (k + 1) xs)
    → cond t ([] ∷ lines_of xs) (onto_first b (lines_of xs))
    ≡ take (cond (not t) (1 + k) 0) (b ∷ xs) ∷ lines_of (drop (cond (not t) (1 + k) 0 + 1) (b ∷ xs))
more b k xs true e = refl
more b k xs false e = join b k xs e

alone : (b : ℕ) (t : Bool) → cond t ([] ∷ []) ((b ∷ []) ∷ []) ≡ take (cond (not t) 1 0) (b ∷ []) ∷ lines_of (drop (cond (not t) 1 0 + 1) (b ∷ []))
alone b true = refl
alone b false = refl

lines_split : (bs : List ℕ) → 0 < length bs → lines_of bs ≡ take (line_len bs) bs ∷ lines_of (drop (line_len bs + 1) bs)
lines_split [] lt = absurd (omega arith)
lines_split (b ∷ []) lt = alone b (eqb b 10)
lines_split (b ∷ c ∷ bs) lt = more b (line_len (c ∷ bs)) (c ∷ bs) (eqb b 10) (lines_split (c ∷ bs) (omega arith))

pub line_and_rest : (bs : List ℕ) (x : ℕ) (rest : List ℕ) → 0 < length bs → drop (line_len bs) bs ≡ x ∷ rest
    → lines_of bs ≡ take (line_len bs) bs ∷ lines_of rest
line_and_rest bs x rest lt e =
    let k : ℕ = line_len bs in
    let d : drop (k + 1) bs ≡ rest = sym (drop-drop 1 k bs) ∙ ap (drop 1) e in
    lines_split bs lt ∙ ap (λ r. take k bs ∷ lines_of r) d

pub line_alone : (bs : List ℕ) → 0 < length bs → length (drop (line_len bs) bs) ≡ 0 → lines_of bs ≡ take (line_len bs) bs ∷ lines_of (drop (line_len bs) bs)
line_alone bs lt none =
    let k : ℕ = line_len bs in
    let e : drop k bs ≡ [] = nil_from_length (drop k bs) none in
    let d : drop (k + 1) bs ≡ drop k bs = sym (drop-drop 1 k bs) ∙ ap (drop 1) e ∙ sym e in
    lines_split bs lt ∙ ap (λ r. take k bs ∷ lines_of r) d

pub reads_on : (n : ℕ) (d : Draft) (rest line after : List ℕ) (e : Draft) → lines_of rest ≡ line ∷ lines_of after
    → line_of (n + 1) d line ≡ Ok e → read_lines n d (lines_of rest) ≡ read_lines (n + 1) e (lines_of after)
unfolding read_lines
reads_on n d rest line after e s h = rw (s, h) refl

pub reads_stop : (n : ℕ) (d : Draft) (rest line after : List ℕ) (r : Reason) → lines_of rest ≡ line ∷ lines_of after
    → line_of (n + 1) d line ≡ Err r → read_lines n d (lines_of rest) ≡ Err (errors.Refused (n + 1) r)
unfolding read_lines
reads_stop n d rest line after r s h = rw (s, h) refl

pub reads_end : (n : ℕ) (d : Draft) (rest : List ℕ) → length rest ≡ 0 → read_lines n d (lines_of rest) ≡ finished (n + 1) d
unfolding read_lines
reads_end n d [] none = refl
reads_end n d (b ∷ bs) none = absurd (omega arith)

pub line_len_le : (bs : List ℕ) → line_len bs ≤ length bs
line_len_le bs = omega (arith, length-prefix_len (λ b. not (eqb b 10)) bs, length-take (line_len bs) bs)
