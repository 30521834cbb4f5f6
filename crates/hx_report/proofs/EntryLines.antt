-- The lines of a trace's entries, one entry more.
use Rattle.std.proofs.Common.{◌≡◌, ℕ, zero, suc, ◌+◌, ◌<◌, List, [], ◌∷◌, ◌++◌, None, Some, drop, length, ap, sym, ◌∙◌, arith}
use Rattle.std.proofs.Math.Seq.{drop-cons}
use Rattle.std.proofs.lemmas.List.{append_assoc}
use Rattle.std.proofs.lemmas.Option.{get_or_from_slice_get, slice_get_within}
use Rattle.std.specs.Prelude.{slice_get}
use Rattle.hx_model.specs.Types.{Entry}
use Rattle.hx_report.specs.Tracing.{entries_text, entry_line, posts_text}

-- there is an item at a place within a list
pub not_past : {A : Type 0} (xs : List A) (i : ℕ) → i < length xs → None ≡ slice_get xs i → ⊥
not_past [] i within none = omega (arith, within)
not_past (x ∷ xs) zero within none = cc
not_past (x ∷ xs) (suc i) within none = not_past xs i (omega arith) none

-- what is left of a list, from an item on
from_item : {A : Type 0} (xs : List A) (i : ℕ) (x : A) → Some x ≡ slice_get xs i → drop i xs ≡ x ∷ drop (i + 1) xs
from_item xs i x found =
    let next : suc i ≡ i + 1 = omega arith in
    drop-cons xs i x (slice_get_within xs i x (sym found))
    ∙ ap (λ y. y ∷ drop (suc i) xs) (get_or_from_slice_get xs i x x (sym found))
    ∙ ap (λ n. x ∷ drop n xs) next

pub entry_more : (out all : List ℕ) (trace : List Entry) (i : ℕ) (x : Entry) → Some x ≡ slice_get trace i
    → out ++ entries_text (i + 1) (drop i trace) ≡ all
    → out ++ entry_line (i + 1) x ++ posts_text (i + 1) 0 x.outputs ++ entries_text (i + 1 + 1) (drop (i + 1) trace) ≡ all
unfolding entries_text
entry_more out all trace i x found so_far =
    let line : List ℕ = entry_line (i + 1) x in
    let posts : List ℕ = posts_text (i + 1) 0 x.outputs in
    let more : List ℕ = entries_text (i + 1 + 1) (drop (i + 1) trace) in
    ap (λ ys. ys ++ more) (append_assoc out line posts) ∙ append_assoc out (line ++ posts) more
    ∙ ap (λ ys. out ++ entries_text (i + 1) ys) (sym (from_item trace i x found)) ∙ so_far
