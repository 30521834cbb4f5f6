-- The entry of a number.
use Rattle.std.proofs.Common.{◌≡◌, ℕ, zero, suc, ◌+◌, ◌-◌, ◌<◌, List, [], ◌∷◌, ◌++◌, length, Option, Some, None, refl, sym, ap, ◌∙◌, subst, arith, eqb}
use Rattle.std.specs.Prelude.{slice_get, reverse}
use Rattle.std.proofs.lemmas.Bool.{cond_both, eqb-true, eqb-false, ne_eqb}
use Rattle.std.proofs.lemmas.List.{reverse-append, reverse-reverse, length-reverse}
use Rattle.hx_model.specs.Types.{Entry}
use Rattle.hx_model.specs.Runs.{entry_at}
use Rattle.hx_clock.proofs.Lemmas.{get_end}

slice_get-before : {A : Type 0} (xs : List A) (x : A) (i : ℕ) → (i ≡ length xs → ⊥) → slice_get (xs ++ x ∷ []) i ≡ slice_get xs i
slice_get-before [] x zero h = absurd (h refl)
slice_get-before [] x (suc i) h = refl
slice_get-before (y ∷ rest) x zero h = refl
slice_get-before (y ∷ rest) x (suc i) h = slice_get-before rest x i (λ e. h (ap suc e))

no_entry_of : (t : List Entry) → entry_at 0 t ≡ None
no_entry_of [] = refl
no_entry_of (x ∷ older) = rw (ne_eqb 0 (length older + 1) (λ e. omega arith)) (no_entry_of older)

entry_of_reverse : (t : List Entry) (n : ℕ) → 0 < n → entry_at n t ≡ slice_get (reverse t) (n - 1)
entry_of_reverse [] n some = refl
entry_of_reverse (x ∷ older) n some =
    let turned : reverse (x ∷ older) ≡ reverse older ++ x ∷ [] = reverse-append (x ∷ []) older in
    let long = length-reverse older in
    rw turned
    (
    cond_both (eqb n (length older + 1)) (Some x) (entry_at n older) (λ (o : Option Entry). o ≡ slice_get (reverse older ++ x ∷ []) (n - 1))
    (
    λ here. let same = eqb-true n (length older + 1) here in
    let place : n - 1 ≡ length (reverse older) = omega (arith, same, long) in
    rw place (sym (get_end (reverse older) x))
    )
    (
    λ other. let differ : n ≡ length older + 1 → ⊥ = eqb-false n (length older + 1) other in
    entry_of_reverse older n some ∙ sym (slice_get-before (reverse older) x (n - 1) (λ e. differ (omega (arith, e, long))))
    )
    )

-- the entry of a number in a trace that stands oldest first
pub entry_is : (xs : List Entry) (n : ℕ) → 0 < n → entry_at n (reverse xs) ≡ slice_get xs (n - 1)
entry_is xs n some = subst (λ (l : List Entry). entry_at n (reverse xs) ≡ slice_get l (n - 1)) (reverse-reverse xs) (entry_of_reverse (reverse xs) n some)

pub no_entry : (xs : List Entry) → entry_at 0 (reverse xs) ≡ None
no_entry xs = no_entry_of (reverse xs)
