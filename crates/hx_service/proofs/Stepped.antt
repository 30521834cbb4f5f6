-- What a drain of no entry or of one leaves.
use Rattle.std.proofs.Common.{◌≡◌, ℕ, zero, suc, ◌≤◌, List, ◌∷◌, length, Option, Some, None, sym, ap, ◌∙◌, arith}
use Rattle.std.specs.Prelude.{reverse}
use Rattle.std.proofs.lemmas.List.{reverse-reverse}
use Rattle.hx_model.specs.Types.{Entry, Script}
use Rattle.hx_model.specs.Schedule.{next_entry, scheduled, with_entry}
use Rattle.hx_world.specs.Worlds.{DrainFails, IsPartOf}
use Rattle.hx_world.specs.declared.ends.DrainError.{DrainError}

-- lists are the same whose reverses are
pub of_reverses : {A : Type 0} (xs ys : List A) → reverse xs ≡ reverse ys → xs ≡ ys
of_reverses xs ys e = sym (reverse-reverse xs) ∙ ap reverse e ∙ reverse-reverse ys

-- no entry was made
pub none_made : (script : Script) (old new : List Entry) → IsPartOf script 0 (reverse old) (reverse new) → new ≡ old
none_made script old new part = by part.0 part.1 part.2
  where
    by : (k : ℕ) → k ≤ 0 → reverse new ≡ scheduled script (reverse old) k → new ≡ old
    by zero le e = of_reverses new old e
    by (suc k) le e = absurd (omega (arith, le))

-- nor where the one failed
pub none_where_failed : (script : Script) (old new : List Entry) (e : DrainError) → IsPartOf script 1 (reverse old) (reverse new)
    → DrainFails script 1 (reverse old) (reverse new) e → new ≡ old
none_where_failed script old new error part fails = by part.0 part.1 part.2
  where
    one : (o : Option Entry) → reverse new ≡ with_entry (reverse old) o → new ≡ old
    one None e = of_reverses new old e
    one (Some x) e = absurd (let q : length (reverse new) ≡ length (x ∷ reverse old) = ap length e in omega (arith, q, fails.fewer))

    by : (k : ℕ) → k ≤ 1 → reverse new ≡ scheduled script (reverse old) k → new ≡ old
    by zero le e = of_reverses new old e
    by (suc zero) le e = one (next_entry script (reverse old)) e
    by (suc (suc k)) le e = absurd (omega (arith, le))
