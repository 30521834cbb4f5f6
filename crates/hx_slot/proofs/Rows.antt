-- The last version and the row of a list of updates, one update more.
use Rattle.std.proofs.Common.{◌≡◌, ℕ, ◌-◌, suc, true, false, List, [], ◌∷◌, ◌++◌, length, slice_get, Option, Some, None, refl, ap, sym, ◌∙◌, arith}
use Rattle.std.proofs.lemmas.Bool.{cond-true, cond-false}
use Rattle.hx_model.specs.Types.{Row}
use Rattle.hx_model.specs.Slots.{row_of}
use Rattle.hx_slot.specs.declared.updates.AcceptedUpdate.{AcceptedUpdate}
use Rattle.hx_slot.specs.Updates.{last_version, row_by, row_over}

-- the version of the last update of a list that has one
pub last_version-last : (v : ℕ) (ts : List AcceptedUpdate) (t : AcceptedUpdate) → slice_get ts (length ts - 1) ≡ Some t → t.update.version.0 ≡ last_version v ts
last_version-last v [] t e = absurd (cc)
last_version-last v (x ∷ []) t e = let s : t ≡ x = cc in ap (λ (y : AcceptedUpdate). y.update.version.0) s
last_version-last v (x ∷ (y ∷ ys)) t e =
    let a : suc (suc (length ys)) - 1 ≡ suc (length ys) = omega arith in
    let b : suc (length ys) - 1 ≡ length ys = omega arith in
    last_version-last x.update.version.0 (y ∷ ys) t (ap (slice_get (y ∷ ys)) b ∙ sym (ap (slice_get (x ∷ (y ∷ ys))) a) ∙ e)

pub row_over_push : (row : Option Row) (ts : List AcceptedUpdate) (t : AcceptedUpdate) → row_over row (ts ++ t ∷ []) ≡ row_by t (row_over row ts)
row_over_push row [] t = refl
row_over_push row (x ∷ ts) t = row_over_push (row_by x row) ts t

-- an update that doesn't keep removes the row, one that changes sets it, and another leaves it
pub removed : (row : Option Row) (rest older : List AcceptedUpdate) (t : AcceptedUpdate) → rest ≡ older ++ t ∷ [] → t.keeps ≡ false → None ≡ row_over row rest
removed row rest older t e k =
    sym (ap (row_over row) e ∙ row_over_push row older t ∙ cond-false t.keeps _ _ k)

pub is_set : (row : Option Row) (rest older : List AcceptedUpdate) (t : AcceptedUpdate) → rest ≡ older ++ t ∷ []
    → t.keeps ≡ true → t.update.changes ≡ true → row_of t.update ≡ row_over row rest
is_set row rest older t e k h =
    sym (ap (row_over row) e ∙ row_over_push row older t ∙ cond-true t.keeps _ _ k ∙ cond-true t.update.changes _ _ h)

pub is_left : (row : Option Row) (rest older : List AcceptedUpdate) (t : AcceptedUpdate) → rest ≡ older ++ t ∷ []
    → t.keeps ≡ true → t.update.changes ≡ false → row_over row older ≡ row_over row rest
is_left row rest older t e k h =
    sym (ap (row_over row) e ∙ row_over_push row older t ∙ cond-true t.keeps _ _ k ∙ cond-false t.update.changes _ _ h)
