-- Lists of the same updates at the same places.
use Rattle.std.proofs.Common.{◌≡◌, ℕ, zero, suc, ◌<◌, Bool, List, [], ◌∷◌, length, take, set, get_or, refl, ap, sym, ◌∙◌, subst, arith}
use Rattle.std.specs.List.{AllByRecursion}
use Rattle.hx_model.specs.Types.{RegionId, Update}
use Rattle.hx_slot.specs.declared.updates.AcceptedUpdate.{AcceptedUpdate}
use Rattle.hx_slot.specs.Acks.{AreSameUpdates}
use Rattle.hx_slot.specs.Updates.{Ascends, IsPlaced, last_version, newest_first}
use Rattle.hx_slot.specs.Invariant.{IsLine}

pub same-refl : (xs : List AcceptedUpdate) → AreSameUpdates xs xs
same-refl [] = tt
same-refl (x ∷ xs) = (refl, refl, same-refl xs)

pub same-trans : (xs ys zs : List AcceptedUpdate) → AreSameUpdates xs ys → AreSameUpdates ys zs → AreSameUpdates xs zs
same-trans [] [] zs h k = k
same-trans [] (y ∷ ys) zs h k = absurd h
same-trans (x ∷ xs) [] zs h k = absurd h
same-trans (x ∷ xs) (y ∷ ys) [] h k = absurd k
same-trans (x ∷ xs) (y ∷ ys) (z ∷ zs) h k = (k.0 ∙ h.0, k.1 ∙ h.1, same-trans xs ys zs h.2 k.2)

-- another mark on one update
pub same-set : (xs : List AcceptedUpdate) (i : ℕ) (x : AcceptedUpdate) (marked : Bool) → i < length xs
    → x ≡ get_or xs i x → AreSameUpdates xs (set xs i (record x { acknowledged = marked }))
same-set [] i x marked l e = tt
same-set (y ∷ ys) zero x marked l e = (ap (λ (t : AcceptedUpdate). t.update) e, ap (λ (t : AcceptedUpdate). t.keeps) e, same-refl ys)
same-set (y ∷ ys) (suc i) x marked l e = (refl, refl, same-set ys i x marked (omega arith) e)

pub same-length : (xs ys : List AcceptedUpdate) → AreSameUpdates xs ys → length ys ≡ length xs
same-length [] [] h = refl
same-length [] (y ∷ ys) h = absurd h
same-length (x ∷ xs) [] h = absurd h
same-length (x ∷ xs) (y ∷ ys) h = ap suc (same-length xs ys h.2)

pub same-take : (n : ℕ) (xs ys : List AcceptedUpdate) → AreSameUpdates xs ys → AreSameUpdates (take n xs) (take n ys)
same-take zero xs ys h = tt
same-take (suc n) [] [] h = tt
same-take (suc n) [] (y ∷ ys) h = absurd h
same-take (suc n) (x ∷ xs) [] h = absurd h
same-take (suc n) (x ∷ xs) (y ∷ ys) h = (h.0, h.1, same-take n xs ys h.2)

pub same-newest_first : (o : List Update) (xs ys : List AcceptedUpdate) → AreSameUpdates xs ys → newest_first o ys ≡ newest_first o xs
same-newest_first o [] [] h = refl
same-newest_first o [] (y ∷ ys) h = absurd h
same-newest_first o (x ∷ xs) [] h = absurd h
same-newest_first o (x ∷ xs) (y ∷ ys) h = same-newest_first (y.update ∷ o) xs ys h.2 ∙ ap (λ (u : Update). newest_first (u ∷ o) xs) h.0

same-last_version : (v : ℕ) (xs ys : List AcceptedUpdate) → AreSameUpdates xs ys → last_version v ys ≡ last_version v xs
same-last_version v [] [] h = refl
same-last_version v [] (y ∷ ys) h = absurd h
same-last_version v (x ∷ xs) [] h = absurd h
same-last_version v (x ∷ xs) (y ∷ ys) h = same-last_version y.update.version.0 xs ys h.2 ∙ ap (λ (u : Update). last_version u.version.0 xs) h.0

pub same-ascends : (v : ℕ) (xs ys : List AcceptedUpdate) → AreSameUpdates xs ys → Ascends v xs → Ascends v ys
same-ascends v [] [] h a = tt
same-ascends v [] (y ∷ ys) h a = absurd h
same-ascends v (x ∷ xs) [] h a = absurd h
same-ascends v (x ∷ xs) (y ∷ ys) h a = (
  subst (λ (u : Update). v < u.version.0) (sym h.0) a.0,
  same-ascends y.update.version.0 xs ys h.2 (subst (λ (u : Update). Ascends u.version.0 xs) (sym h.0) a.1),
)

same-placed : (g : RegionId) (xs ys : List AcceptedUpdate) → AreSameUpdates xs ys
    → AllByRecursion (λ (t : AcceptedUpdate). IsPlaced g t.update t.keeps) xs
    → AllByRecursion (λ (t : AcceptedUpdate). IsPlaced g t.update t.keeps) ys
same-placed g [] [] h a = tt
same-placed g [] (y ∷ ys) h a = absurd h
same-placed g (x ∷ xs) [] h a = absurd h
same-placed g (x ∷ xs) (y ∷ ys) h a =
    (subst (λ (u : Update). IsPlaced g u y.keeps) (sym h.0) (subst (λ (k : Bool). IsPlaced g x.update k) (sym h.1) a.0), same-placed g xs ys h.2 a.1)

-- a line of the same entries
pub same-line : {g : RegionId} {base : ℕ} {xs : List AcceptedUpdate} {c floor : ℕ} → IsLine g base xs c floor
    → (ys : List AcceptedUpdate) → AreSameUpdates xs ys → IsLine g base ys c floor
same-line {g = g} {base = base} {xs = xs} {c = c} line ys h =
    record {
      ascends = same-ascends base xs ys h line.ascends;
      placed = same-placed g xs ys h line.placed;
      within = (let n = same-length xs ys h in let w = line.within in omega (arith, n, w));
      floor_is = line.floor_is ∙ sym (same-last_version base (take c xs) (take c ys) (same-take c xs ys h));
    }
