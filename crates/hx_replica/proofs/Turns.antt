-- The early updates whose turns come one after another.
use Rattle.std.proofs.Common.{◌≡◌, ℕ, ◌+◌, ◌-◌, ◌<◌, zero, suc, List, [], ◌∷◌, ◌++◌, length, take, get_or, None, Some}
use Rattle.std.proofs.Common.{refl, ap, sym, ◌∙◌, subst, arith, append_assoc, add-one}
use Rattle.std.specs.Prelude.{slice_get}
use Rattle.std.specs.Borrow.{Bor}
use Rattle.std.specs.List.{All, find}
use Rattle.std.proofs.lemmas.List.{append-nil}
use Rattle.std.proofs.lemmas.List.Elements.{All-push}
use Rattle.hx_model.specs.Types.{RegionId, Update}
use Rattle.hx_types.specs.Words.{when_some}
use Rattle.hx_model.specs.Slots.{Take, follows, taken, turns}
use Rattle.hx_replica.specs.Outputs.{IsNew, seen}

pub seen_append : (xs ys : List (Bor Update)) → seen (xs ++ ys) ≡ seen xs ++ seen ys
seen_append [] ys = refl
seen_append (x ∷ xs) ys = ap (λ us. x.now ∷ us) (seen_append xs ys)

-- so many turns after a version
abbrev pub rest_turns : RegionId → ℕ → ℕ → List Update → List Update
rest_turns g n top early = taken (turns g n top early)

-- the updates so far, with the turns that are left, are all
pub record IsTaking (g : RegionId) (floor left top : ℕ) (early : List Update) (all : List Update) (us : List (Bor Update)) : Type 0 where
  pub taken_are : seen us ++ rest_turns g left top early ≡ all
  pub new : All (IsNew g floor) us
  pub above : floor < top

-- one more turn
pub one_more : (g : RegionId) (floor left top : ℕ) (early all : List Update) (us : List (Bor Update)) (b : Bor Update)
    → IsTaking g floor (suc left) top early all us → find (follows g top) early ≡ Some b.now → IsNew g floor b
    → IsTaking g floor left b.now.version.0 early all (us ++ b ∷ [])
one_more g floor left top early all us b so e new = record {
  taken_are =
      ap (λ xs. xs ++ rest_turns g left b.now.version.0 early) (seen_append us (b ∷ []))
      ∙ append_assoc (seen us) (b.now ∷ []) (rest_turns g left b.now.version.0 early)
      ∙ sym (ap (λ o. seen us ++ taken (when_some o [] (λ (u : Update). Take u ∷ turns g left u.version.0 early))) e)
      ∙ so.taken_are;
  new = All-push (IsNew g floor) us b so.new new;
  above = new.above;
}

-- no further turn
pub no_more : (g : RegionId) (floor left top : ℕ) (early all : List Update) (us : List (Bor Update))
    → IsTaking g floor left top early all us → find (follows g top) early ≡ None → seen us ≡ all
no_more g floor zero top early all us so e = by so.taken_are
  where
    by : seen us ++ [] ≡ all → seen us ≡ all
    by h = sym (append-nil (seen us)) ∙ h
no_more g floor (suc left) top early all us so e =
    sym (append-nil (seen us)) ∙ sym (ap (λ o. seen us ++ taken (when_some o [] (λ (u : Update). Take u ∷ turns g left u.version.0 early))) e) ∙ so.taken_are

-- the turns that are left, of one more
pub one_left : (g : RegionId) (floor n i top : ℕ) (early all : List Update) (us : List (Bor Update)) → i < n
    → IsTaking g floor (n - i) top early all us → IsTaking g floor (suc (n - (i + 1))) top early all us
one_left g floor n i top early all us l so =
    let e : n - i ≡ suc (n - (i + 1)) = omega (arith, l) in
    subst (λ left. IsTaking g floor left top early all us) e so

-- the first items of a list, with one more
pub take_next : {A : Type 0} (xs : List A) (i : ℕ) (x : A) → slice_get xs i ≡ Some x → take (i + 1) xs ≡ take i xs ++ x ∷ []
take_next xs i x e = ap (λ n. take n xs) (add-one i) ∙ by xs i e
  where
    by : (ys : List _) (i : ℕ) → slice_get ys i ≡ Some x → take (suc i) ys ≡ take i ys ++ x ∷ []
    by [] i = λ e. absurd cc
    by (y ∷ ys) zero = λ e. let same : y ≡ x = cc in ap (λ z. z ∷ []) same
    by (y ∷ ys) (suc i) = λ e. ap (λ zs. y ∷ zs) (by ys i e)

pub seen_next : (line : List (Bor Update)) (b : Bor Update) (us : List Update) (i : ℕ) → seen line ≡ take i us
    → slice_get us i ≡ Some b.now → seen (line ++ b ∷ []) ≡ take (i + 1) us
seen_next line b us i e at = seen_append line (b ∷ []) ∙ ap (λ xs. xs ++ b.now ∷ []) e ∙ sym (take_next us i b.now at)

pub seen_more : (line : List (Bor Update)) (b : Bor Update) (before : List Update) (bs : List (Bor Update)) (i : ℕ)
    → seen line ≡ before ++ seen (take i bs) → slice_get bs i ≡ Some b → seen (line ++ b ∷ []) ≡ before ++ seen (take (i + 1) bs)
seen_more line b before bs i e at =
    seen_append line (b ∷ []) ∙ ap (λ xs. xs ++ b.now ∷ []) e ∙ append_assoc before (seen (take i bs)) (b.now ∷ [])
    ∙ sym (ap (λ xs. before ++ xs) (ap seen (take_next bs i b at) ∙ seen_append (take i bs) (b ∷ [])))

-- the item of a turn
pub at_item : {A : Type 0} (xs : List A) (i : ℕ) (x : A) → i < length xs → x ≡ get_or xs i x → slice_get xs i ≡ Some x
at_item [] i x l e = absurd (omega (arith, l))
at_item (y ∷ ys) zero x l e = ap Some (sym e)
at_item (y ∷ ys) (suc i) x l e = at_item ys i x (omega (arith, l)) e

pub all_at : {A : Type 0} (P : A → Type 0) (xs : List A) (i : ℕ) (x : A) → i < length xs → x ≡ get_or xs i x → All P xs → P x
all_at P xs i x l e h = subst P (sym e) (h i x l)
