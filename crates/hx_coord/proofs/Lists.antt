-- Lists that grow by one item.
use Rattle.std.proofs.Common.{◌≡◌, ℕ, suc, zero, ◌+◌, ◌<◌, ◌==◌, Bool, true, false, ◌||◌, List, [], ◌∷◌, ◌++◌, length}
use Rattle.std.proofs.Common.{take, get_or, None, refl, ap, sym, ◌∙◌, add-one, arith}
use Rattle.std.specs.List.{list_any, slice_get}
use Rattle.std.specs.Prelude.{slice_set, IsSomeAnd}
use Rattle.std.proofs.lemmas.Bool.{cond-true, cond-false}
use Rattle.hx_model.specs.Types.{SessionId}
use Rattle.hx_types.specs.Words.{same_session}
use Rattle.hx_model.specs.CoordinatorSteps.{Answered, Newest, newest_answered, newest_of, with_answer, with_newest}
use Rattle.hx_coord.specs.Numbers.{IsPlaceOf, is_of_session}

-- one more answer is kept last
pub answered_next : (answered : List Answered) (a : Answered) (newest : List Newest)
    → newest_answered (answered ++ a ∷ []) newest ≡ with_answer a (newest_answered answered newest)
answered_next [] a newest = refl
answered_next (x ∷ rest) a newest = answered_next rest a (with_answer x newest)

taken_next : {A : Type 0} (xs : List A) (i : ℕ) (x : A) → i < length xs → x ≡ get_or xs i x → take (suc i) xs ≡ take i xs ++ x ∷ []
taken_next [] i x within is = absurd (omega (arith, within))
taken_next (y ∷ ys) zero x within is = ap (λ z. z ∷ []) (sym is)
taken_next (y ∷ ys) (suc i) x within is = ap (λ zs. y ∷ zs) (taken_next ys i x (omega (arith, within)) is)

pub answered_more : (answered : List Answered) (k : ℕ) (a : Answered) (newest : List Newest) → k < length answered → a ≡ get_or answered k a
    → newest_answered (take (k + 1) answered) newest ≡ with_answer a (newest_answered (take k answered) newest)
answered_more answered k a newest within is =
    ap (λ n. newest_answered (take n answered) newest) (add-one k)
    ∙ ap (λ (some : List Answered). newest_answered some newest) (taken_next answered k a within is)
    ∙ answered_next (take k answered) a newest

neither : (a b : Bool) → (a || b) ≡ false → (a ≡ false) × (b ≡ false)
neither true b e = absurd cc
neither false b e = (refl, e)

same_number : (m n : ℕ) → m ≡ n → (m == n) ≡ true
same_number m n e = grind (arith, e)

-- the newest number of a session is the one at its place
newest_there : (u : SessionId) (xs : List Newest) (i : ℕ) → list_any (is_of_session u) (take i xs) ≡ false
    → IsSomeAnd (slice_get xs i) (λ (n : Newest). n.session.0 ≡ u.0) → newest_of u xs ≡ slice_get xs i
newest_there u [] i none here = absurd here
newest_there u (x ∷ xs) zero none here = cond-true (same_session x.session u) _ _ (same_number x.session.0 u.0 here)
newest_there u (x ∷ xs) (suc i) none here =
    cond-false (same_session x.session u) _ _ (neither _ _ none).0 ∙ newest_there u xs i (neither _ _ none).1 here

pub newest_at : (u : SessionId) (xs : List Newest) (i : ℕ) → IsPlaceOf u xs i → newest_of u xs ≡ slice_get xs i
newest_at u xs i p = newest_there u xs i p.before p.here

pub newest_nowhere : (u : SessionId) (xs : List Newest) → list_any (is_of_session u) xs ≡ false → newest_of u xs ≡ None
newest_nowhere u [] none = refl
newest_nowhere u (x ∷ xs) none = cond-false (same_session x.session u) _ _ (neither _ _ none).0 ∙ newest_nowhere u xs (neither _ _ none).1

-- a newer number is put where its session's stands
newest_over : (n : Newest) (xs : List Newest) (i : ℕ) → list_any (is_of_session n.session) (take i xs) ≡ false
    → IsSomeAnd (slice_get xs i) (λ (x : Newest). x.session.0 ≡ n.session.0)
    → slice_set xs i n ≡ with_newest n xs
newest_over n [] i none here = absurd here
newest_over n (x ∷ xs) zero none here = sym (cond-true (same_session x.session n.session) _ _ (same_number x.session.0 n.session.0 here))
newest_over n (x ∷ xs) (suc i) none here =
    ap (λ (zs : List Newest). x ∷ zs) (newest_over n xs i (neither _ _ none).1 here)
    ∙ sym (cond-false (same_session x.session n.session) _ _ (neither _ _ none).0)

pub newest_put : (n : Newest) (xs : List Newest) (i : ℕ) → IsPlaceOf n.session xs i → slice_set xs i n ≡ with_newest n xs
newest_put n xs i p = newest_over n xs i p.before p.here

pub newest_last : (n : Newest) (xs : List Newest) → list_any (is_of_session n.session) xs ≡ false → xs ++ n ∷ [] ≡ with_newest n xs
newest_last n [] none = refl
newest_last n (x ∷ xs) none =
    ap (λ (zs : List Newest). x ∷ zs) (newest_last n xs (neither _ _ none).1) ∙ sym (cond-false (same_session x.session n.session) _ _ (neither _ _ none).0)
