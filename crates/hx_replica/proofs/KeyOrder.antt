-- The keys of updates, in byte order.
use Rattle.std.proofs.Common.{◌≡◌, ℕ, zero, suc, ◌+◌, ◌<◌, true, false, List, [], ◌∷◌, ◌++◌, take, drop, get_or}
use Rattle.std.proofs.Common.{length, Some, refl, ap, sym, ◌∙◌, add-one, append_assoc}
use Rattle.std.specs.Borrow.{Bor}
use Rattle.std.specs.List.{AllByRecursion, insert, slice_get}
use Rattle.std.proofs.lemmas.Bool.{cond-true, cond-false, false_from_ne_true, false≢true}
use Rattle.std.proofs.lemmas.List.{take-append-drop}
use Rattle.std.proofs.lemmas.Option.{same_Some}
use Rattle.hx_model.specs.Types.{Update}
use Rattle.hx_types.proofs.Lemmas.{text_below-differs}
use Rattle.hx_types.specs.Words.{same_text, text_below}
use Rattle.hx_model.proofs.Lemmas.{eq_of_same_text, same_text_self}
use Rattle.hx_model.specs.ServerSteps.{keys_of, with_key}
use Rattle.hx_store.proofs.Lemmas.{at-map}
use Rattle.hx_law_folds.specs.Folding.{TextsAscend}
use Rattle.hx_replica.specs.Installing.{texts}
use Rattle.hx_replica.proofs.Turns.{at_item, take_next}

-- a key that is put among these, so far as they were gone through
pub record IsGone (key : List ℕ) (ks : List (List ℕ)) (i : ℕ) : Type 0 where
  pub so_far : with_key key ks ≡ take i ks ++ with_key key (drop i ks)

pub drop_at : {A : Type 0} (xs : List A) (i : ℕ) (x : A) → slice_get xs i ≡ Some x → drop i xs ≡ x ∷ drop (i + 1) xs
drop_at xs i x e = by xs i e ∙ ap (λ n. x ∷ drop n xs) (sym (add-one i))
  where
    by : (ys : List _) (i : ℕ) → slice_get ys i ≡ Some x → drop i ys ≡ x ∷ drop (suc i) ys
    by [] i = λ e. absurd cc
    by (y ∷ ys) zero = λ e. ap (λ z. z ∷ ys) (same_Some y x e)
    by (y ∷ ys) (suc i) = λ e. by ys i e

module _ (key : List ℕ) (ks : List (List ℕ)) (i : ℕ) (x : List ℕ) (so : IsGone key ks i) (at : slice_get ks i ≡ Some x) where
  rest : drop i ks ≡ x ∷ drop (i + 1) ks
  rest = drop_at ks i x at

  -- it is there
  pub is_there : key ≡ x → ks ≡ with_key key ks
  is_there e =
      sym (take-append-drop i ks)
      ∙ ap (λ (l : List (List ℕ)). take i ks ++ l) (rest
      ∙ sym (cond-true (same_text key x) (x ∷ drop (i + 1) ks) _
      (ap (same_text key) (sym e) ∙ same_text_self key)) ∙ ap (with_key key) (sym rest))
      ∙ sym so.so_far

  -- it comes before the next one
  pub goes_here : same_text key x ≡ false → text_below key x ≡ true → insert ks i key ≡ with_key key ks
  goes_here n b =
      ap (λ (l : List (List ℕ)). take i ks ++ key ∷ l) rest
      ∙ ap (λ (l : List (List ℕ)). take i ks ++ l)
      (sym (cond-false (same_text key x) (x ∷ drop (i + 1) ks) _ n
      ∙ cond-true (text_below key x) (key ∷ x ∷ drop (i + 1) ks) _ b) ∙ ap (with_key key) (sym rest))
      ∙ sym so.so_far

  -- it comes later
  pub goes_on : same_text key x ≡ false → text_below key x ≡ false → IsGone key ks (i + 1)
  goes_on n b = record {
    so_far =
        so.so_far
        ∙ ap (λ (l : List (List ℕ)). take i ks ++ l)
        (ap (with_key key) rest ∙ cond-false (same_text key x) (x ∷ drop (i + 1) ks) _ n ∙ cond-false (text_below key x) (key ∷ x ∷ drop (i + 1) ks) _ b)
        ∙ sym (append_assoc (take i ks) (x ∷ []) (with_key key (drop (i + 1) ks)))
        ∙ ap (λ (l : List (List ℕ)). l ++ with_key key (drop (i + 1) ks)) (sym (take_next ks i x at));
  }

-- two texts that aren't equal
pub differs : (a b : List ℕ) → (a ≡ b → ⊥) → same_text a b ≡ false
differs a b n = false_from_ne_true (same_text a b) (λ s. n (eq_of_same_text a b s))

-- the text at a number, and texts with one more
pub texts_at : (bs : List (Bor (List ℕ))) (i : ℕ) (b : Bor (List ℕ)) → i < length bs → b ≡ get_or bs i b → slice_get (texts bs) i ≡ Some b.now
texts_at bs i b l e = at-map (λ (x : Bor (List ℕ)). x.now) bs i b (at_item bs i b l e)

pub clash : true ≡ false → ⊥
clash e = false≢true (sym e)

pub texts_insert : (bs : List (Bor (List ℕ))) (i : ℕ) (b : Bor (List ℕ)) → texts (insert bs i b) ≡ insert (texts bs) i b.now
texts_insert bs zero b = refl
texts_insert [] (suc i) b = refl
texts_insert (x ∷ bs) (suc i) b = ap (λ (l : List (List ℕ)). x.now ∷ l) (texts_insert bs i b)

-- keys of updates, put among others
abbrev pub put_keys : List Update → List (List ℕ) → List (List ℕ)
put_keys [] ks = ks
put_keys (u ∷ us) ks = with_key u.key (put_keys us ks)

pub put_none : (us : List Update) → put_keys us [] ≡ keys_of us
put_none [] = refl
put_none (u ∷ us) = ap (with_key u.key) (put_none us)

pub put_one : (us : List Update) (u : Update) (ks : List (List ℕ)) → put_keys (us ++ u ∷ []) ks ≡ put_keys us (with_key u.key ks)
put_one [] u ks = refl
put_one (x ∷ us) u ks = ap (with_key x.key) (put_one us u ks)

-- those before a key differ from it
pub earlier_differ : (ks : List (List ℕ)) (i : ℕ) (k : List ℕ) → TextsAscend ks → slice_get ks i ≡ Some k
    → AllByRecursion (λ (y : List ℕ). same_text y k ≡ false) (take i ks)
earlier_differ [] i k h e = absurd cc
earlier_differ (x ∷ rest) zero k h e = tt
earlier_differ (x ∷ rest) (suc i) k h e = (text_below-differs x k (at rest i h.0 e), earlier_differ rest i k h.1 e)
  where
    at : (ys : List (List ℕ)) (i : ℕ) → AllByRecursion (λ (y : List ℕ). text_below x y ≡ true) ys → slice_get ys i ≡ Some k → text_below x k ≡ true
    at [] i h e = absurd cc
    at (y ∷ ys) zero h e = ap (text_below x) (sym (same_Some y k e)) ∙ h.0
    at (y ∷ ys) (suc i) h e = at ys i h.1 e
