-- A loop over the orders changes one after another.
use Rattle.std.proofs.Common.{◌≡◌, ℕ, zero, suc, ◌+◌, ◌<◌, ◌≤◌, List, [], ◌∷◌, length, slice_get, slice_set}
use Rattle.std.proofs.Common.{slice_index_or, Some, Vec, refl, ap, sym, ◌∙◌, subst, arith, inl, inr}
use Rattle.std.proofs.lemmas.Bool.{cases_order}
use Rattle.std.proofs.lemmas.Option.{same_Some, slice_get-get_or, slice_get_within}
use Rattle.hx_index.specs.Invariant.{EachMoves}

pub set-here : {A : Type 0} (xs : List A) (i : ℕ) (v : A) → i < length xs → slice_get (slice_set xs i v) i ≡ Some v
set-here [] i v l = absurd (omega arith)
set-here (x ∷ xs) zero v l = refl
set-here (x ∷ xs) (suc i) v l = set-here xs i v (omega arith)

pub set-elsewhere : {A : Type 0} (xs : List A) (i k : ℕ) (v : A) → (k ≡ i → ⊥) → slice_get (slice_set xs i v) k ≡ slice_get xs k
set-elsewhere [] i k v n = refl
set-elsewhere (x ∷ xs) zero zero v n = absurd (n refl)
set-elsewhere (x ∷ xs) zero (suc k) v n = refl
set-elsewhere (x ∷ xs) (suc i) zero v n = refl
set-elsewhere (x ∷ xs) (suc i) (suc k) v n = set-elsewhere xs i k v (λ e. n (ap suc e))

pub set-length : {A : Type 0} (xs : List A) (i : ℕ) (v : A) → length (slice_set xs i v) ≡ length xs
set-length [] i v = refl
set-length (x ∷ xs) zero v = refl
set-length (x ∷ xs) (suc i) v = ap suc (set-length xs i v)

-- the first orders, so many, have moved, and the others are as they were
pub record HaveMoved {Z : Type 0} (P : ℕ → Vec ℕ Z → Vec ℕ Z → Type 0) (i : ℕ) (old now : List (Vec ℕ Z)) : Type 0 where
  pub count : length now ≡ length old
  pub done : (k : ℕ) (before after : Vec ℕ Z) → k < i → slice_get old k ≡ Some before → slice_get now k ≡ Some after → P k before after
  pub rest : (k : ℕ) → i ≤ k → slice_get now k ≡ slice_get old k

module _ {Z : Type 0} (P : ℕ → Vec ℕ Z → Vec ℕ Z → Type 0) (old : List (Vec ℕ Z)) where
  pub begun : HaveMoved P 0 old old
  begun = record { count = refl; done = λ k before after l. absurd (omega arith); rest = λ k l. refl }

  module _ (now : List (Vec ℕ Z)) (i : ℕ) (h : HaveMoved P i old now) where
    -- the next one is as it was
    pub next-is : (v : Vec ℕ Z) → i < length now → v ≡ slice_index_or now i v → slice_get old i ≡ Some v
    next-is v l e = sym (h.rest i (omega arith)) ∙ slice_get-get_or now i v l ∙ ap (λ (w : Vec ℕ Z). Some w) (sym e)

    pub moved-one : (v w : Vec ℕ Z) → i < length now → slice_get old i ≡ Some v → P i v w → HaveMoved P (i + 1) old (slice_set now i w)
    moved-one v w l e p = record {
      count = set-length now i w ∙ h.count;
      done = λ k before after m b a. elim (cases_order k i) [
        | inl q ↦ subst (λ (j : ℕ). P j before after) (sym q)
            (subst (λ (x : Vec ℕ Z). P i x after) (same_Some v before (sym e ∙ ap (slice_get old) (sym q) ∙ b))
            (subst (P i v) (same_Some w after (sym (set-here now i w l) ∙ ap (slice_get (slice_set now i w)) (sym q) ∙ a)) p))
        | inr (inl less) ↦ h.done k before after less b (sym (set-elsewhere now i k w (λ q. omega (arith, less, q))) ∙ a)
        | inr (inr more) ↦ absurd (omega (arith, m, more))
      ];
      rest = λ k m. set-elsewhere now i k w (λ q. omega (arith, m, q)) ∙ h.rest k (omega (arith, m));
    }

    -- all have moved
    pub ended : length now ≤ i → EachMoves P old now
    ended l = record { count = h.count; each = λ k before after b a. h.done k before after (let m = slice_get_within now k after a in omega (arith, m, l)) b a }

    -- or as good as all, where a move may change nothing
    pub ended-early : ((k : ℕ) (v : Vec ℕ Z) → P k v v) → EachMoves P old now
    ended-early still = record {
      count = h.count;
      each = λ k before after b a. elim (cases_order k i) [
        | inl q ↦ stays k before after b (sym (h.rest k (omega (arith, q))) ∙ a)
        | inr (inl less) ↦ h.done k before after less b a
        | inr (inr more) ↦ stays k before after b (sym (h.rest k (omega (arith, more))) ∙ a)
      ];
    }
      where
        stays : (k : ℕ) (before after : Vec ℕ Z) → slice_get old k ≡ Some before → slice_get old k ≡ Some after → P k before after
        stays k before after b a = subst (P k before) (same_Some before after (sym b ∙ a)) (still k before)

-- what holds of the first orders holds of one more
pub held-more : {Z : Type 0} (Q : Vec ℕ Z → Type 0) (now : List (Vec ℕ Z)) (i : ℕ) (w : Vec ℕ Z) → i < length now
    → Q w → ((k : ℕ) (v : Vec ℕ Z) → k < i → slice_get now k ≡ Some v → Q v) → (k : ℕ) (v : Vec ℕ Z) → k < i + 1
    → slice_get (slice_set now i w) k ≡ Some v → Q v
held-more Q now i w l q h k v m e = elim (cases_order k i) [
  | inl s ↦ subst Q (same_Some w v (sym (set-here now i w l) ∙ ap (slice_get (slice_set now i w)) (sym s) ∙ e)) q
  | inr (inl less) ↦ h k v less (sym (set-elsewhere now i k w (λ s. omega (arith, less, s))) ∙ e)
  | inr (inr more) ↦ absurd (omega (arith, m, more))
]
