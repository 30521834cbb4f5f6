-- What is said of each item and those above it is said along the history, newest first.
use Rattle.hx_law_lemmas.proofs.Lemmas.Vocabulary.{[], ap, append-nil, append_assoc, EachOnce, IfSome, inl, inr, IsEffect, IsIn, IsLegal, Item, List, map, None}
use Rattle.hx_law_lemmas.proofs.Lemmas.Vocabulary.{object_now, Option, reverse, reverse-append, slice_get, Some, Space, subst, suc, sym, take, ℕ, ◌++◌, ◌∙◌}
use Rattle.hx_law_lemmas.proofs.Lemmas.Vocabulary.{◌∷◌, ◌≡◌}

-- R holds of each item and the older ones
abbrev pub Along : (List Item → Item → Type 0) → List Item → Type 0
Along R [] = Unit {0}
Along R (x ∷ older) = R older x × Along R older

onto : (x : Item) (xs older : List Item) → reverse (x ∷ xs) ++ older ≡ reverse xs ++ (x ∷ older)
onto x xs older = ap (λ (l : List Item). l ++ older) (reverse-append (x ∷ []) xs) ∙ append_assoc (reverse xs) (x ∷ []) older

-- from each place of a list of what the items are of
module _ {A : Type 0} (f : A → Item) (R : List Item → Item → Type 0) where
  along : (older : List Item) (xs : List A) → Along R older
      → ((k : ℕ) → IfSome (slice_get xs k) (λ x. R (reverse (map f (take k xs)) ++ older) (f x)))
      → Along R (reverse (map f xs) ++ older)
  along older [] before all = before
  along older (x ∷ xs) before all =
      subst (Along R) (sym (onto (f x) (map f xs) older))
      (along (f x ∷ older) xs (all 0, before) (λ k. by (slice_get xs k) k (all (suc k))))
    where
      by : (o : Option A) (k : ℕ) → IfSome o (λ y. R (reverse (f x ∷ map f (take k xs)) ++ older) (f y))
          → IfSome o (λ y. R (reverse (map f (take k xs)) ++ (f x ∷ older)) (f y))
      by None k h = tt
      by (Some y) k h = subst (λ (l : List Item). R l (f y)) (onto (f x) (map f (take k xs)) older) h

  pub along_all : (xs : List A) → ((k : ℕ) → IfSome (slice_get xs k) (λ x. R (reverse (map f (take k xs))) (f x))) → Along R (reverse (map f xs))
  along_all xs all =
      subst (Along R) (append-nil (reverse (map f xs)))
      (along [] xs tt (λ k. by (slice_get xs k) k (all k)))
    where
      by : (o : Option A) (k : ℕ) → IfSome o (λ x. R (reverse (map f (take k xs))) (f x)) → IfSome o (λ x. R (reverse (map f (take k xs)) ++ []) (f x))
      by None k h = tt
      by (Some y) k h = subst (λ (l : List Item). R l (f y)) (sym (append-nil (reverse (map f (take k xs))))) h

-- effects along a history make it legal
pub along_legal : (space : Space) (items : List Item) → Along (λ older x. IsEffect space (object_now older) x) items → IsLegal space items
along_legal space [] h = tt
along_legal space (x ∷ older) h = (h.0, along_legal space older h.1)

-- callers that differ along a history stand once
pub along_once : (items : List Item) → Along (λ older x. (y : Item) → IsIn y older → y.caller ≡ x.caller → ⊥) items → EachOnce items
along_once [] h = tt
along_once (x ∷ older) h = (h.0, along_once older h.1)

-- what holds of each item along a history holds of every item
pub along_each : (P : Item → Type 0) (items : List Item) → Along (λ older x. P x) items → (x : Item) → IsIn x items → P x
along_each P [] h x i = absurd i
along_each P (y ∷ older) h x (inl e) = subst P (sym e) h.0
along_each P (y ∷ older) h x (inr i) = along_each P older h.1 x i

-- a part of what holds along a history
pub along_part : (R S : List Item → Item → Type 0) → ((older : List Item) (x : Item) → R older x → S older x)
    → (items : List Item) → Along R items → Along S items
along_part R S part [] h = tt
along_part R S part (x ∷ older) h = (part older x h.0, along_part R S part older h.1)
