-- Legal histories, item by item.
use Rattle.std.proofs.Common.{◌≡◌, ℕ, zero, suc, ◌<◌, ◌↔◌, List, [], ◌∷◌, ◌++◌, length, take, reverse, Option, None}
use Rattle.std.proofs.Common.{Some, refl, sym, ap, ◌∙◌, subst, append_assoc, arith}
use Rattle.std.specs.List.{slice_get}
use Rattle.std.specs.Option.{IfSome, IsNone, IsSomeAnd}
use Rattle.std.proofs.lemmas.List.{reverse-append}
use Rattle.hx_model.specs.Types.{Item, Space}
use Rattle.hx_model.specs.Legal.{IsEffect, IsLegal, object_now}
use Rattle.hx_legal.specs.Faults.{IsFirstFault}
use Rattle.hx_audit.specs.Walking.{IsFirstNot}
use Rattle.hx_audit.proofs.Firsts.{to_end}

-- the oldest item of a list goes onto those before it
onto : (x : Item) (xs older : List Item) → reverse (x ∷ xs) ++ older ≡ reverse xs ++ (x ∷ older)
onto x xs older = ap (λ (l : List Item). l ++ older) (reverse-append (x ∷ []) xs) ∙ append_assoc (reverse xs) (x ∷ []) older

older_legal : (space : Space) (newer older : List Item) → IsLegal space (newer ++ older) → IsLegal space older
older_legal space [] older h = h
older_legal space (x ∷ newer) older h = older_legal space newer older h.1

-- each of the first items of a legal history is an effect on the object after those before it
upto : (space : Space) (older items : List Item) (n : ℕ) → IsLegal space (reverse (take n items) ++ older) → (k : ℕ)
    → k < n → IfSome (slice_get items k) (IsEffect space (object_now (reverse (take k items) ++ older)))
upto space older [] n legal k less = tt
upto space older (x ∷ xs) zero legal k less = absurd (omega (arith, less))
upto space older (x ∷ xs) (suc n) legal zero less =
    (older_legal space (reverse (take n xs)) (x ∷ older) (subst (IsLegal space) (onto x (take n xs) older) legal)).0
upto space older (x ∷ xs) (suc n) legal (suc k) less =
    subst (λ (l : List Item). IfSome (slice_get xs k) (IsEffect space (object_now l))) (sym (onto x (take k xs) older))
    (upto space (x ∷ older) xs n (subst (IsLegal space) (onto x (take n xs) older) legal) k (omega (arith, less)))

nil : (xs : List Item) → xs ++ [] ≡ xs
nil [] = refl
nil (x ∷ xs) = ap (λ (l : List Item). x ∷ l) (nil xs)

all_taken : (xs : List Item) → take (length xs) xs ≡ xs
all_taken [] = refl
all_taken (x ∷ xs) = ap (λ (l : List Item). x ∷ l) (all_taken xs)

-- the same of the first items alone
first_legal : (space : Space) (items : List Item) (n : ℕ) → IsLegal space (reverse (take n items)) → (k : ℕ) → k < n
    → IfSome (slice_get items k) (IsEffect space (object_now (reverse (take k items))))
first_legal space items n legal k less =
    subst (λ (l : List Item). IfSome (slice_get items k) (IsEffect space (object_now l))) (nil (reverse (take k items)))
    (upto space [] items n (subst (IsLegal space) (sym (nil (reverse (take n items)))) legal) k less)

-- the first fault of a history is its first item that is no effect
pub faults : (space : Space) (items : List Item) (r : Option ℕ) → IsNone r ↔ IsLegal space (reverse items) → IfSome r (IsFirstFault space items)
    → IsFirstNot (λ place. IfSome (slice_get items place) (IsEffect space (object_now (reverse (take place items))))) r
faults space items None whole first =
    to_end items (λ k. IsEffect space (object_now (reverse (take k items))))
    (first_legal space items (length items) (subst (λ (l : List Item). IsLegal space (reverse l)) (sym (all_taken items)) (whole.0 refl)))
faults space items (Some n) whole first = (λ h. by (slice_get items n) first.fault h, first_legal space items n first.before)
  where
    by : (o : Option Item) → IsSomeAnd o (λ (x : Item). IsEffect space (object_now (reverse (take n items))) x → ⊥)
        → IfSome o (IsEffect space (object_now (reverse (take n items)))) → ⊥
    by None f h = f
    by (Some x) f h = f h
