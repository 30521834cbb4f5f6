-- The items of a history up to a place.
use Rattle.std.proofs.Common.{◌≡◌, ℕ, ◌+◌, ◌<◌, List, [], ◌∷◌, ◌++◌, length, get_or, take, drop, reverse, Option, Some, sym, ap, ◌∙◌, subst}
use Rattle.std.specs.Option.{IsSomeAnd}
use Rattle.std.proofs.lemmas.List.{reverse-append, take-append-drop, take_more}
use Rattle.std.proofs.lemmas.Option.{slice_get-get_or}
use Rattle.hx_model.specs.Types.{Item, Space, Value}
use Rattle.hx_model.specs.Legal.{IsEffect, IsLegal, object_now}
use Rattle.hx_legal.specs.Faults.{IsFirstFault}

-- one more item stands in front, newest first
pub reverse-take_more : {A : Type 0} (xs : List A) (i : ℕ) (x : A) → i < length xs → x ≡ get_or xs i x → reverse (take (i + 1) xs) ≡ x ∷ reverse (take i xs)
reverse-take_more xs i x l is =
    ap reverse (take_more xs i x l) ∙ reverse-append (take i xs) (get_or xs i x ∷ []) ∙ ap (λ (y : _). y ∷ reverse (take i xs)) (sym is)

-- the older items of a legal history are legal
legal_older : (space : Space) (newer older : List Item) → IsLegal space (newer ++ older) → IsLegal space older
legal_older space [] older h = h
legal_older space (x ∷ newer) older h = legal_older space newer older h.1

-- the front of a legal history is legal
pub legal_front : (space : Space) (items : List Item) (n : ℕ) → IsLegal space (reverse items) → IsLegal space (reverse (take n items))
legal_front space items n h =
    legal_older space (reverse (drop n items)) (reverse (take n items))
    (subst (IsLegal space) (ap reverse (sym (take-append-drop n items)) ∙ reverse-append (take n items) (drop n items)) h)

-- an item that is no effect
pub fault_at : (space : Space) (items : List Item) (i : ℕ) (x : Item) → i < length items → x ≡ get_or items i x
    → (before : Option (List Value)) → before ≡ object_now (reverse (take i items))
    → (IsEffect space before x → ⊥) → IsLegal space (reverse (take i items)) → IsFirstFault space items i
fault_at space items i x l is before e none legal = record {
  before = legal;
  fault = subst (λ (o : Option Item). IsSomeAnd o
      (λ (y : Item). IsEffect space (object_now (reverse (take i items))) y → ⊥))
      (ap Some is ∙ sym (slice_get-get_or items i x l))
      (λ effect. none (subst (λ (o : Option (List Value)). IsEffect space o x) (sym e) effect));
}

pub not_legal : (space : Space) (items : List Item) (i : ℕ) (x : Item) → i < length items → x ≡ get_or items i x
    → (before : Option (List Value)) → before ≡ object_now (reverse (take i items))
    → (IsEffect space before x → ⊥) → IsLegal space (reverse items) → ⊥
not_legal space items i x l is before e none legal =
    let front = subst (IsLegal space) (reverse-take_more items i x l is) (legal_front space items (i + 1) legal) in
    none (subst (λ (o : Option (List Value)). IsEffect space o x) (sym e) front.0)
