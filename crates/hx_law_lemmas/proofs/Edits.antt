-- What edits make of values and objects, and how they fail.
use Rattle.hx_law_lemmas.proofs.Lemmas.Vocabulary.{[], AllZip, and_then, Answer, arith, Atomic, Attribute, changed_to, cond_both, Edit, edit_answered, edit_of}
use Rattle.hx_law_lemmas.proofs.Lemmas.Vocabulary.{edited_from, edited_value, EditFits, EditKind, Effect, effect_of, Err, fits_64, inl, inr, IsEditOf, IsIn}
use Rattle.hx_law_lemmas.proofs.Lemmas.Vocabulary.{IsObjectOf, IsOfKind, IsSomeAnd, Kind, leb-true, left_as, length, length-append, List, LONGEST_TEXT, nat_le}
use Rattle.hx_law_lemmas.proofs.Lemmas.Vocabulary.{None, Ok, Option, refl, Result, slice_get, slice_set, Some, Space, subst, suc, Value, when_some, zero, ℕ}
use Rattle.hx_law_lemmas.proofs.Lemmas.Vocabulary.{◌++◌, ◌+ℤ◌, ◌+◌, ◌-◌, ◌∷◌, ◌≡◌}
use Rattle.hx_types.specs.declared.calls.Answer.TheVariants as an_answer
use Rattle.hx_types.specs.declared.spaces.Kind.TheVariants as a_kind
use Rattle.hx_types.specs.declared.values.EditKind.TheVariants as an_edit
use Rattle.hx_types.specs.declared.values.Value.TheVariants as a_value
use Rattle.hx_law_lemmas.proofs.Lists.{when_some_both, zip-set}

-- an edit fails with Overflow or TooLong alone
abbrev pub IsFailure : Answer → Type 0
IsFailure an_answer.Overflow = Unit {0}
IsFailure an_answer.TooLong = Unit {0}
IsFailure other = ⊥

-- what is made has the property; else an edit failed
abbrev pub MadeWith : {A : Type 0} → (A → Type 0) → Result A Answer → Type 0
MadeWith P (Ok x) = P x
MadeWith P (Err answer) = IsFailure answer

pub and_then-made : {A B : Type 0} (P : A → Type 0) (Q : B → Type 0) (made : Result A Answer) (f : A → Result B Answer) → MadeWith P made
    → ((x : A) → P x → MadeWith Q (f x)) → MadeWith Q (and_then made f)
and_then-made P Q (Ok x) f h g = g x h
and_then-made P Q (Err answer) f h g = h

-- a value of a kind, edited by another of the kind, is of the kind
value-made : (kind : Kind) (what : EditKind) (old by : Value) → IsOfKind kind old → IsOfKind kind by → MadeWith (IsOfKind kind) (edited_value what old by)
value-made a_kind.Text an_edit.Append (a_value.Text old) (a_value.Text new) h k =
    cond_both (nat_le (length old + length new) LONGEST_TEXT) (Ok (a_value.Text (old ++ new))) (Err an_answer.TooLong) (MadeWith (IsOfKind a_kind.Text))
    (λ t. omega (arith, length-append old new, leb-true (length old + length new) LONGEST_TEXT t))
    (λ t. tt)
value-made a_kind.Text an_edit.Append (a_value.Text old) (a_value.Int i) h k = absurd k
value-made a_kind.Text what (a_value.Text old) by h k = h
value-made a_kind.Text what (a_value.Int v) by h k = absurd h
value-made (a_kind.Int lo hi) an_edit.Add (a_value.Int v) (a_value.Int i) h k =
    cond_both (fits_64 (v +ℤ i)) (Ok (a_value.Int (v +ℤ i))) (Err an_answer.Overflow) (MadeWith (IsOfKind (a_kind.Int lo hi))) (λ t. tt) (λ t. tt)
value-made (a_kind.Int lo hi) what (a_value.Int v) (a_value.Int i) h k = tt
value-made (a_kind.Int lo hi) what (a_value.Int v) (a_value.Text new) h k = absurd k
value-made (a_kind.Int lo hi) what (a_value.Text old) by h k = absurd h

-- the items of two lists at a place are related as the lists are
zip-at : {A B : Type 0} (R : A → B → Type 0) (xs : List A) (ys : List B) (i : ℕ) (x : A) (y : B) → AllZip R xs ys
    → slice_get xs i ≡ Some x → slice_get ys i ≡ Some y → R x y
zip-at R [] ys i x y z e f = absurd (cc)
zip-at R (a ∷ xs) [] i x y z e f = absurd z
zip-at R (a ∷ xs) (b ∷ ys) zero x y z e f = let p : a ≡ x = cc in let q : b ≡ y = cc in subst (R x) q (subst (λ w. R w b) p z.0)
zip-at R (a ∷ xs) (b ∷ ys) (suc i) x y z e f = zip-at R xs ys i x y z.1 e f

-- what an edit that fits makes of an object's value is of the attribute's kind
edit-made : (space : Space) (old : List Value) (e : Edit) → IsObjectOf space old → EditFits space e
    → MadeWith (λ (v : Value). (declared : Attribute) → slice_get space.attributes (e.attribute - 1) ≡ Some declared → IsOfKind declared.kind v) (edit_of old e)
edit-made space old e h f = by (slice_get space.attributes (e.attribute - 1)) refl f.1 (slice_get old (e.attribute - 1)) refl
  where
    Made : Value → Type 0
    Made v = (declared : Attribute) → slice_get space.attributes (e.attribute - 1) ≡ Some declared → IsOfKind declared.kind v

    by : (a : Option Attribute) → slice_get space.attributes (e.attribute - 1) ≡ a
        → IsSomeAnd a (λ (declared : Attribute). IsEditOf e.what declared.kind × IsOfKind declared.kind e.value)
        → (o : Option Value) → slice_get old (e.attribute - 1) ≡ o
        → MadeWith Made (when_some o (Ok e.value) (λ (v : Value). edited_value e.what v e.value))
    by None p fits o q = absurd fits
    by (Some declared) p fits None q = λ d r. let same : declared ≡ d = cc in subst (λ (x : Attribute). IsOfKind x.kind e.value) same fits.1
    by (Some declared) p fits (Some v) q =
        for_all (edited_value e.what v e.value)
        (value-made declared.kind e.what v e.value (zip-at
        (λ (a : Attribute) (w : Value). IsOfKind a.kind w) space.attributes old (e.attribute - 1) declared v h p q) fits.1)
      where
        for_all : (made : Result Value Answer) → MadeWith (IsOfKind declared.kind) made → MadeWith Made made
        for_all (Ok w) k = λ d r. let same : declared ≡ d = cc in subst (λ (x : Attribute). IsOfKind x.kind w) same k
        for_all (Err answer) k = k

-- edits that fit keep an object of the space
pub edits-object : (space : Space) (old object : List Value) (edits : List Edit) → IsObjectOf space old → IsObjectOf space object
    → ((e : Edit) → IsIn e edits → EditFits space e) → MadeWith (IsObjectOf space) (edited_from old object edits)
edits-object space old object [] h k f = k
edits-object space old object (e ∷ rest) h k f =
    and_then-made (λ (v : Value). (declared : Attribute)
    → slice_get space.attributes (e.attribute - 1) ≡ Some declared → IsOfKind declared.kind v) (IsObjectOf space)
    (edit_of old e) (λ (v : Value). edited_from old (slice_set object (e.attribute - 1) v) rest) (edit-made space old e h (f e (inl refl)))
    (λ v m.
    edits-object space old (slice_set object (e.attribute - 1) v) rest h
    (zip-set (λ (a : Attribute) (w : Value). IsOfKind a.kind w) space.attributes object (e.attribute - 1) v k m) (λ d i. f d (inr i)))

-- any value is edited, or the edit failed
value-fails : (what : EditKind) (old by : Value) → MadeWith (λ (v : Value). Unit {0}) (edited_value what old by)
value-fails an_edit.Add (a_value.Int v) (a_value.Int i) =
    cond_both (fits_64 (v +ℤ i)) (Ok (a_value.Int (v +ℤ i))) (Err an_answer.Overflow) (MadeWith (λ (w : Value). Unit {0})) (λ t. tt) (λ t. tt)
value-fails an_edit.Append (a_value.Text old) (a_value.Text new) =
    cond_both (nat_le (length old + length new) LONGEST_TEXT) (Ok (a_value.Text (old ++ new))) (Err an_answer.TooLong)
    (MadeWith (λ (w : Value). Unit {0})) (λ t. tt) (λ t. tt)
value-fails an_edit.Add (a_value.Int v) (a_value.Text new) = tt
value-fails an_edit.Add (a_value.Text old) by = tt
value-fails an_edit.Append (a_value.Text old) (a_value.Int i) = tt
value-fails an_edit.Append (a_value.Int v) by = tt
value-fails an_edit.Min (a_value.Int v) (a_value.Int i) = tt
value-fails an_edit.Min (a_value.Int v) (a_value.Text new) = tt
value-fails an_edit.Min (a_value.Text old) by = tt
value-fails an_edit.Max (a_value.Int v) (a_value.Int i) = tt
value-fails an_edit.Max (a_value.Int v) (a_value.Text new) = tt
value-fails an_edit.Max (a_value.Text old) by = tt

-- any object is edited, or an edit failed
pub edits-fail : (old object : List Value) (edits : List Edit) → MadeWith (λ (o : List Value). Unit {0}) (edited_from old object edits)
edits-fail old object [] = tt
edits-fail old object (e ∷ rest) =
    and_then-made (λ (v : Value). Unit {0}) (λ (o : List Value). Unit {0}) (edit_of old e)
    (λ (v : Value). edited_from old (slice_set object (e.attribute - 1) v) rest)
    (when_some_both (slice_get old (e.attribute - 1)) (Ok e.value) (λ (v : Value). edited_value e.what v e.value) (MadeWith (λ (v : Value). Unit {0})) (λ q. tt)
    (λ v q. value-fails e.what v e.value))
    (λ v m. edits-fail old (slice_set object (e.attribute - 1) v) rest)

-- what holds of an object that is changed and of one that is left with Overflow or TooLong holds of the effect of edits
pub edited-both : (P : Effect → Type 0) (Q : List Value → Type 0) (old : List Value) (made : Result (List Value) Answer) → MadeWith Q made
    → ((object : List Value) → Q object → P (changed_to (Some object))) → P (left_as (Some old) an_answer.Overflow) → P (left_as (Some old) an_answer.TooLong)
    → P (edit_answered old made)
edited-both P Q old (Ok object) h done overflow long = done object h
edited-both P Q old (Err an_answer.Overflow) h done overflow long = overflow
edited-both P Q old (Err an_answer.TooLong) h done overflow long = long
edited-both P Q old (Err other) h done overflow long = absurd h

-- so what holds of an effect that changes an object, and of one that leaves it with one of the three answers, holds of an atomic operation's
pub atomic-both : (P : Effect → Type 0) (space : Space) (old : Option (List Value)) (key : List ℕ) (edits : List Edit)
    → ((object : List Value) → P (changed_to (Some object))) → P (left_as None an_answer.NotFound)
    → ((object : List Value) → P (left_as (Some object) an_answer.Overflow)) → ((object : List Value) → P (left_as (Some object) an_answer.TooLong))
    → P (effect_of space old (Atomic key edits))
atomic-both P space None key edits done absent overflow long = absent
atomic-both P space (Some old) key edits done absent overflow long =
    edited-both P (λ (o : List Value). Unit {0}) old (edited_from old old edits) (edits-fail old old edits) (λ object h. done object) (overflow old) (long old)
