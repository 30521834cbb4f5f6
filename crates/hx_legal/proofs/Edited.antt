-- Edits that can be made are assignments of their results, and the first that can't be answers for all.
use Rattle.std.proofs.Common.{◌≡◌, ℕ, ℤ, ◌-◌, ◌+◌, ◌++◌, Bool, true, false, cond, List, [], ◌∷◌, length, map, take}
use Rattle.std.proofs.Common.{drop, reverse, Option, Some, None, refl, sym, ap, ◌∙◌}
use Rattle.std.specs.Prelude.{◌+ℤ◌, nat_le, slice_get, slice_set, Result, Ok, Err}
use Rattle.std.specs.List.{find}
use Rattle.std.specs.Option.{option_map}
use Rattle.std.proofs.lemmas.List.{map-append, reverse-append, take-append-drop}
use Rattle.hx_model.specs.Types.{Answer, Assign, Edit, EditKind, Value}
use Rattle.hx_types.specs.declared.calls.Answer.TheVariants as an_answer
use Rattle.hx_types.specs.declared.values.EditKind.TheVariants as an_edit
use Rattle.hx_types.specs.declared.values.Value.TheVariants as a_value
use Rattle.hx_types.specs.declared.limits.TheConstants.{LONGEST_TEXT}
use Rattle.hx_types.specs.Effects.{and_then, changed_to, edit_answered, edit_of, edited, edited_from, edited_value, fits_64, left_as, written}
use Rattle.hx_types.specs.Words.{when_some}
use Rattle.hx_legal.specs.Edited.{assigned, edits_at, first_refused, refused, result_of, result_value, results_of}
use Rattle.hx_legal.specs.Shown.{value_after, writes_at}

-- ---- what edits make

-- a result, or the answer in its place
abbrev unless : {A : Type 0} → Option Answer → A → Result A Answer
unless None x = Ok x
unless (Some answer) x = Err answer

added_is : (v i : ℤ) (b : Bool) → let sum : Result Value Answer =
    cond b (Ok (a_value.Int (v +ℤ i))) (Err an_answer.Overflow) in sum ≡ unless (refused sum) (a_value.Int (v +ℤ i))
added_is v i true = refl
added_is v i false = refl

appended_is : (x : Value) (b : Bool) → let text : Result Value Answer = cond b (Ok x) (Err an_answer.TooLong) in text ≡ unless (refused text) x
appended_is x true = refl
appended_is x false = refl

value_is : (what : EditKind) (old by : Value) → edited_value what old by ≡ unless (refused (edited_value what old by)) (result_value what old by)
value_is an_edit.Add (a_value.Int v) (a_value.Int i) = added_is v i (fits_64 (v +ℤ i))
value_is an_edit.Append (a_value.Text old) (a_value.Text new) = appended_is (a_value.Text (old ++ new)) (nat_le (length old + length new) LONGEST_TEXT)
value_is an_edit.Min (a_value.Int v) (a_value.Int i) = refl
value_is an_edit.Max (a_value.Int v) (a_value.Int i) = refl
value_is what old by = refl

edit_is : (old : List Value) (e : Edit) → edit_of old e ≡ unless (refused (edit_of old e)) (result_of old e)
edit_is old e = by (slice_get old (e.attribute - 1))
  where
    by : (o : Option Value)
        → let made : Result Value Answer = when_some o (Ok e.value) (λ (v : Value). edited_value e.what v e.value) in
        made ≡ unless (refused made) (when_some o e.value (λ (v : Value). result_value e.what v e.value))
    by None = refl
    by (Some v) = value_is e.what v e.value

edits_are : (old object : List Value) (edits : List Edit)
    → edited_from old object edits ≡ unless (first_refused old edits) (written object (results_of old edits))
edits_are old object [] = refl
edits_are old object (e ∷ rest) =
    ap (λ (made : Result Value Answer). and_then made next) (edit_is old e)
    ∙ by (refused (edit_of old e)) (edits_are old (slice_set object (e.attribute - 1) (result_of old e)) rest)
  where
    next : Value → Result (List Value) Answer
    next v = edited_from old (slice_set object (e.attribute - 1) v) rest

    by : (o : Option Answer) → next (result_of old e) ≡ unless (first_refused old rest) (written object (results_of old (e ∷ rest)))
        → and_then (unless o (result_of old e)) next ≡ unless
        (when_some o (first_refused old rest) (λ (a : Answer). Some a)) (written object (results_of old (e ∷ rest)))
    by None more = more
    by (Some answer) more = refl

pub edited_refused : (old : List Value) (edits : List Edit) (answer : Answer) → first_refused old edits ≡ Some answer
    → edited (Some old) edits ≡ left_as (Some old) answer
edited_refused old edits answer e =
    ap (edit_answered old) (edits_are old old edits ∙ ap (λ (o : Option Answer). unless o (written old (results_of old edits))) e)

pub edited_made : (old : List Value) (edits : List Edit) → first_refused old edits ≡ None
    → edited (Some old) edits ≡ changed_to (Some (written old (results_of old edits)))
edited_made old edits e =
    ap (edit_answered old) (edits_are old old edits ∙ ap (λ (o : Option Answer). unless o (written old (results_of old edits))) e)

-- ---- what stands at a place

find_assigned : (old : List Value) (p : ℕ) (edits : List Edit)
    → find (writes_at p) (map (assigned old) edits) ≡ option_map (assigned old) (find (edits_at p) edits)
find_assigned old p [] = refl
find_assigned old p (e ∷ rest) = by (edits_at p e) (find_assigned old p rest)
  where
    by : (b : Bool) → find (writes_at p) (map (assigned old) rest) ≡ option_map (assigned old) (find (edits_at p) rest)
        → cond b (Some (assigned old e)) (find (writes_at p) (map (assigned old) rest)) ≡ option_map (assigned old) (cond b (Some e) (find (edits_at p) rest))
    by true more = refl
    by false more = more

reverse_assigned : (old : List Value) (edits : List Edit) → reverse (map (assigned old) edits) ≡ map (assigned old) (reverse edits)
reverse_assigned old [] = refl
reverse_assigned old (e ∷ rest) =
    reverse-append (assigned old e ∷ []) (map (assigned old) rest)
    ∙ ap (λ (s : List Assign). s ++ assigned old e ∷ []) (reverse_assigned old rest)
    ∙ sym (map-append (assigned old) (reverse rest) (e ∷ []))
    ∙ ap (map (assigned old)) (sym (reverse-append (e ∷ []) rest))

-- the last edit of the place makes the value, or the old one stays
pub value_after_edits : (old : List Value) (edits : List Edit) (p : ℕ)
    → value_after old (results_of old edits) p ≡ when_some (find (edits_at p) (reverse edits)) (slice_get old p) (λ (e : Edit). Some (result_of old e))
value_after_edits old edits p =
    ap (λ (s : List Assign). when_some (find (writes_at p) s) (slice_get old p) (λ (a : Assign). Some a.value)) (reverse_assigned old edits)
    ∙ ap (λ (o : Option Assign). when_some o (slice_get old p) (λ (a : Assign). Some a.value)) (find_assigned old p (reverse edits))
    ∙ by (find (edits_at p) (reverse edits))
  where
    by : (o : Option Edit) → when_some (option_map (assigned old) o) (slice_get old p) (λ (a : Assign). Some a.value)
        ≡ when_some o (slice_get old p) (λ (e : Edit). Some (result_of old e))
    by None = refl
    by (Some e) = refl

-- ---- texts of two parts

pub from_parts : {A : Type 0} (first other all : List A) → take (length first) all ≡ first → drop (length first) all ≡ other → first ++ other ≡ all
from_parts first other all a b = ap (λ xs. xs ++ other) (sym a) ∙ ap (λ xs. take (length first) all ++ xs) (sym b) ∙ take-append-drop (length first) all

pub first_part : {A : Type 0} (first other all : List A) → first ++ other ≡ all → take (length first) all ≡ first
first_part {A = A} first other all e = ap (take (length first)) (sym e) ∙ by first
  where
    by : (xs : List A) → take (length xs) (xs ++ other) ≡ xs
    by [] = refl
    by (x ∷ xs) = ap (λ rest. x ∷ rest) (by xs)

pub other_part : {A : Type 0} (first other all : List A) → first ++ other ≡ all → drop (length first) all ≡ other
other_part {A = A} first other all e = ap (drop (length first)) (sym e) ∙ by first
  where
    by : (xs : List A) → drop (length xs) (xs ++ other) ≡ other
    by [] = refl
    by (x ∷ xs) = by xs
