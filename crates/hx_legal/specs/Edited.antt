-- What edits make of an object, or which of them can't be made, in the parts by which an item is compared with it.
use Rattle.std.specs.Prelude.{ℕ, ◌-◌, ◌+ℤ◌, ◌++◌, Bool, ◌==◌, List, [], ◌∷◌, map, slice_get, Option, None, Some, Result, Ok, Err}
use Rattle.hx_model.specs.Types.{Answer, Assign, Edit, EditKind, Value}
use Rattle.hx_types.specs.declared.calls.Answer.TheVariants as an_answer
use Rattle.hx_types.specs.declared.values.EditKind.TheVariants as an_edit
use Rattle.hx_types.specs.declared.values.Value.TheVariants as a_value
use Rattle.hx_types.specs.Effects.{edit_of, greater, lesser}
use Rattle.hx_types.specs.Words.{when_some}
use Rattle.hx_legal.specs.declared.edits.Refusal.{Refusal}
use Rattle.hx_legal.specs.declared.edits.Refusal.TheVariants as a_refusal

-- how a call is answered of which an edit can't be made
abbrev pub answer_of : Refusal → Answer
answer_of a_refusal.Overflow = an_answer.Overflow
answer_of a_refusal.TooLong = an_answer.TooLong

-- the answer in place of a result
abbrev pub refused : {A : Type 0} → Result A Answer → Option Answer
refused (Ok x) = None
refused (Err answer) = Some answer

-- the answer of the first edit that can't be made
abbrev pub first_refused : List Value → List Edit → Option Answer
first_refused old [] = None
first_refused old (e ∷ rest) = when_some (refused (edit_of old e)) (first_refused old rest) (λ (a : Answer). Some a)

-- a value edited by another, whether or not the result has room
abbrev pub result_value : EditKind → Value → Value → Value
result_value an_edit.Add (a_value.Int v) (a_value.Int i) = a_value.Int (v +ℤ i)
result_value an_edit.Append (a_value.Text old) (a_value.Text new) = a_value.Text (old ++ new)
result_value an_edit.Min (a_value.Int v) (a_value.Int i) = a_value.Int (lesser v i)
result_value an_edit.Max (a_value.Int v) (a_value.Int i) = a_value.Int (greater v i)
result_value what old by = old

-- the same of an edit of an object
abbrev pub result_of : List Value → Edit → Value
result_of old e = when_some (slice_get old (e.attribute - 1)) e.value (λ (v : Value). result_value e.what v e.value)

-- the assignment of an edit's result
abbrev pub assigned : List Value → Edit → Assign
assigned old e = record { attribute = e.attribute; value = result_of old e }

-- the edits as assignments
abbrev pub results_of : List Value → List Edit → List Assign
results_of old edits = map (assigned old) edits

-- the edit is of the value at the place
abbrev pub edits_at : ℕ → Edit → Bool
edits_at place e = (e.attribute - 1) == place
