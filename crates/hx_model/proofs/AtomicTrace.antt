-- Atomic operations on a counter: a sum that is no number of 64 bits changes nothing, and all edits of the next one are made.
use Rattle.std.specs.Prelude.{◌≡◌, ℕ, ℤ, List, [], ◌∷◌, length, pos, Option, None, Some, codes}
use Rattle.hx_model.specs.Types.{Answer, Atomic, Entry, Item, Op, Put, Record, Script, Space, Value}
use Rattle.hx_types.specs.declared.calls.Answer.TheVariants as an_answer
use Rattle.hx_types.specs.declared.spaces.Kind.TheVariants as a_kind
use Rattle.hx_types.specs.declared.values.EditKind.TheVariants as an_edit
use Rattle.hx_types.specs.declared.values.Value.TheVariants as a_value
use Rattle.hx_model.specs.Histories.{history_of, records_of}
use Rattle.hx_model.specs.Schedule.{next_entry, scheduled, stepped}
use Rattle.std.proofs.Common.{refl}

abbrev pub one : Space
one =
    record {
      name = codes "one";
      key_name = codes "k";
      key_parts = 1;
      attributes = record { name = codes "v"; kind = a_kind.Text } ∷ record { name = codes "n"; kind = a_kind.Int (pos 0) (pos 9) } ∷ [];
      subspaces = [];
      servers = 1;
      tolerate = 0;
    }

abbrev pub greatest_put : Op
greatest_put = Put (codes "a") (record { attribute = 2; value = a_value.Int (pos 9223372036854775807) } ∷ [])

abbrev pub one_added : Op
one_added = Atomic (codes "a") (record { what = an_edit.Add; attribute = 2; value = a_value.Int (pos 1) } ∷ [])

abbrev pub both_edited : Op
both_edited =
    Atomic (codes "a")
    (record { what = an_edit.Min; attribute = 2; value = a_value.Int (pos 5) }
    ∷ record { what = an_edit.Append; attribute = 1; value = a_value.Text (codes "x") }
    ∷ [])

abbrev pub absent_edited : Op
absent_edited = Atomic (codes "b") (record { what = an_edit.Max; attribute = 2; value = a_value.Int (pos 3) } ∷ [])

abbrev pub script : Script
script = record { space = one; sessions = (greatest_put ∷ one_added ∷ both_edited ∷ absent_edited ∷ []) ∷ []; steps = [] }

abbrev pub after_steps : List Entry
after_steps = stepped script [] []

abbrev pub trace : List Entry
trace = scheduled script after_steps 12

its_length : length trace ≡ 12
its_length = refl

its_end : next_entry script trace ≡ None
its_end = refl

-- a call of session 1 that ended
abbrev ended : ℕ → ℕ → ℕ → ℕ → Answer → Record
ended number begin end version answer =
    record {
      caller = record { session = record { 0 = 1 }; number = number };
      begin = begin;
      end = Some end;
      version = record { 0 = version };
      answer = Some answer;
    }

its_records : records_of script trace
    ≡ (ended 1 1 3 1 an_answer.Done
    ∷ ended 2 4 6 2 an_answer.Overflow
    ∷ ended 3 7 9 3 an_answer.Done
    ∷ ended 4 10 12 1 an_answer.NotFound
    ∷ [])
its_records = refl

-- an update of session 1 in a key's history
abbrev stands : ℕ → ℕ → Op → Answer → Option (List Value) → Item
stands version number op answer object =
    record {
      version = record { 0 = version };
      caller = record { session = record { 0 = 1 }; number = number };
      op = op;
      answer = answer;
      object = object;
    }

abbrev object : List ℕ → ℤ → List Value
object v n = a_value.Text v ∷ a_value.Int n ∷ []

pub its_history : history_of script (codes "a") trace
    ≡ (stands 3 3 both_edited an_answer.Done (Some (object (codes "x") (pos 5)))
    ∷ stands 2 2 one_added an_answer.Overflow (Some (object [] (pos 9223372036854775807)))
    ∷ stands 1 1 greatest_put an_answer.Done (Some (object [] (pos 9223372036854775807)))
    ∷ [])
its_history = refl

its_other_history : history_of script (codes "b") trace ≡ (stands 1 4 absent_edited an_answer.NotFound None ∷ [])
its_other_history = refl
