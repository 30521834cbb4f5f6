-- Lines of a report, computed: those of a put and of a search on a space with one attribute.
use Rattle.std.proofs.Common.{◌≡◌, ℕ, true, false, [], ◌∷◌, None, Some, refl, arith}
use Rattle.std.specs.Prelude.{codes}
use Rattle.std.proofs.lemmas.Fmt.{decimal_digit}
use Rattle.hx_types.specs.declared.calls.Answer.TheVariants as an_answer
use Rattle.hx_model.specs.Types.{Caller, Row, Space}
use Rattle.hx_types.specs.declared.calls.Op.TheVariants as ops
use Rattle.hx_types.specs.declared.spaces.Kind.TheVariants as a_kind
use Rattle.hx_types.specs.declared.values.Value.TheVariants as a_value
use Rattle.hx_print.specs.Printing.{caller_text, named_text, numbers_text, next_number_text, op_text, quoted, value_text}
use Rattle.hx_report.specs.Reporting.{answer_lines, end_text, maybe_answer_lines, object_text, row_line, rows_lines, state_text, version_text}
use Rattle.hx_report_lines.specs.declared.calls.CallLine.{CallLine}
use Rattle.hx_report_lines.specs.declared.epochs.EpochLine.{EpochLine}
use Rattle.hx_report_lines.specs.declared.histories.HistoryLines.{HistoryLines}
use Rattle.hx_report_lines.specs.declared.histories.ItemLine.{ItemLine}
use Rattle.hx_report_lines.specs.declared.histories.ItemWord.TheVariants as words
use Rattle.hx_report_lines.specs.Printed.{call_text, called_text, epoch_text, history_text, item_head, item_text, key_text, lost_text, servers_text, span_text}
use Rattle.hx_report_lines.specs.Values.{caller_below, has_end, names_version}

abbrev one : Space
one = record {
  name = codes "one";
  key_name = codes "k";
  key_parts = 1;
  attributes = record { name = codes "v"; kind = a_kind.Text } ∷ [];
  subspaces = [];
  servers = 1;
  tolerate = 0;
}

abbrev caller : ℕ → ℕ → Caller
caller s n = record { session = record { 0 = s }; number = n }

abbrev found_row : Row
found_row = record { key = codes "a"; version = record { 0 = 1 }; object = a_value.Text (codes "x") ∷ [] }

abbrev searched : CallLine
searched = record {
  caller = caller 1 2;
  begin = 4;
  end = Some 6;
  op = ops.Search [];
  version = record { 0 = 0 };
  answer = Some (an_answer.Rows (found_row ∷ []));
}

search_lines : call_text one searched ≡ codes "call u1.2 begin 4 end 6 search -> rows 1\nrow \"a\" version 1 v=\"x\"\n"
unfolding call_text called_text span_text caller_text end_text op_text maybe_answer_lines answer_lines rows_lines
    row_line version_text object_text named_text value_text quoted
search_lines = rw (decimal_digit 1 (omega arith), decimal_digit 2 (omega arith), decimal_digit 4 (omega arith), decimal_digit 6 (omega arith)) refl

abbrev opened : CallLine
opened = record { caller = caller 1 1; begin = 1; end = None; op = ops.Get (codes "a"); version = record { 0 = 0 }; answer = None }

open_line : call_text one opened ≡ codes "call u1.1 begin 1 end - get \"a\" -> open\n"
unfolding call_text called_text span_text caller_text end_text op_text maybe_answer_lines quoted
open_line = rw (decimal_digit 1 (omega arith)) refl

abbrev put_item : ItemLine
put_item = record { version = record { 0 = 1 }; caller = caller 1 1; word = words.Done; object = Some (a_value.Text (codes "x") ∷ []) }

abbrev history : HistoryLines
history = record { key = codes "a"; items = put_item ∷ [] }

history_lines : history_text one history ≡ codes "history \"a\"\nitem 1 u1.1 done present v=\"x\"\n"
unfolding history_text key_text item_text item_head caller_text state_text object_text named_text value_text quoted
history_lines = rw (decimal_digit 1 (omega arith)) refl

abbrev epoch : EpochLine
epoch = record { epoch = record { 0 = 2 }; servers = record { 0 = 1 } ∷ record { 0 = 3 } ∷ []; lost = [] }

epoch_line : epoch_text epoch ≡ codes "epoch 2 servers 1,3 lost -\n"
unfolding epoch_text servers_text lost_text numbers_text next_number_text
epoch_line = rw (decimal_digit 1 (omega arith), decimal_digit 2 (omega arith), decimal_digit 3 (omega arith)) refl

-- callers ascend by session, then by number
by_number : caller_below (caller 1 9) (caller 1 10) ≡ true
by_number = refl

by_session : caller_below (caller 1 9) (caller 2 1) ≡ true
by_session = refl

not_itself : caller_below (caller 1 1) (caller 1 1) ≡ false
not_itself = refl

-- a call in doubt has no end, and names no version
doubt_has_no_end : has_end (Some (an_answer.Doubt (record { 0 = 0 }) (record { 0 = 1 }))) ≡ false
doubt_has_no_end = refl

not_found_names_one : names_version an_answer.NotFound ≡ true
not_found_names_one = refl
