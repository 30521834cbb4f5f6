-- Whole reports, by computing.
use Rattle.std.specs.Prelude.{◌≡◌, ℕ, false, List, [], ◌∷◌, ◌++◌, drop, reverse, codes, pos}
use Rattle.std.specs.List.{flat_map}
use Rattle.std.specs.Fmt.{digits}
use Rattle.hx_model.specs.Types.{Entry, Get, Put, Row, Script, Space}
use Rattle.hx_types.specs.declared.spaces.Kind.TheVariants as a_kind
use Rattle.hx_types.specs.declared.values.Value.TheVariants as a_value
use Rattle.hx_types.specs.declared.calls.Answer.TheVariants as an_answer
use Rattle.hx_model.specs.Histories.{history_of, records_of}
use Rattle.hx_model.specs.Schedule.{scheduled}
use Rattle.hx_model.proofs.Lemmas.{books}
use Rattle.hx_model.proofs.Lemmas as model
use Rattle.hx_history.specs.declared.key_histories.KeyHistory.{KeyHistory}
use Rattle.hx_print.specs.Printing.{add_text, axes_text, axis_text, bounds_text, caller_text, cput_text, int_line}
use Rattle.hx_print.specs.Printing.{key_line, named_text, next_axis_text, next_number_text, numbers_text, op_text}
use Rattle.hx_print.specs.Printing.{quoted, range_text, servers_line, space_line, space_text, string_line}
use Rattle.hx_print.specs.Printing.{subspace_line, tolerate_line, value_text}
use Rattle.hx_report.specs.Reporting.{answer_lines, called_text, end_text, epoch_line, epochs_text, found_line}
use Rattle.hx_report.specs.Reporting.{head_text, history_lines, in_epoch_line, item_line, item_text, lost_text}
use Rattle.hx_report.specs.Reporting.{maybe_answer_lines, note_lines, object_text, record_lines, region_line}
use Rattle.hx_report.specs.Reporting.{report_text, row_line, rows_lines, servers_text, span_text, state_text}
use Rattle.hx_report.specs.Reporting.{version_line, version_text, word_of}
use Rattle.hx_report.specs.Driving.{drivers_text}
use Rattle.hx_report.specs.Tracing.{trace_text}
use Rattle.std.proofs.Common.{refl}

abbrev pub book_row : List ℕ → ℕ → ℕ → Row
book_row key version year = record { key = key; version = record { 0 = version }; object = a_value.Text (codes "g") ∷ a_value.Int (pos year) ∷ [] }

-- the history of the key a alone
abbrev pub listed_a : Script → List Entry → List KeyHistory
listed_a script trace = record { key = codes "a"; items = reverse (history_of script (codes "a") trace) } ∷ []

abbrev pub space_books : List ℕ
space_books = codes "space books\nkey name 2\nstring genre\nint year 1900 2099\nsubspace genre 4\nsubspace year 2\nservers 4\ntolerate 1\n"

abbrev pub one : Space
one =
    record {
      name = codes "one";
      key_name = codes "k";
      key_parts = 1;
      attributes = record { name = codes "v"; kind = a_kind.Text } ∷ [];
      subspaces = [];
      servers = 1;
      tolerate = 0;
    }

abbrev pub put_and_get : Script
put_and_get =
    record {
      space = one;
      sessions = (Put (codes "a") (record { attribute = 1; value = a_value.Text (codes "x") } ∷ []) ∷ Get (codes "a") ∷ []) ∷ [];
      steps = [];
    }

-- no session
no_calls :
    report_text (record { space = books; sessions = []; steps = [] }) [] [] [] false
    ≡ codes "report 1\n" ++ space_books ++ codes "epoch 1 servers 1,2,3,4 lost -\nend\n"
unfolding digits add_text axes_text axis_text bounds_text cput_text int_line key_line named_text next_axis_text
    op_text quoted range_text servers_line space_line space_text string_line subspace_line tolerate_line value_text
    answer_lines called_text caller_text end_text epoch_line epochs_text found_line head_text history_lines
    in_epoch_line item_line item_text lost_text maybe_answer_lines next_number_text note_lines numbers_text
    object_text record_lines region_line report_text row_line rows_lines servers_text span_text state_text trace_text
    drivers_text version_line version_text word_of
no_calls = refl

-- one server, a put and a get
one_server :
    report_text put_and_get (scheduled put_and_get [] 6) (listed_a put_and_get (scheduled put_and_get [] 6)) [] false
    ≡ codes "report 1\nspace one\nkey k 1\nstring v\nservers 1\ntolerate 0\ncall u1.1 begin 1 end 3 put \"a\" v=\"x\" -> done version 1\ncall u1.2 begin 4 end 6 get \"a\" -> found version 1 v=\"x\"\nhistory \"a\"\nitem 1 u1.1 done present v=\"x\"\nitem 1 u1.2 found present v=\"x\"\nepoch 1 servers 1 lost -\nend\n"
unfolding digits add_text axes_text axis_text bounds_text cput_text int_line key_line named_text next_axis_text
    op_text quoted range_text servers_line space_line space_text string_line subspace_line tolerate_line value_text
    answer_lines called_text caller_text end_text epoch_line epochs_text found_line head_text history_lines
    in_epoch_line item_line item_text lost_text maybe_answer_lines next_number_text note_lines numbers_text
    object_text record_lines region_line report_text row_line rows_lines servers_text span_text state_text trace_text
    drivers_text version_line version_text word_of
one_server = refl

-- a put and a get along a chain
chain :
    report_text model.get_after_put_script model.get_after_put_trace (listed_a model.get_after_put_script model.get_after_put_trace) [] false
    ≡ codes "report 1\n" ++ space_books ++ codes "call u1.1 begin 1 end 13 put \"a\" genre=\"b\" year=1999 -> done version 1\ncall u1.2 begin 14 end 16 get \"a\" -> found version 1 genre=\"b\" year=1999\nhistory \"a\"\nitem 1 u1.1 done present genre=\"b\" year=1999\nitem 1 u1.2 found present genre=\"b\" year=1999\nepoch 1 servers 1,2,3,4 lost -\nend\n"
unfolding digits add_text axes_text axis_text bounds_text cput_text int_line key_line named_text next_axis_text
    op_text quoted range_text servers_line space_line space_text string_line subspace_line tolerate_line value_text
    answer_lines called_text caller_text end_text epoch_line epochs_text found_line head_text history_lines
    in_epoch_line item_line item_text lost_text maybe_answer_lines next_number_text note_lines numbers_text
    object_text record_lines region_line report_text row_line rows_lines servers_text span_text state_text trace_text
    drivers_text version_line version_text word_of
chain = refl

-- the same, before the get is answered
open_get :
    report_text model.get_after_put_script (scheduled model.get_after_put_script [] 14)
    (listed_a model.get_after_put_script (scheduled model.get_after_put_script [] 14)) [] false
    ≡ codes "report 1\n" ++ space_books ++ codes "call u1.1 begin 1 end 13 put \"a\" genre=\"b\" year=1999 -> done version 1\ncall u1.2 begin 14 end - get \"a\" -> open\nhistory \"a\"\nitem 1 u1.1 done present genre=\"b\" year=1999\nepoch 1 servers 1,2,3,4 lost -\nend\n"
unfolding digits add_text axes_text axis_text bounds_text cput_text int_line key_line named_text next_axis_text
    op_text quoted range_text servers_line space_line space_text string_line subspace_line tolerate_line value_text
    answer_lines called_text caller_text end_text epoch_line epochs_text found_line head_text history_lines
    in_epoch_line item_line item_text lost_text maybe_answer_lines next_number_text note_lines numbers_text
    object_text record_lines region_line report_text row_line rows_lines servers_text span_text state_text trace_text
    drivers_text version_line version_text word_of
open_get = refl

-- a conditional put of an object that isn't there
absent :
    report_text model.absent_cput_script model.absent_cput_trace (listed_a model.absent_cput_script model.absent_cput_trace) [] false
    ≡ codes "report 1\n" ++ space_books ++ codes "call u1.1 begin 1 end 5 cput \"a\" if genre=\"b\" set year=2000 -> notfound version 1\nhistory \"a\"\nitem 1 u1.1 notfound absent\nepoch 1 servers 1,2,3,4 lost -\nend\n"
unfolding digits add_text axes_text axis_text bounds_text cput_text int_line key_line named_text next_axis_text
    op_text quoted range_text servers_line space_line space_text string_line subspace_line tolerate_line value_text
    answer_lines called_text caller_text end_text epoch_line epochs_text found_line head_text history_lines
    in_epoch_line item_line item_text lost_text maybe_answer_lines next_number_text note_lines numbers_text
    object_text record_lines region_line report_text row_line rows_lines servers_text span_text state_text trace_text
    drivers_text version_line version_text word_of
absent = refl

-- a search, and its row
search :
    flat_map (record_lines model.search_of_two_regions_script) (drop 2 (records_of model.search_of_two_regions_script model.search_of_two_regions_trace))
    ≡ codes "call u2.1 begin 24 end 29 search year=1990..2010 -> rows 1\nrow \"a\" version 2 genre=\"b\" year=2000\n"
unfolding digits add_text axes_text axis_text bounds_text cput_text int_line key_line named_text next_axis_text
    op_text quoted range_text servers_line space_line space_text string_line subspace_line tolerate_line value_text
    answer_lines called_text caller_text end_text epoch_line epochs_text found_line head_text history_lines
    in_epoch_line item_line item_text lost_text maybe_answer_lines next_number_text note_lines numbers_text
    object_text record_lines region_line report_text row_line rows_lines servers_text span_text state_text trace_text
    drivers_text version_line version_text word_of
search = refl

-- two rows
two_rows :
    answer_lines books (record { 0 = 0 }) (an_answer.Rows (book_row (codes "a") 2 1999 ∷ book_row (codes "b\"") 1 2000 ∷ []))
    ≡ codes "rows 2\nrow \"a\" version 2 genre=\"g\" year=1999\nrow \"b\\\"\" version 1 genre=\"g\" year=2000\n"
unfolding digits add_text axes_text axis_text bounds_text cput_text int_line key_line named_text next_axis_text
    op_text quoted range_text servers_line space_line space_text string_line subspace_line tolerate_line value_text
    answer_lines called_text caller_text end_text epoch_line epochs_text found_line head_text history_lines
    in_epoch_line item_line item_text lost_text maybe_answer_lines next_number_text note_lines numbers_text
    object_text record_lines region_line report_text row_line rows_lines servers_text span_text state_text trace_text
    drivers_text version_line version_text word_of
two_rows = refl

-- two servers are stopped
stops :
    report_text model.two_stops_script model.two_stops_trace (listed_a model.two_stops_script model.two_stops_trace) [] false
    ≡ codes "report 1\n" ++ space_books ++ codes "call u1.1 begin 1 end 9 stop 3 -> issued epoch 2\ncall u1.2 begin 10 end 17 stop 4 -> issued epoch 3\ncall u1.3 begin 18 end 22 put \"a\" genre=\"b\" year=1999 -> refused region 6 epoch 3\ncall u1.4 begin 23 end 25 get \"a\" -> notfound version 1\nhistory \"a\"\nitem 1 u1.4 notfound absent\nepoch 1 servers 1,2,3,4 lost -\nepoch 2 servers 1,2,4 lost -\nepoch 3 servers 1,2 lost 2,6\nend\n"
unfolding digits add_text axes_text axis_text bounds_text cput_text int_line key_line named_text next_axis_text
    op_text quoted range_text servers_line space_line space_text string_line subspace_line tolerate_line value_text
    answer_lines called_text caller_text end_text epoch_line epochs_text found_line head_text history_lines
    in_epoch_line item_line item_text lost_text maybe_answer_lines next_number_text note_lines numbers_text
    object_text record_lines region_line report_text row_line rows_lines servers_text span_text state_text trace_text
    drivers_text version_line version_text word_of
stops = refl

-- a put is in doubt
in_doubt :
    report_text model.doubt_script model.doubt_trace (listed_a model.doubt_script model.doubt_trace) [] false
    ≡ codes "report 1\n" ++ space_books ++ codes "call u1.1 begin 1 end - put \"a\" genre=\"b\" year=1999 -> doubt region 6 epoch 3\nhistory \"a\"\nitem 1 u1.1 done present genre=\"b\" year=1999\nepoch 1 servers 1,2,3,4 lost -\nepoch 2 servers 1,2,4 lost -\nepoch 3 servers 1,2 lost 2,6\nend\n"
unfolding digits add_text axes_text axis_text bounds_text cput_text int_line key_line named_text next_axis_text
    op_text quoted range_text servers_line space_line space_text string_line subspace_line tolerate_line value_text
    answer_lines called_text caller_text end_text epoch_line epochs_text found_line head_text history_lines
    in_epoch_line item_line item_text lost_text maybe_answer_lines next_number_text note_lines numbers_text
    object_text record_lines region_line report_text row_line rows_lines servers_text span_text state_text trace_text
    drivers_text version_line version_text word_of
in_doubt = refl

-- a server joins a region
joined :
    report_text model.joiner_script model.joiner_trace (listed_a model.joiner_script model.joiner_trace) [] false
    ≡ codes "report 1\n" ++ space_books ++ codes "call u1.1 begin 1 end 13 put \"a\" genre=\"b\" year=1999 -> done version 1\ncall u1.2 begin 14 end 26 add 3 0 -> issued epoch 2\ncall u2.1 begin 18 end 27 add 3 0 -> joining epoch 2\nhistory \"a\"\nitem 1 u1.1 done present genre=\"b\" year=1999\nepoch 1 servers 1,2,3,4 lost -\nepoch 2 servers 1,2,3,4 lost -\nepoch 3 servers 1,2,3,4 lost -\nend\n"
unfolding digits add_text axes_text axis_text bounds_text cput_text int_line key_line named_text next_axis_text
    op_text quoted range_text servers_line space_line space_text string_line subspace_line tolerate_line value_text
    answer_lines called_text caller_text end_text epoch_line epochs_text found_line head_text history_lines
    in_epoch_line item_line item_text lost_text maybe_answer_lines next_number_text note_lines numbers_text
    object_text record_lines region_line report_text row_line rows_lines servers_text span_text state_text trace_text
    drivers_text version_line version_text word_of
joined = refl

-- the other answers
other_answers :
    answer_lines one (record { 0 = 7 }) an_answer.CmpFail
    ∷ answer_lines one (record { 0 = 7 }) an_answer.Overflow
    ∷ answer_lines one (record { 0 = 7 }) an_answer.TooLong
    ∷ answer_lines one (record { 0 = 7 }) (an_answer.Rows [])
    ∷ answer_lines one (record { 0 = 7 }) (an_answer.Stopped (record { 0 = 2 }))
    ∷ answer_lines one (record { 0 = 7 }) (an_answer.Member (record { 0 = 3 }))
    ∷ answer_lines one (record { 0 = 7 }) (an_answer.Lost (record { 0 = 2 }))
    ∷ []
    ≡ codes "cmpfail version 7\n" ∷ codes "overflow version 7\n" ∷ codes "toolong version 7\n" ∷ codes
    "rows 0\n" ∷ codes "stopped epoch 2\n" ∷ codes "member epoch 3\n" ∷ codes "lost epoch 2\n" ∷ []
unfolding digits add_text axes_text axis_text bounds_text cput_text int_line key_line named_text next_axis_text
    op_text quoted range_text servers_line space_line space_text string_line subspace_line tolerate_line value_text
    answer_lines called_text caller_text end_text epoch_line epochs_text found_line head_text history_lines
    in_epoch_line item_line item_text lost_text maybe_answer_lines next_number_text note_lines numbers_text
    object_text record_lines region_line report_text row_line rows_lines servers_text span_text state_text trace_text
    drivers_text version_line version_text word_of
other_answers = refl
