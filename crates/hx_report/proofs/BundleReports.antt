-- A report of two spaces, by computing.
use Rattle.std.specs.Prelude.{◌≡◌, ℕ, false, [], ◌∷◌, codes, pos}
use Rattle.std.specs.Fmt.{digits}
use Rattle.hx_model.specs.Types.{Put, Script, Space}
use Rattle.hx_types.specs.declared.spaces.Kind.TheVariants as a_kind
use Rattle.hx_types.specs.declared.values.Value.TheVariants as a_value
use Rattle.hx_model.specs.Schedule.{scheduled}
use Rattle.hx_print.specs.Printing.{add_text, axes_text, axis_text, bounds_text, caller_text, cput_text, int_line}
use Rattle.hx_print.specs.Printing.{key_line, named_text, next_axis_text, next_number_text, numbers_text, op_text}
use Rattle.hx_print.specs.Printing.{quoted, range_text, servers_line, space_line, space_text, string_line}
use Rattle.hx_print.specs.Printing.{subspace_line, tolerate_line, value_text}
use Rattle.hx_report.specs.BundleReporting.{SpaceReport, block_text, bundle_report_text}
use Rattle.hx_report.specs.Reporting.{answer_lines, called_text, end_text, epoch_line, epochs_text, found_line}
use Rattle.hx_report.specs.Reporting.{history_lines, in_epoch_line, item_line, item_text, lost_text}
use Rattle.hx_report.specs.Reporting.{maybe_answer_lines, note_lines, object_text, record_lines, region_line, row_line}
use Rattle.hx_report.specs.Reporting.{rows_lines, servers_text, span_text, state_text, version_line, version_text}
use Rattle.hx_report.specs.Reporting.{word_of}
use Rattle.hx_report.specs.Driving.{drivers_text}
use Rattle.hx_report.specs.Tracing.{trace_text}
use Rattle.hx_report.proofs.Reports.{listed_a, put_and_get}
use Rattle.std.proofs.Common.{refl}

abbrev two : Space
two =
    record {
      name = codes "two";
      key_name = codes "k";
      key_parts = 1;
      attributes = record { name = codes "n"; kind = a_kind.Int (pos 0) (pos 9) } ∷ [];
      subspaces = [];
      servers = 1;
      tolerate = 0;
    }

abbrev put_alone : Script
put_alone =
    record {
      space = two;
      sessions = (Put (codes "a") (record { attribute = 1; value = a_value.Int (pos 5) } ∷ []) ∷ []) ∷ [];
      steps = [];
    }

-- what is said of a script after so many entries of its schedule, in which the key a alone has a history
abbrev after : ℕ → Script → SpaceReport
after n script = record { script = script; trace = scheduled script [] n; listed = listed_a script (scheduled script [] n); totals = [] }

-- a put and a get in one space, and a put in the other
two_spaces :
    bundle_report_text false (after 6 put_and_get ∷ after 3 put_alone ∷ [])
    ≡ codes "report 2\nspace one\nkey k 1\nstring v\nservers 1\ntolerate 0\ncall u1.1 begin 1 end 3 put \"a\" v=\"x\" -> done version 1\ncall u1.2 begin 4 end 6 get \"a\" -> found version 1 v=\"x\"\nhistory \"a\"\nitem 1 u1.1 done present v=\"x\"\nitem 1 u1.2 found present v=\"x\"\nepoch 1 servers 1 lost -\nspace two\nkey k 1\nint n 0 9\nservers 1\ntolerate 0\ncall u1.1 begin 1 end 3 put \"a\" n=5 -> done version 1\nhistory \"a\"\nitem 1 u1.1 done present n=5\nepoch 1 servers 1 lost -\nend\n"
unfolding digits add_text axes_text axis_text bounds_text cput_text int_line key_line named_text next_axis_text
    op_text quoted range_text servers_line space_line space_text string_line subspace_line tolerate_line value_text
    answer_lines called_text caller_text end_text epoch_line epochs_text found_line history_lines in_epoch_line
    item_line item_text lost_text maybe_answer_lines next_number_text note_lines numbers_text object_text record_lines
    region_line block_text bundle_report_text row_line rows_lines servers_text span_text state_text trace_text
    drivers_text version_line version_text word_of
two_spaces = refl

-- no space
no_spaces : bundle_report_text false [] ≡ codes "report 2\nend\n"
unfolding bundle_report_text
no_spaces = refl
