-- The text of a report: the space, the begun calls, the histories of keys, the epochs, the lines of the trace and the drivers; traces stand newest first.
use Rattle.std.specs.Prelude.{◌≡◌, ℕ, Bool, List, [], ◌∷◌, ◌++◌, map, reverse, length, codes, Option, None, Some}
use Rattle.std.specs.List.{flat_map}
use Rattle.std.specs.Fmt.{decimal}
use Rattle.hx_model.specs.Types.{Answer, Attribute, Caller, Config, Entry, Epoch, Item, Note, Record, RegionId, Row, Script, ServerId, Space, Totals, Value}
use Rattle.hx_model.specs.Types.{Version}
use Rattle.hx_types.specs.declared.calls.Answer.TheVariants as an_answer
use Rattle.hx_types.specs.declared.traces.Note.TheVariants as a_note
use Rattle.hx_types.specs.Words.{when_some}
use Rattle.hx_types.specs.Configs.{first_config, lost_regions}
use Rattle.hx_types.specs.Fitting.{call_of}
use Rattle.hx_model.specs.Histories.{records_of}
use Rattle.hx_print.specs.Printing.{caller_text, named_text, numbers_text, op_text, quoted, space_text}
use Rattle.hx_history.specs.declared.key_histories.KeyHistory.{KeyHistory}
use Rattle.hx_history.specs.Listed.{AreHistories}
use Rattle.hx_report.specs.Driving.{drivers_text}
use Rattle.hx_report.specs.Tracing.{trace_text}

-- ` N=V` for each attribute
unfoldable pub object_text : List Attribute → List Value → List ℕ
object_text [] values = []
object_text (a ∷ rest) [] = []
object_text (a ∷ rest) (v ∷ values) = named_text a.name v ++ object_text rest values

unfoldable pub version_text : List ℕ → Version → List ℕ
version_text word version = word ++ codes " version " ++ decimal version.0

unfoldable pub version_line : List ℕ → Version → List ℕ
version_line word version = version_text word version ++ codes "\n"

unfoldable pub found_line : Space → Version → List Value → List ℕ
found_line space version object = version_text (codes "found") version ++ object_text space.attributes object ++ codes "\n"

unfoldable pub row_line : Space → Row → List ℕ
row_line space row = codes "row " ++ quoted row.key ++ version_text [] row.version ++ object_text space.attributes row.object ++ codes "\n"

unfoldable pub rows_lines : Space → List Row → List ℕ
rows_lines space rows = codes "rows " ++ decimal (length rows) ++ codes "\n" ++ flat_map (row_line space) rows

unfoldable pub region_line : List ℕ → RegionId → Epoch → List ℕ
region_line word region epoch = word ++ codes " region " ++ decimal region.0 ++ codes " epoch " ++ decimal epoch.0 ++ codes "\n"

unfoldable pub in_epoch_line : List ℕ → Epoch → List ℕ
in_epoch_line word epoch = word ++ codes " epoch " ++ decimal epoch.0 ++ codes "\n"

-- what a call was answered, with the version that its end names; the rows of a search have lines of their own
unfoldable pub answer_lines : Space → Version → Answer → List ℕ
answer_lines space version an_answer.Done = version_line (codes "done") version
answer_lines space version an_answer.NotFound = version_line (codes "notfound") version
answer_lines space version an_answer.CmpFail = version_line (codes "cmpfail") version
answer_lines space version an_answer.Overflow = version_line (codes "overflow") version
answer_lines space version an_answer.TooLong = version_line (codes "toolong") version
answer_lines space version (an_answer.Found object) = found_line space version object
answer_lines space version (an_answer.Rows rows) = rows_lines space rows
answer_lines space version (an_answer.Refused region epoch) = region_line (codes "refused") region epoch
answer_lines space version (an_answer.Doubt region epoch) = region_line (codes "doubt") region epoch
answer_lines space version (an_answer.Issued epoch) = in_epoch_line (codes "issued") epoch
answer_lines space version (an_answer.Stopped epoch) = in_epoch_line (codes "stopped") epoch
answer_lines space version (an_answer.Member epoch) = in_epoch_line (codes "member") epoch
answer_lines space version (an_answer.Joining epoch) = in_epoch_line (codes "joining") epoch
answer_lines space version (an_answer.Lost epoch) = in_epoch_line (codes "lost") epoch

-- a call that has no answer is open
unfoldable pub maybe_answer_lines : Space → Version → Option Answer → List ℕ
maybe_answer_lines space version None = codes "open\n"
maybe_answer_lines space version (Some answer) = answer_lines space version answer

-- the entry that ended a call; `-` where it has no answer or is answered Doubt
unfoldable pub end_text : Option ℕ → List ℕ
end_text None = codes "-"
end_text (Some entry) = decimal entry

-- `call uS.N begin B end E`
unfoldable pub span_text : Record → List ℕ
span_text r = codes "call " ++ caller_text r.caller ++ codes " begin " ++ decimal r.begin ++ codes " end " ++ end_text r.end

-- the call as the script has it
unfoldable pub called_text : Script → Caller → List ℕ
called_text script c = when_some (call_of script c) [] (op_text script.space)

unfoldable pub record_lines : Script → Record → List ℕ
record_lines script r =
    span_text r ++ codes " " ++ called_text script r.caller ++ codes " -> " ++ maybe_answer_lines script.space r.version r.answer

-- no other answer stands in a history
unfoldable pub word_of : Answer → List ℕ
word_of an_answer.Done = codes "done"
word_of an_answer.NotFound = codes "notfound"
word_of an_answer.CmpFail = codes "cmpfail"
word_of an_answer.Overflow = codes "overflow"
word_of an_answer.TooLong = codes "toolong"
word_of (an_answer.Found object) = codes "found"
word_of other = []

-- the object after an item
unfoldable pub state_text : Space → Option (List Value) → List ℕ
state_text space None = codes "absent"
state_text space (Some object) = codes "present" ++ object_text space.attributes object

-- `item V uS.N`
unfoldable pub item_text : Item → List ℕ
item_text x = codes "item " ++ decimal x.version.0 ++ codes " " ++ caller_text x.caller

unfoldable pub item_line : Space → Item → List ℕ
item_line space x = item_text x ++ codes " " ++ word_of x.answer ++ codes " " ++ state_text space x.object ++ codes "\n"

unfoldable pub history_lines : Space → KeyHistory → List ℕ
history_lines space h = codes "history " ++ quoted h.key ++ codes "\n" ++ flat_map (item_line space) h.items

abbrev pub server_numbers : Config → List ℕ
server_numbers config = map (λ (s : ServerId). s.0) config.servers

abbrev pub lost_numbers : Config → List ℕ
lost_numbers config = map (λ (g : RegionId). g.0) (lost_regions config)

unfoldable pub servers_text : Config → List ℕ
servers_text config = codes " servers " ++ numbers_text (server_numbers config)

unfoldable pub lost_text : Config → List ℕ
lost_text config = codes " lost " ++ numbers_text (lost_numbers config)

unfoldable pub epoch_line : Config → List ℕ
epoch_line config = codes "epoch " ++ decimal config.epoch.0 ++ servers_text config ++ lost_text config ++ codes "\n"

-- the epoch that a note says was issued
unfoldable pub note_lines : Note → List ℕ
note_lines (a_note.Began number) = []
note_lines (a_note.Ended number version answer) = []
note_lines (a_note.Assigned update) = []
note_lines (a_note.Issued config) = epoch_line config

abbrev pub entry_lines : Entry → List ℕ
entry_lines x = flat_map note_lines x.notes

-- epoch 1, and those issued in the trace in their order
unfoldable pub epochs_text : Script → List Entry → List ℕ
epochs_text script trace = epoch_line (first_config script.space) ++ flat_map entry_lines (reverse trace)

-- the first line, and those of the space
unfoldable pub head_text : Space → List ℕ
head_text space = codes "report 1\n" ++ space_text space

-- the report of a trace, with the histories that it has, the lines of the trace where they are wanted, and what each driver did
unfoldable pub report_text : Script → List Entry → List KeyHistory → List Totals → Bool → List ℕ
report_text script trace listed totals with_trace =
    head_text script.space
    ++ flat_map (record_lines script) (records_of script trace)
    ++ flat_map (history_lines script.space) listed
    ++ epochs_text script trace
    ++ trace_text with_trace trace
    ++ drivers_text 1 totals
    ++ codes "end\n"

-- the bytes are the report of the trace with all its histories
pub record IsReport (script : Script) (trace : List Entry) (totals : List Totals) (bytes : List ℕ) (with_trace : Bool) : Type 0 where
  pub listed : List KeyHistory
  pub histories : AreHistories script trace listed
  pub text : bytes ≡ report_text script trace listed totals with_trace
