-- The text of a report: what it has of each space, in the words of the reports that the program writes.
use Rattle.std.specs.Prelude.{ℕ, List, ◌++◌, map, codes}
use Rattle.std.specs.List.{flat_map}
use Rattle.std.specs.Fmt.{decimal}
use Rattle.hx_model.specs.Types.{RegionId, ServerId, Space}
use Rattle.hx_print.specs.Printing.{caller_text, numbers_text, op_text, quoted, space_text}
use Rattle.hx_report.specs.Driving.{driver_line}
use Rattle.hx_report.specs.Reporting.{end_text, maybe_answer_lines, state_text}
use Rattle.hx_report_lines.specs.declared.blocks.Block.{Block}
use Rattle.hx_report_lines.specs.declared.blocks.DriverLine.{DriverLine}
use Rattle.hx_report_lines.specs.declared.calls.CallLine.{CallLine}
use Rattle.hx_report_lines.specs.declared.epochs.EpochLine.{EpochLine}
use Rattle.hx_report_lines.specs.declared.histories.HistoryLines.{HistoryLines}
use Rattle.hx_report_lines.specs.declared.histories.ItemLine.{ItemLine}
use Rattle.hx_report_lines.specs.declared.histories.ItemWord.{ItemWord}
use Rattle.hx_report_lines.specs.declared.histories.ItemWord.TheVariants as words
use Rattle.hx_report_lines.specs.Values.{ReportValue}

-- `call uS.N begin B end E`
unfoldable pub span_text : CallLine → List ℕ
span_text c = codes "call " ++ caller_text c.caller ++ codes " begin " ++ decimal c.begin ++ codes " end " ++ end_text c.end

-- ` OP -> ` after it
unfoldable pub called_text : Space → CallLine → List ℕ
called_text space c = span_text c ++ codes " " ++ op_text space c.op ++ codes " -> "

-- the line of a call; the rows of a search have lines of their own
unfoldable pub call_text : Space → CallLine → List ℕ
call_text space c = called_text space c ++ maybe_answer_lines space c.version c.answer

abbrev pub word_text : ItemWord → List ℕ
word_text words.Done = codes "done"
word_text words.NotFound = codes "notfound"
word_text words.CmpFail = codes "cmpfail"
word_text words.Found = codes "found"
word_text words.Overflow = codes "overflow"
word_text words.TooLong = codes "toolong"

-- `item V uS.N WORD `
unfoldable pub item_head : ItemLine → List ℕ
item_head x = codes "item " ++ decimal x.version.0 ++ codes " " ++ caller_text x.caller ++ codes " " ++ word_text x.word ++ codes " "

-- `item V uS.N WORD OBJECT`
unfoldable pub item_text : Space → ItemLine → List ℕ
item_text space x = item_head x ++ state_text space x.object ++ codes "\n"

-- `history T`
unfoldable pub key_text : List ℕ → List ℕ
key_text key = codes "history " ++ quoted key ++ codes "\n"

-- `history T`, and its items
unfoldable pub history_text : Space → HistoryLines → List ℕ
history_text space h = key_text h.key ++ flat_map (item_text space) h.items

-- ` servers LIST`
unfoldable pub servers_text : EpochLine → List ℕ
servers_text e = codes " servers " ++ numbers_text (map (λ (s : ServerId). s.0) e.servers)

-- ` lost LIST`
unfoldable pub lost_text : EpochLine → List ℕ
lost_text e = codes " lost " ++ numbers_text (map (λ (g : RegionId). g.0) e.lost)

-- `epoch E servers LIST lost LIST`
unfoldable pub epoch_text : EpochLine → List ℕ
epoch_text e = codes "epoch " ++ decimal e.epoch.0 ++ servers_text e ++ lost_text e ++ codes "\n"

-- a line of the trace
unfoldable pub raw_text : List ℕ → List ℕ
raw_text line = line ++ codes "\n"

-- `driver D` and its totals
abbrev pub driver_text : DriverLine → List ℕ
driver_text d = driver_line d.driver d.totals

-- the lines of the space, its calls, histories, configurations, its trace and its drivers
unfoldable pub block_text : Block → List ℕ
block_text b =
    space_text b.space
    ++ flat_map (call_text b.space) b.calls
    ++ flat_map (history_text b.space) b.histories
    ++ flat_map epoch_text b.epochs
    ++ flat_map raw_text b.raw
    ++ flat_map driver_text b.drivers

-- the first line
unfoldable pub first_text : ℕ → List ℕ
first_text version = codes "report " ++ decimal version ++ codes "\n"

-- the whole text: the first line, the blocks, and the line `end`
unfoldable pub text_of : ReportValue → List ℕ
text_of r = first_text r.version ++ flat_map block_text r.blocks ++ codes "end\n"
