-- A report as far as its lines were read.
use Rattle.std.specs.Prelude.{ℕ, ◌+◌, ◌-◌, ◌≡◌, Bool, true, false, ◌&&◌, ◌||◌, List, [], ◌∷◌, ◌++◌, length, codes}
use Rattle.std.specs.Prelude.{nat_eq, nat_lt, ◌==◌, slice_get, if◌then◌else◌, Option, None, Some, Result, Ok, Err}
use Rattle.std.specs.List.{starts_with}
use Rattle.std.specs.Option.{option_map}
use Rattle.std.specs.Str.{bytes_eq}
use Rattle.hx_model.specs.Types.{Answer, Caller, Row, Space}
use Rattle.hx_types.specs.declared.calls.Answer.TheVariants as an_answer
use Rattle.hx_types.specs.Spaces.{IsSpace}
use Rattle.hx_types.specs.Words.{text_below}
use Rattle.hx_script.specs.Texts.{lines_of}
use Rattle.hx_report_lines.specs.declared.blocks.Block.{Block}
use Rattle.hx_report_lines.specs.declared.blocks.DriverLine.{DriverLine}
use Rattle.hx_report_lines.specs.declared.call_lines.CallHead.{CallHead}
use Rattle.hx_report_lines.specs.declared.calls.CallLine.{CallLine}
use Rattle.hx_report_lines.specs.declared.drafts.Draft.{Draft}
use Rattle.hx_report_lines.specs.declared.drafts.Open.{Open}
use Rattle.hx_report_lines.specs.declared.drafts.Open.TheVariants as opens
use Rattle.hx_report_lines.specs.declared.drafts.Section.{Section}
use Rattle.hx_report_lines.specs.declared.drafts.Section.TheVariants as sections
use Rattle.hx_report_lines.specs.declared.epochs.EpochLine.{EpochLine}
use Rattle.hx_report_lines.specs.declared.errors.AuditError.{AuditError}
use Rattle.hx_report_lines.specs.declared.errors.AuditError.TheVariants as errors
use Rattle.hx_report_lines.specs.declared.errors.Stop.{Stop}
use Rattle.hx_report_lines.specs.declared.errors.Stop.TheVariants as stops
use Rattle.hx_report_lines.specs.declared.histories.HistoryLines.{HistoryLines}
use Rattle.hx_report_lines.specs.declared.kinds.Kind.{Kind}
use Rattle.hx_report_lines.specs.declared.kinds.Kind.TheVariants as kinds
use Rattle.hx_report_lines.specs.Calling.{head_of, row_of}
use Rattle.hx_report_lines.specs.Parts.{item_of, key_of}
use Rattle.hx_report_lines.specs.Readers.{on_some}
use Rattle.hx_report_lines.specs.Tailing.{driver_of, epoch_of, raw_of, rest_of_head, space_of}
use Rattle.hx_report_lines.specs.Values.{ReportValue, caller_below, is_after}

abbrev pub empty_space : Space
empty_space = record { name = []; key_name = []; key_parts = 0; attributes = []; subspaces = []; servers = 0; tolerate = 0 }

abbrev pub block_of : Space → Block
block_of space = record { space = space; calls = []; histories = []; epochs = []; raw = []; drivers = [] }

-- before the first line
abbrev pub empty_draft : Draft
empty_draft = record { section = sections.Start; version = 0; blocks = []; head = []; block = block_of empty_space; pending = opens.Nothing }

abbrev pub last_of : {A : Type 0} → List A → Option A
last_of xs = slice_get xs (length xs - 1)

abbrev pub is_none : {A : Type 0} → List A → Bool
is_none xs = length xs == 0

-- ---- what is pending: a call of which rows are wanted, or a history

abbrev pub with_call : Draft → CallLine → Draft
with_call d c = record d { pending = opens.Nothing; block = record d.block { calls = d.block.calls ++ c ∷ [] } }

abbrev pub with_history : Draft → HistoryLines → Draft
with_history d h = record d { pending = opens.Nothing; block = record d.block { histories = d.block.histories ++ h ∷ [] } }

abbrev pub with_rows : CallLine → List Row → CallLine
with_rows c rows = record c { answer = Some (an_answer.Rows rows) }

abbrev pub settled_from : Draft → Open → Option Draft
settled_from d opens.Nothing = Some (record d { pending = opens.Nothing })
settled_from d (opens.Rows c rows left) = if left == 0 then Some (with_call d (with_rows c rows)) else None
settled_from d (opens.History key items) = if is_none items then None else Some (with_history d (record { key = key; items = items }))

-- the draft with what was pending put into its block, where nothing more is wanted of it
abbrev pub settled : Draft → Option Draft
settled d = settled_from d d.pending

-- ---- lines of a block

abbrev pub no_drivers : Draft → Bool
no_drivers d = is_none d.block.drivers

abbrev pub no_raw : Draft → Bool
no_raw d = is_none d.block.raw && no_drivers d

abbrev pub no_epochs : Draft → Bool
no_epochs d = is_none d.block.epochs && no_raw d

abbrev pub no_histories : Draft → Bool
no_histories d = is_none d.block.histories && no_epochs d

abbrev pub follows_caller : Draft → Caller → Bool
follows_caller d c = is_after caller_below (option_map (λ (x : CallLine). x.caller) (last_of d.block.calls)) c

abbrev pub begun : Draft → CallHead → Option Answer → Draft
begun d h (Some (an_answer.Rows rows)) = record d { pending = opens.Rows h.call [] h.rows }
begun d h other = with_call d h.call

abbrev pub put_head : Draft → CallHead → Option Draft
put_head d h = if follows_caller d h.call.caller then Some (begun d h h.call.answer) else None

abbrev pub call_after : List ℕ → Draft → Option Draft
call_after line d = if no_histories d then on_some (head_of d.block.space line) (put_head d) else None

abbrev pub call_line : Draft → List ℕ → Option Draft
call_line d line = on_some (settled d) (call_after line)

abbrev pub row_line_in : Draft → List ℕ → Open → Option Draft
row_line_in d line opens.Nothing = None
row_line_in d line (opens.Rows c rows left) =
    if left == 0 then None
    else on_some (row_of d.block.space line) (λ r. Some (record d { pending = opens.Rows c (rows ++ r ∷ []) (left - 1) }))
row_line_in d line (opens.History key items) = None

abbrev pub row_line : Draft → List ℕ → Option Draft
row_line d line = row_line_in d line d.pending

abbrev pub follows_key : Draft → List ℕ → Bool
follows_key d key = is_after text_below (option_map (λ (h : HistoryLines). h.key) (last_of d.block.histories)) key

abbrev pub put_key : Draft → List ℕ → Option Draft
put_key d key = if follows_key d key then Some (record d { pending = opens.History key [] }) else None

abbrev pub key_after : List ℕ → Draft → Option Draft
key_after line d = if no_epochs d then on_some (key_of d.block.space line) (put_key d) else None

abbrev pub key_line : Draft → List ℕ → Option Draft
key_line d line = on_some (settled d) (key_after line)

abbrev pub item_line_in : Draft → List ℕ → Open → Option Draft
item_line_in d line opens.Nothing = None
item_line_in d line (opens.Rows c rows left) = None
item_line_in d line (opens.History key items) = on_some (item_of d.block.space line) (λ x. Some (record d { pending = opens.History key (items ++ x ∷ []) }))

abbrev pub item_line : Draft → List ℕ → Option Draft
item_line d line = item_line_in d line d.pending

abbrev pub follows_epoch : Draft → ℕ → Bool
follows_epoch d n = is_after nat_lt (option_map (λ (e : EpochLine). e.epoch.0) (last_of d.block.epochs)) n

abbrev pub put_epoch : Draft → EpochLine → Option Draft
put_epoch d e = if follows_epoch d e.epoch.0 then Some (record d { block = record d.block { epochs = d.block.epochs ++ e ∷ [] } }) else None

abbrev pub epoch_after : List ℕ → Draft → Option Draft
epoch_after line d = if no_raw d then on_some (epoch_of d.block.space line) (put_epoch d) else None

abbrev pub epoch_line : Draft → List ℕ → Option Draft
epoch_line d line = on_some (settled d) (epoch_after line)

abbrev pub put_raw : Draft → List ℕ → Option Draft
put_raw d text = Some (record d { block = record d.block { raw = d.block.raw ++ text ∷ [] } })

abbrev pub raw_after : List ℕ → Draft → Option Draft
raw_after line d = if no_drivers d then on_some (raw_of line) (put_raw d) else None

abbrev pub raw_line : Draft → List ℕ → Option Draft
raw_line d line = on_some (settled d) (raw_after line)

abbrev pub put_driver : Draft → DriverLine → Option Draft
put_driver d x = Some (record d { block = record d.block { drivers = d.block.drivers ++ x ∷ [] } })

abbrev pub driver_after : List ℕ → Draft → Option Draft
driver_after line d = on_some (driver_of line) (put_driver d)

abbrev pub driver_line : Draft → List ℕ → Option Draft
driver_line d line = on_some (settled d) (driver_after line)

-- ---- lines of the space

-- a line more of the space: a block begins where none is wanted behind it
abbrev pub with_space : Draft → List ℕ → List ℕ → Space → Draft
with_space d head [] space = record d { section = sections.Body; head = []; block = block_of space; pending = opens.Nothing }
with_space d head (b ∷ rest) space = record d { section = sections.Head; head = head }

abbrev pub head_with : Draft → List ℕ → List ℕ → Option Draft
head_with d head rest = on_some (space_of (head ++ rest)) (λ space. Some (with_space d head rest space))

abbrev pub head_line : Draft → List ℕ → Option Draft
head_line d line = on_some (rest_of_head line) (head_with d (d.head ++ line ++ 10 ∷ []))

-- ---- between blocks

-- the block is whole
abbrev pub closed : Draft → Draft
closed d = record d { blocks = d.blocks ++ d.block ∷ []; block = block_of empty_space; head = [] }

abbrev pub end_after : List ℕ → Draft → Option Draft
end_after line d = if bytes_eq line (codes "end") then Some (record (closed d) { section = sections.Over }) else None

abbrev pub end_line : Draft → List ℕ → Option Draft
end_line d line = on_some (settled d) (end_after line)

-- of version 2 another block may follow
abbrev pub next_after : List ℕ → Draft → Option Draft
next_after line d = if d.version == 2 then head_line (closed d) line else None

abbrev pub next_line : Draft → List ℕ → Option Draft
next_line d line = on_some (settled d) (next_after line)

abbrev pub version_of : List ℕ → Option ℕ
version_of line = if bytes_eq line (codes "report 1") then Some 1 else (if bytes_eq line (codes "report 2") then Some 2 else None)

abbrev pub version_line : Draft → List ℕ → Option Draft
version_line d line = on_some (version_of line) (λ version. Some (record d { section = sections.Head; version = version }))

-- ---- all lines

abbrev pub kind_of : List ℕ → Option Kind
kind_of line =
    if starts_with nat_eq line (codes "call ") then Some kinds.Call
    else (if starts_with nat_eq line (codes "row ") then Some kinds.Row
    else (if starts_with nat_eq line (codes "history ") then Some kinds.History
    else (if starts_with nat_eq line (codes "item ") then Some kinds.Item
    else (if starts_with nat_eq line (codes "epoch ") then Some kinds.Epoch
    else (if starts_with nat_eq line (codes "entry ") || starts_with nat_eq line (codes "post ") then Some kinds.Raw
    else (if starts_with nat_eq line (codes "driver ") then Some kinds.Driver
    else (if starts_with nat_eq line (codes "space ") then Some kinds.Space
    else (if starts_with nat_eq line (codes "end") then Some kinds.End
    else None))))))))

abbrev pub line_of_kind : Draft → List ℕ → Kind → Option Draft
line_of_kind d line kinds.Call = call_line d line
line_of_kind d line kinds.Row = row_line d line
line_of_kind d line kinds.History = key_line d line
line_of_kind d line kinds.Item = item_line d line
line_of_kind d line kinds.Epoch = epoch_line d line
line_of_kind d line kinds.Raw = raw_line d line
line_of_kind d line kinds.Driver = driver_line d line
line_of_kind d line kinds.Space = next_line d line
line_of_kind d line kinds.End = end_line d line

abbrev pub line_in : Draft → List ℕ → Section → Option Draft
line_in d line sections.Start = version_line d line
line_in d line sections.Head = head_line d line
line_in d line sections.Body = on_some (kind_of line) (line_of_kind d line)
line_in d line sections.Over = None

-- the draft after one more line, where that may come next
abbrev pub after_line : Draft → List ℕ → Option Draft
after_line d line = line_in d line d.section

-- what is read in a block is of its space
abbrev pub HasSpace : Draft → Type 0
HasSpace d = d.section ≡ sections.Body → IsSpace d.block.space

-- ---- all of a text

abbrev pub is_over : Section → Bool
is_over sections.Over = true
is_over other = false

abbrev pub finished : Bool → ℕ → Draft → Result Draft ℕ
finished whole line d = if is_over d.section && whole then Ok d else Err line

abbrev pub on_draft : Option Draft → ℕ → (Draft → Result Draft ℕ) → Result Draft ℕ
on_draft None line f = Err line
on_draft (Some d) line f = f d

-- the lines after the first n, from the draft that those gave
unfoldable pub read_lines : Bool → ℕ → Draft → List (List ℕ) → Result Draft ℕ
read_lines whole n d [] = finished whole (n + 1) d
read_lines whole n d (l ∷ ls) = on_draft (after_line d l) (n + 1) (λ e. read_lines whole (n + 1) e ls)

abbrev pub is_newline : Option ℕ → Bool
is_newline None = false
is_newline (Some b) = b == 10

-- the last byte is a newline
abbrev pub ends_whole : List ℕ → Bool
ends_whole text = is_newline (last_of text)

-- the draft of a whole text, or the line that is refused
abbrev pub draft_of : List ℕ → Result Draft ℕ
draft_of text = read_lines (ends_whole text) 0 empty_draft (lines_of text)

-- what was read, as a report
abbrev pub value_of : Draft → ReportValue
value_of d = record { version = d.version; blocks = d.blocks }

abbrev pub at_stop : ℕ → Stop → AuditError
at_stop line stops.Memory = errors.Memory
at_stop line stops.Unread = errors.Unread line

-- What a function returned is what the text gives, unless memory ran out.
abbrev pub Answers : Result Draft AuditError → Result Draft ℕ → Type 0
Answers (Ok d) read = read ≡ Ok d
Answers (Err errors.Memory) read = Unit {0}
Answers (Err (errors.Unread n)) read = read ≡ Err n
