-- How the lines of calls and of rows are read.
use Rattle.std.specs.Prelude.{ℕ, ◌-◌, Bool, true, false, not, List, [], ◌++◌, length, codes, take, drop, nat_eq}
use Rattle.std.specs.Prelude.{nat_lt, nat_le, is_some, if◌then◌else◌, Option, None, Some}
use Rattle.std.specs.List.{starts_with}
use Rattle.std.specs.Option.{option_map}
use Rattle.std.specs.Fmt.{decimal}
use Rattle.std.specs.Str.{bytes_eq}
use Rattle.hx_model.specs.Types.{Answer, Op, Row, Space, Value, Version}
use Rattle.hx_types.specs.declared.calls.Answer.TheVariants as an_answer
use Rattle.hx_types.specs.Subspaces.{region_count}
use Rattle.hx_report.specs.Reporting.{maybe_answer_lines, row_line}
use Rattle.hx_report_lines.specs.declared.answers.Answered.{Answered}
use Rattle.hx_report_lines.specs.declared.answers.AnswerWord.{AnswerWord}
use Rattle.hx_report_lines.specs.declared.answers.AnswerWord.TheVariants as answers
use Rattle.hx_report_lines.specs.declared.call_lines.CallHead.{CallHead}
use Rattle.hx_report_lines.specs.declared.call_lines.Span.{Span}
use Rattle.hx_report_lines.specs.Parts.{caller, if_same, object_in, op_in, text_in}
use Rattle.hx_report_lines.specs.Printed.{called_text}
use Rattle.hx_report_lines.specs.Readers.{◌>>=◌, Reader, check, found, give, number, on_some, piece, up_to, word}
use Rattle.hx_report_lines.specs.Values.{has_end}

-- ---- answers

abbrev pub answer_word : List ℕ → Option AnswerWord
answer_word w =
    if bytes_eq w (codes "open") then Some answers.Open
    else (if bytes_eq w (codes "done") then Some answers.Done
    else (if bytes_eq w (codes "notfound") then Some answers.NotFound
    else (if bytes_eq w (codes "cmpfail") then Some answers.CmpFail
    else (if bytes_eq w (codes "overflow") then Some answers.Overflow
    else (if bytes_eq w (codes "toolong") then Some answers.TooLong
    else (if bytes_eq w (codes "found") then Some answers.Found
    else (if bytes_eq w (codes "rows") then Some answers.Rows
    else (if bytes_eq w (codes "refused") then Some answers.Refused
    else (if bytes_eq w (codes "doubt") then Some answers.Doubt
    else (if bytes_eq w (codes "issued") then Some answers.Issued
    else (if bytes_eq w (codes "stopped") then Some answers.Stopped
    else (if bytes_eq w (codes "member") then Some answers.Member
    else (if bytes_eq w (codes "joining") then Some answers.Joining
    else (if bytes_eq w (codes "lost") then Some answers.Lost
    else None))))))))))))))

-- a blank, any word, a blank and a number
unfoldable pub labeled : Reader ℕ
labeled = do
  before ← word (codes " ")
  label ← piece
  after ← word (codes " ")
  n ← number
  give n

unfoldable pub counted : Reader ℕ
counted = do
  before ← word (codes " ")
  n ← number
  give n

-- the first number after the word of an answer
abbrev pub first_number : AnswerWord → Reader ℕ
first_number answers.Open = give 0
first_number answers.Rows = counted
first_number other = labeled

abbrev pub names_region : AnswerWord → Bool
names_region answers.Refused = true
names_region answers.Doubt = true
names_region other = false

-- the second number, where there is one
abbrev pub second_number : AnswerWord → Reader ℕ
second_number w bytes = if names_region w then labeled bytes else Some (0, bytes)

abbrev pub answered : ℕ → Answer → Answered
answered version answer = record { version = record { 0 = version }; answer = Some answer; rows = 0 }

-- the answer of a word and its numbers, without an object and without rows
abbrev pub answer_of : AnswerWord → ℕ → ℕ → Answered
answer_of answers.Open n m = record { version = record { 0 = 0 }; answer = None; rows = 0 }
answer_of answers.Done n m = answered n an_answer.Done
answer_of answers.NotFound n m = answered n an_answer.NotFound
answer_of answers.CmpFail n m = answered n an_answer.CmpFail
answer_of answers.Overflow n m = answered n an_answer.Overflow
answer_of answers.TooLong n m = answered n an_answer.TooLong
answer_of answers.Found n m = answered n (an_answer.Found [])
answer_of answers.Rows n m = record { version = record { 0 = 0 }; answer = Some (an_answer.Rows []); rows = n }
answer_of answers.Refused n m = answered 0 (an_answer.Refused (record { 0 = n }) (record { 0 = m }))
answer_of answers.Doubt n m = answered 0 (an_answer.Doubt (record { 0 = n }) (record { 0 = m }))
answer_of answers.Issued n m = answered 0 (an_answer.Issued (record { 0 = n }))
answer_of answers.Stopped n m = answered 0 (an_answer.Stopped (record { 0 = n }))
answer_of answers.Member n m = answered 0 (an_answer.Member (record { 0 = n }))
answer_of answers.Joining n m = answered 0 (an_answer.Joining (record { 0 = n }))
answer_of answers.Lost n m = answered 0 (an_answer.Lost (record { 0 = n }))

-- the region that is named exists
abbrev pub region_exists : Space → AnswerWord → ℕ → Bool
region_exists space w n = if names_region w then nat_lt n (region_count space) else true

unfoldable pub word_and_numbers : Space → Reader (AnswerWord × Answered)
word_and_numbers space = do
  p ← piece
  w ← found (answer_word p)
  n ← first_number w
  exists ← check (region_exists space w n)
  m ← second_number w
  give (w, answer_of w n m)

abbrev pub is_found : AnswerWord → Bool
is_found answers.Found = true
is_found other = false

-- the object of a get stands last
abbrev pub with_object : Space → AnswerWord × Answered → List ℕ → Option Answered
with_object space x left =
    if is_found x.0 then option_map (λ (o : List Value). record x.1 { answer = Some (an_answer.Found o) }) (object_in space left)
    else Some x.1

abbrev pub answer_in : Space → List ℕ → Option Answered
answer_in space bytes = on_some (word_and_numbers space bytes) (λ x. with_object space x.0 x.1)

-- ---- calls

-- `E`, or `-` where there is no end
abbrev pub end_in : Reader (Option ℕ)
end_in bytes = if starts_with nat_eq bytes (codes "-") then Some (None, drop 1 bytes) else on_some (number bytes) (λ x. Some (Some x.0, x.1))

-- `call uS.N begin B end E `
unfoldable pub span : Reader Span
span = do
  begins ← word (codes "call ")
  c ← caller
  label ← word (codes " begin ")
  begin ← number
  next ← word (codes " end ")
  end ← end_in
  blank ← word (codes " ")
  give (record { caller = c; begin = begin; end = end })

-- the call that stands before ` -`
abbrev pub op_before : Space → List ℕ → Option Op
op_before space front = if nat_le 2 (length front) then op_in space (take (length front - 2) front) else None

-- `OP -> `
abbrev pub op_part : Space → Reader Op
op_part space bytes = on_some (up_to 62 bytes) (λ x. on_some (op_before space x.0) (λ op. on_some (word (codes "> ") x.1) (λ y. Some (op, y.1))))

abbrev pub call_with : Span → Op → Answered → CallHead
call_with s op a = record { call = record { caller = s.caller; begin = s.begin; end = s.end; op = op; version = a.version; answer = a.answer }; rows = a.rows }

-- a call that has no answer or is in doubt has no end
abbrev pub if_ended : CallHead → Option CallHead
if_ended h = if (if is_some h.call.end then has_end h.call.answer else not (has_end h.call.answer)) then Some h else None

abbrev pub call_in : Space → List ℕ → Option CallHead
call_in space line =
    on_some (span line) (λ x. on_some (op_part space x.1) (λ y. on_some (answer_in space y.1) (λ a. if_ended (call_with x.0 y.0 a))))

-- the answer of a line: of rows, how many follow
abbrev pub head_lines : Space → Version → Option Answer → ℕ → List ℕ
head_lines space version (Some (an_answer.Rows rows)) n = codes "rows " ++ decimal n ++ codes "\n"
head_lines space version answer n = maybe_answer_lines space version answer

unfoldable pub head_text : Space → CallHead → List ℕ
head_text space h = called_text space h.call ++ head_lines space h.call.version h.call.answer h.rows

-- `call uS.N begin B end E OP -> ANSWER`
unfoldable pub head_of : Space → List ℕ → Option CallHead
head_of space line = on_some (call_in space line) (if_same (head_text space) line)

-- ---- rows

unfoldable pub row_version : Reader ℕ
row_version = do
  label ← word (codes " version ")
  version ← number
  give version

abbrev pub row_after : Space → List ℕ → List ℕ → Option Row
row_after space key left =
    on_some (row_version left) (λ x. option_map (λ (o : List Value). record { key = key; version = record { 0 = x.0 }; object = o }) (object_in space x.1))

abbrev pub row_in : Space → List ℕ → Option Row
row_in space line =
    on_some (word (codes "row ") line) (λ x. on_some (up_to 32 x.1) (λ y. on_some (text_in space y.0) (λ key. row_after space key y.1)))

-- `row T version V`, and the object
unfoldable pub row_of : Space → List ℕ → Option Row
row_of space line = on_some (row_in space line) (if_same (row_line space) line)
