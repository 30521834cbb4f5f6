-- What stands in the lines of a report: how each part is read.
use Rattle.std.specs.Prelude.{ℕ, ◌+◌, Bool, true, ◌&&◌, List, [], ◌∷◌, ◌++◌, map, length, codes, nat_lt, ◌==◌}
use Rattle.std.specs.Prelude.{if◌then◌else◌, Option, None, Some, Result, Ok, Err}
use Rattle.std.specs.Option.{option_map}
use Rattle.std.specs.Str.{bytes_eq}
use Rattle.hx_model.specs.Types.{Assign, Caller, Op, Space, Value}
use Rattle.hx_types.specs.declared.calls.Op.TheVariants as ops
use Rattle.hx_script.specs.declared.errors.Reason.{Reason}
use Rattle.hx_script.specs.LoneCalls.{op_of_line}
use Rattle.hx_report_lines.specs.declared.histories.ItemLine.{ItemLine}
use Rattle.hx_report_lines.specs.declared.histories.ItemWord.{ItemWord}
use Rattle.hx_report_lines.specs.declared.histories.ItemWord.TheVariants as words
use Rattle.hx_report_lines.specs.Printed.{item_text, key_text}
use Rattle.hx_report_lines.specs.Readers.{◌>>=◌, Reader, check, found, give, number, on_some, piece, short_number, word}

-- ---- values, by the reader of calls

abbrev pub read_ok : Result Op Reason → Option Op
read_ok (Ok op) = Some op
read_ok (Err reason) = None

abbrev pub op_in : Space → List ℕ → Option Op
op_in space line = read_ok (op_of_line space line)

abbrev pub got_key : Op → Option (List ℕ)
got_key (ops.Get key) = Some key
got_key other = None

-- a text in quotes is the key of a get
abbrev pub text_in : Space → List ℕ → Option (List ℕ)
text_in space quoted = on_some (op_in space (codes "get " ++ quoted)) got_key

-- the attributes of assignments are numbered on from a number
abbrev pub in_order : ℕ → List Assign → Bool
in_order n [] = true
in_order n (a ∷ rest) = (a.attribute == n) && in_order (n + 1) rest

-- the values of assignments to each attribute in order
abbrev pub values_in : Space → List Assign → Option (List Value)
values_in space sets =
    if in_order 1 sets && (length sets == length space.attributes) then Some (map (λ (a : Assign). a.value) sets) else None

abbrev pub put_values : Space → Op → Option (List Value)
put_values space (ops.Put key sets) = values_in space sets
put_values space other = None

-- ` N=V` for each attribute is what a put sets
abbrev pub object_in : Space → List ℕ → Option (List Value)
object_in space bytes = on_some (op_in space (codes "put \"\"" ++ bytes)) (put_values space)

-- `absent`, or `present` and an object
abbrev pub state_in : Space → List ℕ → Option (Option (List Value))
state_in space bytes =
    if bytes_eq bytes (codes "absent") then Some None
    else on_some (word (codes "present") bytes) (λ x. option_map (λ (o : List Value). Some o) (object_in space x.1))

-- ---- lines of histories

-- `uS.N`, each from 1
unfoldable pub caller : Reader Caller
caller = do
  u ← word (codes "u")
  session ← short_number
  dot ← word (codes ".")
  call ← short_number
  from_1 ← check (nat_lt 0 session && nat_lt 0 call)
  give (record { session = record { 0 = session }; number = call })

abbrev pub item_word : List ℕ → Option ItemWord
item_word w =
    if bytes_eq w (codes "done") then Some words.Done
    else (if bytes_eq w (codes "notfound") then Some words.NotFound
    else (if bytes_eq w (codes "cmpfail") then Some words.CmpFail
    else (if bytes_eq w (codes "found") then Some words.Found
    else (if bytes_eq w (codes "overflow") then Some words.Overflow
    else (if bytes_eq w (codes "toolong") then Some words.TooLong
    else None)))))

-- ` WORD `
unfoldable pub item_answer : Reader ItemWord
item_answer = do
  before ← word (codes " ")
  w ← piece
  answer ← found (item_word w)
  after ← word (codes " ")
  give answer

unfoldable pub item_front : Reader ItemLine
item_front = do
  begins ← word (codes "item ")
  version ← number
  blank ← word (codes " ")
  c ← caller
  answer ← item_answer
  give (record { version = record { 0 = version }; caller = c; word = answer; object = None })

-- `item V uS.N WORD OBJECT`
abbrev pub item_in : Space → List ℕ → Option ItemLine
item_in space line =
    on_some (item_front line) (λ x. option_map (λ (o : Option (List Value)). record x.0 { object = o }) (state_in space x.1))

-- what was read is what is printed of it
abbrev pub if_same : {A : Type 0} → (A → List ℕ) → List ℕ → A → Option A
if_same text line x = if bytes_eq (text x) (line ++ 10 ∷ []) then Some x else None

unfoldable pub item_of : Space → List ℕ → Option ItemLine
item_of space line = on_some (item_in space line) (if_same (item_text space) line)

unfoldable pub key_in : Space → List ℕ → Option (List ℕ)
key_in space line = on_some (word (codes "history ") line) (λ x. text_in space x.1)

-- `history T`
unfoldable pub key_of : Space → List ℕ → Option (List ℕ)
key_of space line = on_some (key_in space line) (if_same key_text line)
