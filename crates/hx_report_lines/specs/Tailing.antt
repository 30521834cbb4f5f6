-- How the lines of configurations, of the trace, of drivers and of the space are read.
use Rattle.std.specs.Prelude.{ℕ, zero, suc, Bool, true, ◌&&◌, ◌||◌, List, [], ◌∷◌, ◌++◌, map, length, drop, codes}
use Rattle.std.specs.Prelude.{nat_eq, nat_le, nat_lt, if◌then◌else◌, Option, None, Some, Result, Ok, Err}
use Rattle.std.specs.List.{list_all, starts_with}
use Rattle.std.specs.Str.{bytes_eq, is_utf8}
use Rattle.hx_model.specs.Types.{Script, Space}
use Rattle.hx_types.specs.Subspaces.{region_count}
use Rattle.hx_print.specs.Printing.{space_text}
use Rattle.hx_script.specs.declared.errors.ScriptError.{ScriptError}
use Rattle.hx_script.specs.Texts.{script_of}
use Rattle.hx_report_lines.specs.declared.blocks.DriverLine.{DriverLine}
use Rattle.hx_report_lines.specs.declared.epochs.EpochLine.{EpochLine}
use Rattle.hx_report_lines.specs.Parts.{if_same}
use Rattle.hx_report_lines.specs.Printed.{driver_text, epoch_text}
use Rattle.hx_report_lines.specs.Readers.{◌>>=◌, Reader, check, give, number, on_some, short_number, word}

-- ---- lists of numbers

-- numbers after commas, at most so many
abbrev pub numbers_after : ℕ → List ℕ → Reader (List ℕ)
numbers_after zero front bytes = Some (front, bytes)
numbers_after (suc n) front bytes =
    if starts_with nat_eq bytes (codes ",") then (word (codes ",") >>= (λ u. short_number >>= (λ m. numbers_after n (front ++ m ∷ [])))) bytes
    else Some (front, bytes)

-- numbers with commas between them, or `-`
abbrev pub numbers : Reader (List ℕ)
numbers bytes =
    if starts_with nat_eq bytes (codes "-") then Some ([], drop 1 bytes)
    else on_some (short_number bytes) (λ x. numbers_after (length x.1) (x.0 ∷ []) x.1)

-- each above the one before it and no higher than a number
abbrev pub ascend_to : ℕ → ℕ → List ℕ → Bool
ascend_to last most [] = true
ascend_to last most (n ∷ rest) = nat_lt last n && nat_le n most && ascend_to n most rest

abbrev pub all_below : ℕ → List ℕ → Bool
all_below most ns = list_all (λ n. nat_lt n most) ns

-- ---- configurations

unfoldable pub epoch_in : Space → Reader EpochLine
epoch_in space = do
  begins ← word (codes "epoch ")
  epoch ← number
  label ← word (codes " servers ")
  servers ← numbers
  exist ← check (ascend_to 0 space.servers servers)
  next ← word (codes " lost ")
  lost ← numbers
  are ← check (all_below (region_count space) lost)
  give (record { epoch = record { 0 = epoch }; servers = map (λ n. record { 0 = n }) servers; lost = map (λ n. record { 0 = n }) lost })

-- `epoch E servers LIST lost LIST`
unfoldable pub epoch_of : Space → List ℕ → Option EpochLine
epoch_of space line = on_some (epoch_in space line) (λ x. if_same epoch_text line x.0)

-- ---- lines of the trace

-- any text that begins so
unfoldable pub raw_of : List ℕ → Option (List ℕ)
raw_of line =
    if (starts_with nat_eq line (codes "entry ") || starts_with nat_eq line (codes "post ")) && is_utf8 line then Some line else None

-- ---- drivers

-- a label, and a number after it
unfoldable pub field : List ℕ → Reader ℕ
field label = do
  named ← word label
  n ← number
  give n

unfoldable pub driver_in : Reader DriverLine
driver_in = do
  begins ← word (codes "driver ")
  driver ← short_number
  posts ← field (codes " posts ")
  deliver ← field (codes " deliver ")
  lose ← field (codes " lose ")
  twice ← field (codes " twice ")
  give (record { driver = driver; totals = record { posts = posts; deliver = deliver; lose = lose; twice = twice } })

-- `driver D` and its totals
unfoldable pub driver_of : List ℕ → Option DriverLine
driver_of line = on_some (driver_in line) (λ x. if_same driver_text line x.0)

-- ---- spaces

abbrev pub same_space : List ℕ → Result Script ScriptError → Option Space
same_space bytes (Ok s) = if bytes_eq (space_text s.space) bytes then Some s.space else None
same_space bytes (Err e) = None

-- the space of these lines
unfoldable pub space_of : List ℕ → Option Space
space_of bytes = same_space bytes (script_of (codes "hx 1\n" ++ bytes))

-- what may stand behind the first lines of a space, by the last of them
abbrev pub rest_of_head : List ℕ → Option (List ℕ)
rest_of_head line =
    if starts_with nat_eq line (codes "space ") then Some (codes "key k 1\nservers 1\ntolerate 0\n")
    else (if starts_with nat_eq line (codes "key ")
    || (starts_with nat_eq line (codes "string ")
    || (starts_with nat_eq line (codes "int ") || starts_with nat_eq line (codes "subspace "))) then Some (codes "servers 1\ntolerate 0\n")
    else (if starts_with nat_eq line (codes "servers ") then Some (codes "tolerate 0\n")
    else (if starts_with nat_eq line (codes "tolerate ") then Some []
    else None)))
