-- The script of a text: its lines in order.
use Rattle.std.specs.Prelude.{◌≡◌, ℕ, ◌+◌, Bool, true, false, not, List, [], ◌∷◌, Result, Ok, Err, ◌==◌, if◌then◌else◌}
use Rattle.std.specs.List.{prefix_len}
use Rattle.hx_types.specs.declared.traces.Script.{Script}
use Rattle.hx_script.specs.declared.draft.Draft.{Draft}
use Rattle.hx_script.specs.declared.draft.Section.{Section}
use Rattle.hx_script.specs.declared.draft.Section.TheVariants as sections
use Rattle.hx_script.specs.declared.errors.Reason.{Reason}
use Rattle.hx_script.specs.declared.errors.Reason.TheVariants.{Order}
use Rattle.hx_script.specs.declared.errors.ScriptError.{ScriptError}
use Rattle.hx_script.specs.declared.errors.ScriptError.TheVariants as errors
use Rattle.hx_script.specs.declared.errors.Stop.{Stop}
use Rattle.hx_script.specs.declared.errors.Stop.TheVariants as stops
use Rattle.hx_script.specs.Grammar.{line_of}

-- before the first line
abbrev pub empty_draft : Draft
empty_draft = record {
  section = sections.Start;
  space = record { name = []; key_name = []; key_parts = 0; attributes = []; subspaces = []; servers = 0; tolerate = 0 };
  regions = 0;
  sessions = [];
  calls = 0;
  steps = [];
}

-- the text may end where the line `tolerate` was read
abbrev pub may_end : Section → Bool
may_end sections.Sessions = true
may_end sections.Calls = true
may_end sections.Steps = true
may_end _ = false

-- the script of all lines before that one
abbrev pub finished : ℕ → Draft → Result Script ScriptError
finished n d = if may_end d.section then Ok (record { space = d.space; sessions = d.sessions; steps = d.steps }) else Err (errors.Refused n Order)

-- lines end with a newline, or with the text
abbrev pub onto_first : ℕ → List (List ℕ) → List (List ℕ)
onto_first b [] = (b ∷ []) ∷ []
onto_first b (l ∷ ls) = (b ∷ l) ∷ ls

-- how many bytes stand before the first newline
abbrev pub line_len : List ℕ → ℕ
line_len bs = prefix_len (λ b. not (b == 10)) bs

abbrev pub lines_of : List ℕ → List (List ℕ)
lines_of [] = []
lines_of (b ∷ bs) = if b == 10 then [] ∷ lines_of bs else onto_first b (lines_of bs)

abbrev pub at_line : ℕ → Result Draft Reason → (Draft → Result Script ScriptError) → Result Script ScriptError
at_line n (Ok d) f = f d
at_line n (Err r) f = Err (errors.Refused n r)

-- the lines after the first n, from the draft that those gave
unfoldable pub read_lines : ℕ → Draft → List (List ℕ) → Result Script ScriptError
read_lines n d [] = finished (n + 1) d
read_lines n d (l ∷ ls) = at_line (n + 1) (line_of (n + 1) d l) (λ e. read_lines (n + 1) e ls)

-- the script whose text it is, or the first faulty line with its reason
abbrev pub script_of : List ℕ → Result Script ScriptError
script_of text = read_lines 0 empty_draft (lines_of text)

abbrev pub at_stop : ℕ → Stop → ScriptError
at_stop line stops.Memory = errors.Memory
at_stop line (stops.Fault r) = errors.Refused line r

-- What a function returned is what the text gives, unless memory ran out.
abbrev pub Answers : Result Script ScriptError → Result Script ScriptError → Type 0
Answers (Ok s) read = read ≡ Ok s
Answers (Err errors.Memory) read = Unit {0}
Answers (Err (errors.Refused n r)) read = read ≡ Err (errors.Refused n r)
