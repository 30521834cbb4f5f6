-- A line that is one call, apart from any script.
use Rattle.std.specs.Prelude.{◌≡◌, ◌<◌, ℕ, ◌+◌, List, Option, Some, Result, Ok, Err}
use Rattle.hx_lex.specs.Lines.{tokens_of}
use Rattle.hx_types.specs.declared.calls.Op.{Op}
use Rattle.hx_types.specs.declared.limits.TheConstants.{MOST_CALLS}
use Rattle.hx_types.specs.declared.spaces.Space.{Space}
use Rattle.hx_types.specs.Subspaces.{region_count}
use Rattle.hx_script.specs.declared.draft.Draft.{Draft}
use Rattle.hx_script.specs.declared.draft.Section.TheVariants as sections
use Rattle.hx_script.specs.declared.errors.Reason.{Reason}
use Rattle.hx_script.specs.declared.errors.Reason.TheVariants.{Order}
use Rattle.hx_script.specs.declared.errors.ScriptError.{ScriptError}
use Rattle.hx_script.specs.declared.errors.ScriptError.TheVariants as errors
use Rattle.hx_script.specs.declared.keyword.Keyword.{Keyword}
use Rattle.hx_script.specs.declared.keyword.Keyword.TheVariants as keywords
use Rattle.hx_script.specs.Calls.{call}
use Rattle.hx_script.specs.Grammar.{push_to_last, toks_from}
use Rattle.hx_script.specs.Keywords.{keyword_of}
use Rattle.hx_script.specs.Readers.{◌>>=◌, on_ok, Reader, refuse, word}
use Rattle.hx_script.specs.Toks.{Tok}

-- the call that a word begins, and no other line
abbrev pub call_by : Space → Option Keyword → Reader Op
call_by space (Some (keywords.Call w)) = call space (region_count space) w
call_by space _ = refuse Order

unfoldable pub lone_call : Space → Reader Op
lone_call space = do
  w ← word
  call_by space (keyword_of w)

abbrev pub op_of_toks : Space → List Tok → Result Op Reason
op_of_toks space ts = on_ok (lone_call space ts) (λ x. Ok x.0)

-- the operation of a line that is a call of a session of the space
abbrev pub op_of_line : Space → List ℕ → Result Op Reason
op_of_line space line = on_ok (toks_from line (tokens_of line)) (op_of_toks space)

-- the draft of a whole space, where a call may come next
pub record TakesCalls (d : Draft) : Type 0 where
  pub section : d.section ≡ sections.Calls
  pub regions : d.regions ≡ region_count d.space
  pub room : d.calls < MOST_CALLS

-- a draft with one more call of its last session
abbrev pub with_call : Draft → Op → Draft
with_call d op = record d { sessions = push_to_last d.sessions op; calls = d.calls + 1 }

-- What a function returned is what the line gives, unless memory ran out.
abbrev pub AnswersOp : Result Op ScriptError → Result Op Reason → Type 0
AnswersOp (Ok op) read = read ≡ Ok op
AnswersOp (Err errors.Memory) read = Unit {0}
AnswersOp (Err (errors.Refused n r)) read = (n ≡ 1) × (read ≡ Err r)
