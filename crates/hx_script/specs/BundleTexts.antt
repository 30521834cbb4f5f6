-- The bundle of a text: the script of one space, or several with a script for each, by the first line.
use Rattle.std.specs.Prelude.{◌≡◌, ℕ, ◌+◌, Bool, true, false, List, [], ◌∷◌, map, codes, ◌==◌, Option, Some, None, Result, Ok, Err, if◌then◌else◌}
use Rattle.hx_lex.specs.Lines.{tokens_of}
use Rattle.hx_bundle.specs.declared.bundles.Bundle.{Bundle}
use Rattle.hx_bundle.specs.declared.bundles.BundleStep.{BundleStep}
use Rattle.hx_types.specs.declared.calls.Op.{Op}
use Rattle.hx_types.specs.declared.traces.Script.{Script}
use Rattle.hx_types.specs.declared.traces.Step.{Step}
use Rattle.hx_script.specs.declared.bundle_draft.BundleDraft.{BundleDraft}
use Rattle.hx_script.specs.declared.bundle_draft.BundleSection.{BundleSection}
use Rattle.hx_script.specs.declared.bundle_draft.BundleSection.TheVariants as stages
use Rattle.hx_script.specs.declared.draft.Draft.{Draft}
use Rattle.hx_script.specs.declared.errors.Reason.{Reason}
use Rattle.hx_script.specs.declared.errors.Reason.TheVariants.{Order}
use Rattle.hx_script.specs.declared.errors.ScriptError.{ScriptError}
use Rattle.hx_script.specs.declared.errors.ScriptError.TheVariants as errors
use Rattle.hx_script.specs.BundleGrammar.{bundle_line_of, have_keys}
use Rattle.hx_script.specs.Grammar.{toks_from}
use Rattle.hx_script.specs.Readers.{◌>>=◌, on_ok, Reader, give, fixed, number_in, end}
use Rattle.hx_script.specs.Texts.{lines_of, script_of}
use Rattle.hx_script.specs.Toks.{Tok}

-- what follows, where there was no refusal
abbrev pub then_read : {A B : Type 0} → Result A ScriptError → (A → Result B ScriptError) → Result B ScriptError
then_read (Ok x) f = f x
then_read (Err e) f = Err e

-- what a line gave; it is refused as the line of that number
abbrev pub at_number : {A : Type 0} → ℕ → Result A Reason → Result A ScriptError
at_number n (Ok x) = Ok x
at_number n (Err r) = Err (errors.Refused n r)

-- ---- which version it is

-- hx 1 or hx 2
unfoldable pub version_line : Reader ℕ
version_line = do
  hx ← fixed (codes "hx")
  version ← number_in 1 2
  ended ← end
  give version

-- the first line with tokens says the version
abbrev pub version_by : ℕ → Result (List Tok) Reason → Result ℕ ScriptError → Result ℕ ScriptError
version_by n (Ok []) later = later
version_by n (Ok (t ∷ ts)) later = at_number n (on_ok (version_line (t ∷ ts)) (λ x. Ok x.0))
version_by n (Err r) later = Err (errors.Refused n r)

-- What a function returned of one line is what that says, unless memory ran out; of a line without tokens it is nothing.
abbrev pub SaysVersion : ℕ → List ℕ → Result (Option ℕ) ScriptError → Type 0
SaysVersion n line (Ok None) = toks_from line (tokens_of line) ≡ Ok []
SaysVersion n line (Ok (Some version)) = (later : Result ℕ ScriptError) → version_by n (toks_from line (tokens_of line)) later ≡ Ok version
SaysVersion n line (Err errors.Memory) = Unit {0}
SaysVersion n line (Err (errors.Refused m r)) = (later : Result ℕ ScriptError) → version_by n (toks_from line (tokens_of line)) later ≡ Err (errors.Refused m r)

-- of the lines after the first n
unfoldable pub version_from : ℕ → List (List ℕ) → Result ℕ ScriptError
version_from n [] = Err (errors.Refused (n + 1) Order)
version_from n (l ∷ ls) = version_by (n + 1) (toks_from l (tokens_of l)) (version_from (n + 1) ls)

abbrev pub version_of : List ℕ → Result ℕ ScriptError
version_of text = version_from 0 (lines_of text)

-- ---- several spaces

-- before the first line
abbrev pub empty_bundle_draft : BundleDraft
empty_bundle_draft = record { section = stages.Start; servers = 0; tolerate = 0; spaces = []; turns = []; calls = 0; steps = [] }

-- the text may end behind the key of each space
abbrev pub bundle_may_end : BundleSection → List Draft → Bool
bundle_may_end stages.Spaces spaces = have_keys spaces
bundle_may_end stages.Calls spaces = true
bundle_may_end stages.Steps spaces = true
bundle_may_end _ spaces = false

abbrev pub script_so_far : Draft → Script
script_so_far d = record { space = d.space; sessions = d.sessions; steps = d.steps }

abbrev pub bundle_so_far : BundleDraft → Bundle
bundle_so_far b = record { spaces = map script_so_far b.spaces; turns = b.turns; steps = b.steps }

-- the bundle of all lines before that one
abbrev pub bundle_finished : ℕ → BundleDraft → Result Bundle ScriptError
bundle_finished n b = if bundle_may_end b.section b.spaces then Ok (bundle_so_far b) else Err (errors.Refused n Order)

-- the lines after the first n, from the draft that those gave
unfoldable pub read_bundle_lines : ℕ → BundleDraft → List (List ℕ) → Result Bundle ScriptError
read_bundle_lines n b [] = bundle_finished (n + 1) b
read_bundle_lines n b (l ∷ ls) = then_read (at_number (n + 1) (bundle_line_of (n + 1) b l)) (λ e. read_bundle_lines (n + 1) e ls)

-- ---- one space

abbrev pub first_space_turns : List Op → List ℕ
first_space_turns calls = map (λ (op : Op). 0) calls

abbrev pub first_space_step : ℕ × Step → BundleStep
first_space_step s = record { line = s.0; space = 0; step = s.1 }

-- the bundle of a script: all calls and steps are in its space
abbrev pub one_space : Script → Bundle
one_space s = record { spaces = record s { steps = [] } ∷ []; turns = map first_space_turns s.sessions; steps = map first_space_step s.steps }

-- a text of one space
abbrev pub read_first : List ℕ → Result Bundle ScriptError
read_first text = then_read (script_of text) (λ s. Ok (one_space s))

-- a text of several
abbrev pub read_second : List ℕ → Result Bundle ScriptError
read_second text = read_bundle_lines 0 empty_bundle_draft (lines_of text)

abbrev pub bundle_by : ℕ → List ℕ → Result Bundle ScriptError
bundle_by version text = if version == 2 then read_second text else read_first text

-- the bundle whose text it is, or the first faulty line with its reason
abbrev pub bundle_of : List ℕ → Result Bundle ScriptError
bundle_of text = then_read (version_of text) (λ version. bundle_by version text)

-- What a function returned is what the text gives, unless memory ran out.
abbrev pub TextAnswers : {A : Type 0} → Result A ScriptError → Result A ScriptError → Type 0
TextAnswers (Ok x) read = read ≡ Ok x
TextAnswers (Err errors.Memory) read = Unit {0}
TextAnswers (Err (errors.Refused n r)) read = read ≡ Err (errors.Refused n r)

abbrev pub BundleAnswers : Result Bundle ScriptError → Result Bundle ScriptError → Type 0
BundleAnswers result read = TextAnswers result read
