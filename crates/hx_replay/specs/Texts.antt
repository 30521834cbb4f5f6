-- What a text is the script of: one space, or several.
use Rattle.std.specs.Prelude.{◌≡◌, ℕ, List, Result, Ok, Err, ◌==◌, if◌then◌else◌}
use Rattle.hx_bundle.specs.Bundles.{IsBundle}
use Rattle.hx_types.specs.Fitting.{IsScript}
use Rattle.hx_script.specs.declared.errors.Reason.{Reason}
use Rattle.hx_script.specs.declared.errors.ScriptError.{ScriptError}
use Rattle.hx_script.specs.declared.errors.ScriptError.TheVariants as a_script_error
use Rattle.hx_script.specs.BundleTexts.{bundle_of, then_read, version_of}
use Rattle.hx_script.specs.Texts.{script_of}
use Rattle.hx_replay.specs.declared.texts.Scripted.{Scripted}
use Rattle.hx_replay.specs.declared.texts.Scripted.TheVariants.{One, Several}
use Rattle.hx_replay.specs.Steps.{HasSteps}

-- by its version
abbrev pub scripted_by : ℕ → List ℕ → Result Scripted ScriptError
scripted_by version text =
    if version == 2 then then_read (bundle_of text) (λ b. Ok (Several b)) else then_read (script_of text) (λ s. Ok (One s))

-- the script of one space where the first line with tokens is `hx 1`, and of several where it is `hx 2`
abbrev pub scripted_of : List ℕ → Result Scripted ScriptError
scripted_of text = then_read (version_of text) (λ version. scripted_by version text)

-- the text is refused at that line, the first that is faulty, for that reason, whichever its version
abbrev pub IsRefused : List ℕ → ℕ → Reason → Type 0
IsRefused text line reason = bundle_of text ≡ Err (a_script_error.Refused line reason)

-- within the limits, and each step is a delivery, or of an actor that is there
abbrev pub IsScripted : Scripted → Type 0
IsScripted (One script) = IsScript script × HasSteps script
IsScripted (Several bundle) = IsBundle bundle
