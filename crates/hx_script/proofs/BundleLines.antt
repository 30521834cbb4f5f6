-- A text of one space or of several, a line at a time.
use Rattle.std.proofs.Common.{◌≡◌, ◌≢◌, ℕ, ◌+◌, true, false, eqb, List, [], ◌∷◌, length, Option, Some, None, Result, Ok, Err, refl, sym, ap, ◌∙◌, arith}
use Rattle.std.specs.Prelude.{◌↔◌}
use Rattle.std.proofs.lemmas.Bool.{eqb-true, ne_eqb}
use Rattle.std.proofs.lemmas.Option.{same_Some}
use Rattle.hx_lex.specs.Lines.{tokens_of}
use Rattle.hx_bundle.specs.declared.bundles.Bundle.{Bundle}
use Rattle.hx_types.specs.declared.traces.Script.{Script}
use Rattle.hx_script.specs.declared.bundle_draft.BundleDraft.{BundleDraft}
use Rattle.hx_script.specs.declared.errors.Reason.{Reason}
use Rattle.hx_script.specs.declared.errors.Reason.TheVariants.{Order}
use Rattle.hx_script.specs.declared.errors.ScriptError.{ScriptError}
use Rattle.hx_script.specs.declared.errors.ScriptError.TheVariants as errors
use Rattle.hx_script.specs.BundleGrammar.{bundle_line_of}
use Rattle.hx_script.specs.BundleTexts.{BundleAnswers, SaysVersion, TextAnswers, bundle_finished, bundle_of, one_space}
use Rattle.hx_script.specs.BundleTexts.{read_bundle_lines, read_first, read_second, version_by, version_from}
use Rattle.hx_script.specs.BundleTexts.{version_of}
use Rattle.hx_script.specs.Grammar.{toks_from}
use Rattle.hx_script.specs.Texts.{Answers, lines_of, script_of}

-- ---- the version

abbrev number : ℕ → Result ℕ ScriptError
number n = Ok n

pub version_on : (n : ℕ) (rest line after : List ℕ) → lines_of rest ≡ line ∷ lines_of after
    → toks_from line (tokens_of line) ≡ Ok [] → version_from n (lines_of rest) ≡ version_from (n + 1) (lines_of after)
unfolding version_from
version_on n rest line after s h = rw (s, h) refl

pub version_told : (n : ℕ) (rest line after : List ℕ) (r : Result ℕ ScriptError)
    → lines_of rest ≡ line ∷ lines_of after → ((later : Result ℕ ScriptError)
    → version_by (n + 1) (toks_from line (tokens_of line)) later ≡ r) → version_from n (lines_of rest) ≡ r
unfolding version_from
version_told n rest line after r s h = rw s (h (version_from (n + 1) (lines_of after)))

-- what a function says of a line is what it says of the text
pub version_stop : (n : ℕ) (rest line after : List ℕ) (e : ScriptError) → lines_of rest ≡ line ∷ lines_of after
    → SaysVersion (n + 1) line (Err e) → TextAnswers {A = ℕ} (Err e) (version_from n (lines_of rest))
version_stop n rest line after errors.Memory s h = tt
version_stop n rest line after (errors.Refused m r) s h = version_told n rest line after (Err (errors.Refused m r)) s h

pub version_found : (n : ℕ) (rest line after : List ℕ) (o : Option ℕ) (v : ℕ) → lines_of rest ≡ line ∷ lines_of after
    → SaysVersion (n + 1) line (Ok o) → o ≡ Some v → version_from n (lines_of rest) ≡ Ok v
version_found n rest line after None v s h e = absurd cc
version_found n rest line after (Some w) v s h e = version_told n rest line after (Ok w) s h ∙ ap (λ (x : ℕ). number x) (same_Some w v e)

pub version_passed : (n : ℕ) (rest line after : List ℕ) (o : Option ℕ) → lines_of rest ≡ line ∷ lines_of after
    → SaysVersion (n + 1) line (Ok o) → o ≡ None → version_from n (lines_of rest) ≡ version_from (n + 1) (lines_of after)
version_passed n rest line after None s h e = version_on n rest line after s h
version_passed n rest line after (Some w) s h e = absurd cc

pub version_end : (n : ℕ) (rest : List ℕ) → length rest ≡ 0 → version_from n (lines_of rest) ≡ Err (errors.Refused (n + 1) Order)
unfolding version_from
version_end n [] none = refl
version_end n (b ∷ bs) none = absurd (omega arith)

ok_same : (v w : ℕ) → number v ≡ number w → v ≡ w
ok_same v w e = cc

pub version_is_two : (text : List ℕ) (v : ℕ) → version_of text ≡ Ok v → (eqb v 2 ≡ true) ↔ (version_of text ≡ Ok 2)
version_is_two text v e = ((λ h. e ∙ ap (λ (w : ℕ). Ok w) (eqb-true v 2 h)), (λ h. ap (λ (w : ℕ). eqb w 2) (ok_same v 2 (sym e ∙ h))))

pub version_refused : (text : List ℕ) (n : ℕ) (r : Reason) → version_of text ≡ Err (errors.Refused n r) → (false ≡ true) ↔ (version_of text ≡ Ok 2)
version_refused text n r e = rw e ((λ h. absurd cc), (λ h. absurd cc))

-- ---- several spaces

pub bundle_reads_on : (n : ℕ) (b : BundleDraft) (rest line after : List ℕ) (e : BundleDraft)
    → lines_of rest ≡ line ∷ lines_of after → bundle_line_of (n + 1) b line ≡ Ok e
    → read_bundle_lines n b (lines_of rest) ≡ read_bundle_lines (n + 1) e (lines_of after)
unfolding read_bundle_lines
bundle_reads_on n b rest line after e s h = rw (s, h) refl

pub bundle_reads_stop : (n : ℕ) (b : BundleDraft) (rest line after : List ℕ) (r : Reason)
    → lines_of rest ≡ line ∷ lines_of after → bundle_line_of (n + 1) b line ≡ Err r
    → read_bundle_lines n b (lines_of rest) ≡ Err (errors.Refused (n + 1) r)
unfolding read_bundle_lines
bundle_reads_stop n b rest line after r s h = rw (s, h) refl

pub bundle_reads_end : (n : ℕ) (b : BundleDraft) (rest : List ℕ) → length rest ≡ 0 → read_bundle_lines n b (lines_of rest) ≡ bundle_finished (n + 1) b
unfolding read_bundle_lines
bundle_reads_end n b [] none = refl
bundle_reads_end n b (c ∷ cs) none = absurd (omega arith)

-- ---- one space

pub first_ok : (text : List ℕ) (s : Script) → script_of text ≡ Ok s → read_first text ≡ Ok (one_space s)
first_ok text s e = rw e refl

pub first_err : (text : List ℕ) (e : ScriptError) → Answers (Err e) (script_of text) → TextAnswers {A = Bundle} (Err e) (read_first text)
first_err text errors.Memory h = tt
first_err text (errors.Refused n r) h = rw h refl

-- ---- which of them

pub version_err : (text : List ℕ) (e : ScriptError) → TextAnswers {A = ℕ} (Err e) (version_of text) → BundleAnswers (Err e) (bundle_of text)
version_err text errors.Memory h = tt
version_err text (errors.Refused n r) h = rw h refl

pub of_spaces : (text : List ℕ) (v : ℕ) (r : Result Bundle ScriptError) → version_of text ≡ Ok v → v ≡ 2
    → BundleAnswers r (read_second text) → BundleAnswers r (bundle_of text)
of_spaces text v r e two h = rw (e, two) h

pub of_one : (text : List ℕ) (v : ℕ) (r : Result Bundle ScriptError) → version_of text ≡ Ok v → v ≢ 2
    → BundleAnswers r (read_first text) → BundleAnswers r (bundle_of text)
of_one text v r e two h = rw (e, ne_eqb v 2 two) h
