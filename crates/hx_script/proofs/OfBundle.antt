-- No text of several spaces is refused for the reason Step, which only a run can tell.
use Rattle.std.proofs.Common.{◌≢◌, ℕ, Bool, true, false, cond, List, [], ◌∷◌, Option, Some, None, Result, Ok, Err, subst}
use Rattle.std.specs.Prelude.{◌+◌, ◌==◌, length, nat_le, not, position, slice_get}
use Rattle.std.specs.List.{list_any}
use Rattle.hx_lex.specs.Lines.{tokens_of}
use Rattle.hx_bundle.specs.declared.bundles.Bundle.{Bundle}
use Rattle.hx_types.specs.declared.limits.TheConstants.{LONGEST_NAME}
use Rattle.hx_types.specs.declared.traces.Script.{Script}
use Rattle.hx_script.specs.declared.bundle_draft.BundleDraft.{BundleDraft}
use Rattle.hx_script.specs.declared.bundle_draft.BundleSection.{BundleSection}
use Rattle.hx_script.specs.declared.bundle_draft.BundleSection.TheVariants as stages
use Rattle.hx_script.specs.declared.draft.Draft.{Draft}
use Rattle.hx_script.specs.declared.errors.Reason.{Reason}
use Rattle.hx_script.specs.declared.errors.Reason.TheVariants as reasons
use Rattle.hx_script.specs.declared.errors.ScriptError.{ScriptError}
use Rattle.hx_script.specs.declared.errors.ScriptError.TheVariants as errors
use Rattle.hx_script.specs.declared.keyword.CallWord.{CallWord}
use Rattle.hx_script.specs.declared.keyword.Heading.{Heading}
use Rattle.hx_script.specs.declared.keyword.Heading.TheVariants as headings
use Rattle.hx_script.specs.declared.keyword.Keyword.{Keyword}
use Rattle.hx_script.specs.declared.keyword.Keyword.TheVariants as keywords
use Rattle.hx_script.specs.BundleGrammar.{all_servers_line, all_steps_line, all_tolerate_line, behind_keys}
use Rattle.hx_script.specs.BundleGrammar.{bundle_command, bundle_heading_line, bundle_line_for, bundle_line_of}
use Rattle.hx_script.specs.BundleGrammar.{bundle_line_of_toks, in_draft, in_space, is_space, keyed_line}
use Rattle.hx_script.specs.BundleGrammar.{last_space_line, new_space_name, next_session_line, next_space_line, placed}
use Rattle.hx_script.specs.BundleGrammar.{second_hx_line, space_call_line, space_named, space_number, space_step_line}
use Rattle.hx_script.specs.BundleGrammar.{spaces_line}
use Rattle.hx_script.specs.BundleTexts.{at_number, bundle_may_end, bundle_of, empty_bundle_draft, read_bundle_lines}
use Rattle.hx_script.specs.BundleTexts.{read_first, read_second, then_read, version_by, version_from, version_line}
use Rattle.hx_script.specs.BundleTexts.{version_of}
use Rattle.hx_script.specs.Grammar.{call_line, heading_line, toks_from}
use Rattle.hx_script.specs.Keywords.{keyword_of}
use Rattle.hx_script.specs.Readers.{Reader, on_ok}
use Rattle.hx_script.specs.Texts.{empty_draft, lines_of, script_of}
use Rattle.hx_script.specs.Toks.{Tok}
use Rattle.hx_script.proofs.OfText.{IsOfLine, IsRefusedByLine, Tells, Told, by_lines, tells_call, tells_check}
use Rattle.hx_script.proofs.OfText.{tells_end, tells_fixed, tells_give, tells_heading, tells_judged, tells_named}
use Rattle.hx_script.proofs.OfText.{tells_number_in, tells_step, tells_then, tells_word, told_then, told_toks}

-- ---- spaces

told_placed : (o : Option ℕ) → Told (placed o)
told_placed (Some k) = tt
told_placed None = tt

tells_space_named : (spaces : List Draft) → Tells (space_named spaces)
unfolding space_named
tells_space_named spaces = tells_then tells_named (λ w. tells_judged (space_number spaces w) (told_placed (position (is_space w) spaces)))

tells_new_space : (spaces : List Draft) → Tells (new_space_name spaces)
unfolding new_space_name
tells_new_space spaces = tells_then tells_named (λ w. tells_then
    (tells_check (not (list_any (is_space w) spaces)) reasons.Twice tt)
    (λ u. tells_then (tells_check (nat_le (length w) LONGEST_NAME) reasons.Limit tt) (λ v. tells_give w)))

tells_in_space : (spaces : List Draft) (k : ℕ) (line : Draft → Reader Draft) → ((d : Draft) → Tells (line d)) → Tells (in_space spaces k line)
tells_in_space spaces k line h = by (slice_get spaces k)
  where
    by : (o : Option Draft) → Tells (in_draft spaces k line o)
    by (Some d) = tells_then (h d) (λ e. tells_give _)
    by None = record { at = λ ts. tt }

-- a call is judged in a draft as anywhere
tells_call_line : (d : Draft) (w : CallWord) → Tells (call_line d w)
unfolding call_line
tells_call_line d w = tells_then (tells_check _ reasons.Limit tt) (λ u. tells_then (tells_call d.space d.regions w) (λ op. tells_give _))

-- ---- lines

tells_next_space : (b : BundleDraft) → Tells (next_space_line b)
unfolding next_space_line
tells_next_space b = tells_then (tells_check _ reasons.Limit tt) (λ u. tells_then (tells_new_space b.spaces) (λ w. tells_then tells_end (λ v. tells_give _)))

tells_last_space : (b : BundleDraft) (h : Heading) → Tells (last_space_line b h)
unfolding last_space_line
tells_last_space b h = tells_then (tells_in_space b.spaces _ (λ d. heading_line d d.section h) (λ d. tells_heading d d.section h)) (λ after. tells_give _)

tells_next_session : (b : BundleDraft) → Tells (next_session_line b)
unfolding next_session_line
tells_next_session b = tells_then (tells_check _ reasons.Limit tt) (λ u. tells_then (tells_number_in _ _) (λ n. tells_then tells_end (λ v. tells_give _)))

tells_all_steps : (b : BundleDraft) → Tells (all_steps_line b)
unfolding all_steps_line
tells_all_steps b = tells_then tells_end (λ u. tells_give _)

tells_keyed : (b : BundleDraft) (h : Heading) → Tells (keyed_line b h)
tells_keyed b headings.Space = tells_next_space b
tells_keyed b headings.Session = tells_next_session b
tells_keyed b headings.Steps = tells_all_steps b
tells_keyed b h = record { at = λ ts. tt }

tells_behind_keys : (b : BundleDraft) (h : Heading) → Tells (behind_keys b h)
unfolding behind_keys
tells_behind_keys b h = tells_then (tells_check _ reasons.Order tt) (λ u. tells_keyed b h)

tells_spaces : (b : BundleDraft) (h : Heading) → Tells (spaces_line b h)
tells_spaces b headings.Key = tells_last_space b headings.Key
tells_spaces b headings.String = tells_last_space b headings.String
tells_spaces b headings.Int = tells_last_space b headings.Int
tells_spaces b headings.Subspace = tells_last_space b headings.Subspace
tells_spaces b h = tells_behind_keys b h

tells_bundle_heading : (b : BundleDraft) (sec : BundleSection) (h : Heading) → Tells (bundle_heading_line b sec h)
unfolding second_hx_line all_servers_line all_tolerate_line
tells_bundle_heading b stages.Start headings.Hx = tells_then (tells_number_in _ _) (λ n. tells_then tells_end (λ u. tells_give _))
tells_bundle_heading b stages.Serving headings.Servers = tells_then (tells_number_in _ _) (λ n. tells_then tells_end (λ u. tells_give _))
tells_bundle_heading b stages.Tolerance headings.Tolerate = tells_then (tells_number_in _ _) (λ n. tells_then tells_end (λ u. tells_give _))
tells_bundle_heading b stages.Naming headings.Space = tells_next_space b
tells_bundle_heading b stages.Spaces h = tells_spaces b h
tells_bundle_heading b stages.Calls headings.Session = tells_next_session b
tells_bundle_heading b stages.Calls headings.Steps = tells_all_steps b
tells_bundle_heading b sec h = record { at = λ ts. tt }

tells_bundle_line : (n : ℕ) (b : BundleDraft) (sec : BundleSection) (k : Option Keyword) → Tells (bundle_line_for n b sec k)
unfolding space_call_line space_step_line
tells_bundle_line n b sec (Some (keywords.Heading h)) = tells_bundle_heading b sec h
tells_bundle_line n b stages.Calls (Some (keywords.Call c)) =
    tells_then (tells_check _ reasons.Limit tt) (λ u. tells_then (tells_space_named b.spaces)
    (λ k. tells_then (tells_in_space b.spaces k (λ d. call_line d c) (λ d. tells_call_line d c)) (λ after. tells_give _)))
tells_bundle_line n b stages.Steps (Some (keywords.Step w)) =
    tells_then (tells_check _ reasons.Limit tt) (λ u. tells_then (tells_space_named b.spaces)
    (λ k. tells_then (tells_step b.servers (length b.turns) w) (λ s. tells_give _)))
tells_bundle_line n b sec k = record { at = λ ts. tt }

tells_bundle_command : (n : ℕ) (b : BundleDraft) → Tells (bundle_command n b)
unfolding bundle_command
tells_bundle_command n b = tells_then tells_word (λ w. tells_bundle_line n b b.section (keyword_of w))

told_bundle_toks : (n : ℕ) (b : BundleDraft) (ts : List Tok) → Told (bundle_line_of_toks n b ts)
told_bundle_toks n b [] = tt
told_bundle_toks n b (t ∷ ts) = told_then (bundle_command n b (t ∷ ts)) (λ x. Ok x.0) ((tells_bundle_command n b).at (t ∷ ts)) (λ x. tt)

told_bundle_line : (n : ℕ) (b : BundleDraft) (line : List ℕ) → Told (bundle_line_of n b line)
told_bundle_line n b line = told_then (toks_from line (tokens_of line)) (bundle_line_of_toks n b) (told_toks line (tokens_of line)) (told_bundle_toks n b)

-- ---- texts

-- refused for a reason of a line
abbrev ByLine : {A : Type 0} → Result A ScriptError → Type 0
ByLine (Ok x) = Unit {0}
ByLine (Err errors.Memory) = Unit {0}
ByLine (Err (errors.Refused line r)) = IsOfLine r

by_then : {A B : Type 0} (r : Result A ScriptError) (f : A → Result B ScriptError) → ByLine r → ((x : A) → ByLine (f x)) → ByLine (then_read r f)
by_then (Ok x) f h g = g x
by_then (Err errors.Memory) f h g = tt
by_then (Err (errors.Refused n r)) f h g = h

by_number : {A : Type 0} (n : ℕ) (r : Result A Reason) → Told r → ByLine (at_number n r)
by_number n (Ok x) h = tt
by_number n (Err r) h = h

by_end : (t : Bool) (b : Bundle) (n : ℕ) → ByLine (cond t (Ok b) (Err (errors.Refused n reasons.Order)))
by_end true b n = tt
by_end false b n = tt

by_bundle_lines : (ls : List (List ℕ)) (n : ℕ) (b : BundleDraft) → ByLine (read_bundle_lines n b ls)
unfolding read_bundle_lines
by_bundle_lines [] n b = by_end (bundle_may_end b.section b.spaces) _ _
by_bundle_lines (l ∷ ls) n b = by_then (at_number (n + 1) (bundle_line_of (n + 1) b l)) _
    (by_number (n + 1) (bundle_line_of (n + 1) b l) (told_bundle_line (n + 1) b l)) (λ e. by_bundle_lines ls (n + 1) e)

tells_version : Tells version_line
unfolding version_line
tells_version = tells_then (tells_fixed _) (λ u. tells_then (tells_number_in _ _) (λ n. tells_then tells_end (λ v. tells_give n)))

by_version_line : (n : ℕ) (r : Result (List Tok) Reason) (later : Result ℕ ScriptError) → Told r → ByLine later → ByLine (version_by n r later)
by_version_line n (Ok []) later h g = g
by_version_line n (Ok (t ∷ ts)) later h g = by_number n (on_ok (version_line (t ∷ ts)) (λ x. Ok x.0))
    (told_then (version_line (t ∷ ts)) (λ x. Ok x.0) (tells_version.at (t ∷ ts)) (λ x. tt))
by_version_line n (Err r) later h g = h

by_version_lines : (ls : List (List ℕ)) (n : ℕ) → ByLine (version_from n ls)
unfolding version_from
by_version_lines [] n = tt
by_version_lines (l ∷ ls) n = by_version_line (n + 1) (toks_from l (tokens_of l)) (version_from (n + 1) ls)
    (told_toks l (tokens_of l)) (by_version_lines ls (n + 1))

of_script : (r : Result Script ScriptError) → IsRefusedByLine r → ByLine r
of_script (Ok s) h = tt
of_script (Err errors.Memory) h = tt
of_script (Err (errors.Refused n r)) h = h

by_first : (text : List ℕ) → ByLine (read_first text)
by_first text = by_then (script_of text) _ (of_script (script_of text) (by_lines (lines_of text) 0 empty_draft)) (λ s. tt)

by_two : (two : Bool) (text : List ℕ) → ByLine (cond two (read_second text) (read_first text))
by_two true text = by_bundle_lines (lines_of text) 0 empty_bundle_draft
by_two false text = by_first text

pub bundles_never_by_step : (text : List ℕ) (line : ℕ) → bundle_of text ≢ Err (errors.Refused line reasons.Step)
bundles_never_by_step text line e = subst ByLine e (by_then (version_of text) _ (by_version_lines (lines_of text) 0) (λ v. by_two (v == 2) text))
