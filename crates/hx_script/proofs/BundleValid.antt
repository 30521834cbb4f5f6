-- What is read is a bundle within the limits, and no text is refused because of a step.
use Rattle.std.proofs.Common.{◌≡◌, ℕ, ◌+◌, ◌<◌, Bool, true, false, cond, List, [], ◌∷◌, length, map, Option, Some}
use Rattle.std.proofs.Common.{None, Result, Ok, Err, refl, sym, ap, ◌∙◌, subst, arith}
use Rattle.std.specs.Prelude.{IsSomeAnd, slice_get, slice_index_or}
use Rattle.std.specs.List.{All, AllZip}
use Rattle.std.proofs.lemmas.List.{length-map}
use Rattle.std.proofs.lemmas.List.Elements.{All-map, All-weaker}
use Rattle.std.proofs.lemmas.Option.{same_Some, slice_get-map}
use Rattle.std.specs.Option.{option_map}
use Rattle.hx_lex.specs.Lines.{tokens_of}
use Rattle.hx_bundle.specs.declared.bundles.Bundle.{Bundle}
use Rattle.hx_bundle.specs.declared.bundles.BundleStep.{BundleStep}
use Rattle.hx_bundle.specs.Bundles.{AreAlike, AreDealt, HasStep, IsBundle, IsStepIn}
use Rattle.hx_types.specs.declared.traces.Script.{Script}
use Rattle.hx_types.specs.declared.traces.Step.{Step}
use Rattle.hx_types.specs.declared.traces.Step.TheVariants.{Deliver, Tick, Halt}
use Rattle.hx_types.specs.declared.ids.Actor.{Actor}
use Rattle.hx_types.specs.declared.ids.Actor.TheVariants.{Coordinator, Server, Session}
use Rattle.hx_types.specs.Fitting.{IsScript}
use Rattle.hx_types.specs.Spaces.{NamesDiffer}
use Rattle.hx_script.specs.declared.bundle_draft.BundleDraft.{BundleDraft}
use Rattle.hx_script.specs.declared.bundle_draft.BundleSection.{BundleSection}
use Rattle.hx_script.specs.declared.bundle_draft.BundleSection.TheVariants as stages
use Rattle.hx_script.specs.declared.draft.Draft.{Draft}
use Rattle.hx_script.specs.declared.errors.Reason.{Reason}
use Rattle.hx_script.specs.declared.errors.Reason.TheVariants.{Order}
use Rattle.hx_script.specs.declared.errors.ScriptError.{ScriptError}
use Rattle.hx_script.specs.declared.errors.ScriptError.TheVariants as errors
use Rattle.hx_script.specs.BundleGrammar.{bundle_command, bundle_line_of, bundle_line_of_toks, have_keys}
use Rattle.hx_script.specs.BundleTexts.{at_number, bundle_may_end, bundle_so_far, empty_bundle_draft, read_bundle_lines, read_second, script_so_far, then_read}
use Rattle.hx_script.specs.Grammar.{toks_from}
use Rattle.hx_script.specs.Texts.{lines_of}
use Rattle.hx_script.specs.Toks.{Tok}
use Rattle.hx_script.proofs.BundleLists.{all_at, placed_map, some_here}
use Rattle.hx_script.proofs.BundleYields.{all_calling, as_long, heads_whole, yields_bundle_command}
use Rattle.hx_script.proofs.Sections.{Complete}
use Rattle.hx_script.proofs.SoundBundles.{BundleSound, ByStage, IsOneOf, IsStepAmong, IsStepBy, SpaceFits, empty_bundle_sound}
use Rattle.hx_script.proofs.SoundTexts.{a_script, toks_sound}
use Rattle.hx_script.proofs.Takes.{on_ok_ok, ok_is}
use Rattle.hx_script.proofs.Yields.{AllToks}

-- ---- a line

toks_kept : (n : ℕ) (b : BundleDraft) (ts : List Tok) (after : BundleDraft) → BundleSound b → AllToks ts
    → bundle_line_of_toks n b ts ≡ Ok after → BundleSound after
toks_kept n b [] after so all e = subst BundleSound (ok_is b after e) so
toks_kept n b (t ∷ ts) after so all e =
    let o = on_ok_ok (bundle_command n b (t ∷ ts)) (λ (x : BundleDraft × List Tok). Ok x.0) after e in
    subst BundleSound (ok_is o.0.0 after o.2) ((yields_bundle_command n b so).at (t ∷ ts) o.0 all o.1).0

pub bundle_line_kept : (n : ℕ) (b : BundleDraft) (line : List ℕ) (after : BundleDraft) → BundleSound b → bundle_line_of n b line ≡ Ok after → BundleSound after
bundle_line_kept n b line after so e =
    let o = on_ok_ok (toks_from line (tokens_of line)) (bundle_line_of_toks n b) after e in
    toks_kept n b o.0 after so (toks_sound line (tokens_of line) o.0 refl o.1) o.2

-- ---- the end

has_step : (d : Draft) (servers sessions : ℕ) (s : Step) → d.space.servers ≡ servers → length d.sessions ≡ sessions
    → IsStepBy servers sessions s → HasStep (script_so_far d) s
has_step d servers sessions (Deliver id) e f h = tt
has_step d servers sessions (Tick a) e f h = has_actor d servers sessions a e f h
  where
    has_actor : (d : Draft) (servers sessions : ℕ) (a : Actor) → d.space.servers ≡ servers
        → length d.sessions ≡ sessions → IsOneOf servers sessions a → HasStep (script_so_far d) (Tick a)
    has_actor d servers sessions Coordinator e f h = tt
    has_actor d servers sessions (Server s) e f h = rw e h
    has_actor d servers sessions (Session u) e f h = rw f h
has_step d servers sessions (Halt a) e f h = has_actor d servers sessions a e f h
  where
    has_actor : (d : Draft) (servers sessions : ℕ) (a : Actor) → d.space.servers ≡ servers
        → length d.sessions ≡ sessions → IsOneOf servers sessions a → HasStep (script_so_far d) (Halt a)
    has_actor d servers sessions Coordinator e f h = tt
    has_actor d servers sessions (Server s) e f h = rw e h
    has_actor d servers sessions (Session u) e f h = rw f h

some_and : {A : Type 0} (o : Option A) (P : A → Type 0) (x : A) → o ≡ Some x → P x → IsSomeAnd o P
some_and None P x e p = absurd cc
some_and (Some y) P x e p = subst P (sym (same_Some y x e)) p

step_in : (b : BundleDraft) (s : BundleStep) → BundleSound b
    → IsStepAmong (length b.spaces) b.servers (length b.turns) s → IsStepIn (map script_so_far b.spaces) s
step_in b s so h =
    let at = some_here b.spaces s.space h.0 in
    let fits : SpaceFits b.servers b.tolerate at.0 = all_at (SpaceFits b.servers b.tolerate) b.spaces s.space at.0 so.spaces at.1 in
    let long : length at.0.sessions ≡ length b.turns =
    all_at (λ (d : Draft). length d.sessions ≡ length b.turns) b.spaces s.space at.0
    (as_long b.spaces b.turns so.dealt) at.1 in
    some_and (slice_get (map script_so_far b.spaces) s.space) (λ (x : Script). HasStep x s.step) (script_so_far at.0)
    (slice_get-map script_so_far b.spaces s.space ∙ ap (option_map script_so_far) at.1)
    (has_step at.0 b.servers (length b.turns) s.step fits.servers_are long h.1)

names_are : (spaces : List Draft) → map (λ (s : Script). s.space.name) (map script_so_far spaces) ≡ map (λ (d : Draft). d.space.name) spaces
names_are [] = refl
names_are (d ∷ spaces) = ap (λ (l : List (List ℕ)). d.space.name ∷ l) (names_are spaces)

a_bundle : (b : BundleDraft) → BundleSound b → 0 < length b.spaces → All Complete b.spaces → IsBundle (bundle_so_far b)
a_bundle b so some whole =
    let scripts : List Script = map script_so_far b.spaces in
    let long : length scripts ≡ length b.spaces = length-map b.spaces script_so_far in
    record {
      some = omega (arith, long, some);
      few = omega (arith, long, so.few);
      scripts = All-map IsScript script_so_far b.spaces
          (λ i d lt. a_script (slice_index_or b.spaces i d) (so.spaces i d lt).sound.space
          (so.spaces i d lt).sound.calls (whole i d lt));
      no_steps = All-map (λ (s : Script). s.steps ≡ []) script_so_far b.spaces (λ i d lt. (so.spaces i d lt).no_steps);
      alike = All-map (λ (x : Script). All (AreAlike x) scripts) script_so_far b.spaces
          (λ i d lt. All-map (AreAlike (script_so_far (slice_index_or b.spaces i d))) script_so_far b.spaces (λ j e lt'. record {
            servers = (so.spaces i d lt).servers_are ∙ sym (so.spaces j e lt').servers_are;
            tolerate = (so.spaces i d lt).tolerate_is ∙ sym (so.spaces j e lt').tolerate_is;
          }));
      names_differ = subst NamesDiffer (sym (names_are b.spaces)) so.names;
      dealt = placed_map script_so_far (λ k d. AllZip (AreDealt k) d.sessions b.turns)
          (λ k s. AllZip (AreDealt k) s.sessions b.turns) b.spaces so.dealt (λ k d h. h);
      turns = subst (λ m. All (λ (l : List ℕ). All (λ (k : ℕ). k < m) l) b.turns) (sym long) so.turns;
      few_calls = omega (arith, so.counted, so.few_calls);
      few_steps = so.few_steps;
      steps = All-weaker (IsStepAmong (length b.spaces) b.servers (length b.turns)) (IsStepIn scripts) (λ s h. step_in b s so h) b.steps so.steps;
    }

abbrev bundle : Bundle → Result Bundle ScriptError
bundle b = Ok b

bundle_is : (b c : Bundle) → bundle b ≡ bundle c → b ≡ c
bundle_is b c e = cc

ends_by : (n : ℕ) (b : BundleDraft) (keys : Bool) (a : Bundle) → BundleSound b → ByStage stages.Spaces b
    → have_keys b.spaces ≡ keys → cond keys (Ok (bundle_so_far b)) (Err (errors.Refused n Order)) ≡ Ok a → IsBundle a
ends_by n b true a so st k e = subst IsBundle (bundle_is (bundle_so_far b) a e) (a_bundle b so st.0 (heads_whole b so st.1 st.4 k))
ends_by n b false a so st k e = absurd cc

ends : (n : ℕ) (b : BundleDraft) (sec : BundleSection) (a : Bundle) → BundleSound b → ByStage sec b
    → cond (bundle_may_end sec b.spaces) (Ok (bundle_so_far b)) (Err (errors.Refused n Order)) ≡ Ok a → IsBundle a
ends n b stages.Spaces a so st e = ends_by n b (have_keys b.spaces) a so st refl e
ends n b stages.Calls a so st e = subst IsBundle (bundle_is (bundle_so_far b) a e) (a_bundle b so st.0 (all_calling b so st.1))
ends n b stages.Steps a so st e = subst IsBundle (bundle_is (bundle_so_far b) a e) (a_bundle b so st.0 st.1)
ends n b sec a so st e = absurd cc

pub then_ok : {A B : Type 0} (r : Result A ScriptError) (f : A → Result B ScriptError) (y : B) → then_read r f ≡ Ok y → (x : A) × (r ≡ Ok x) × (f x ≡ Ok y)
then_ok (Ok x) f y e = (x, refl, e)
then_ok (Err r) f y e = absurd cc

pub number_ok : {A : Type 0} (n : ℕ) (r : Result A Reason) (x : A) → at_number n r ≡ Ok x → r ≡ Ok x
number_ok n (Ok y) x e = ap Ok (good y x e)
  where
    good : {A : Type 0} (y x : A) → at_number n (Ok y) ≡ Ok x → y ≡ x
    good y x e = cc
number_ok n (Err r) x e = absurd cc

lines_sound : (ls : List (List ℕ)) (n : ℕ) (b : BundleDraft) (a : Bundle) → BundleSound b → read_bundle_lines n b ls ≡ Ok a → IsBundle a
unfolding read_bundle_lines
lines_sound [] n b a so e = ends (n + 1) b b.section a so so.stage e
lines_sound (l ∷ ls) n b a so e =
    let o = then_ok (at_number (n + 1) (bundle_line_of (n + 1) b l)) (λ x. read_bundle_lines (n + 1) x ls) a e in
    lines_sound ls (n + 1) o.0 a (bundle_line_kept (n + 1) b l o.0 so (number_ok (n + 1) (bundle_line_of (n + 1) b l) o.0 o.1)) o.2

pub spaces_sound : (text : List ℕ) (a : Bundle) → read_second text ≡ Ok a → IsBundle a
spaces_sound text a e = lines_sound (lines_of text) 0 empty_bundle_draft a empty_bundle_sound e
