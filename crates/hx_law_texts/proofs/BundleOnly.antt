-- No bundle is read back but those within the limits that can be said.
use Rattle.hx_law_texts.proofs.Vocabulary.{[], All, All-cons, All-head, All-nil, All-tail, ap, Bundle, bundle_of, bundle_sound, bundle_steps_from, BundleStep}
use Rattle.hx_law_texts.proofs.Vocabulary.{first_bundle_step_line, IsBundle, IsSayableBundle, IsStepIn, length, List, MOST_STEPS, Ok, on_printed_bundle_lines}
use Rattle.hx_law_texts.proofs.Vocabulary.{PostIsSayable, refl, subst, suc, ℕ, ◌+◌, ◌∷◌, ◌≡◌, ◌≤◌}
use Rattle.hx_print.specs.BundlePrinting.{bundle_text}
use Rattle.hx_law_texts.proofs.BundleTold.{bundle_told}

as_many : (n : ℕ) (steps : List BundleStep) → length (bundle_steps_from n steps) ≡ length steps
as_many n [] = refl
as_many n (s ∷ rest) = ap suc (as_many (n + 1) rest)

-- what is said of steps but for their lines
same_steps : (P : BundleStep → Type 0) → ((n : ℕ) (s : BundleStep) → P (record s { line = n }) → P s)
    → (n : ℕ) (steps : List BundleStep) → All P (bundle_steps_from n steps) → All P steps
same_steps P lineless n [] all = All-nil P
same_steps P lineless n (s ∷ rest) all =
    All-cons P s rest (lineless n s (All-head P (record s { line = n }) (bundle_steps_from (n + 1) rest) all))
    (same_steps P lineless (n + 1) rest (All-tail P (record s { line = n }) (bundle_steps_from (n + 1) rest) all))

pub only_those_bundles : (b : Bundle) → bundle_of (bundle_text b) ≡ Ok (on_printed_bundle_lines b) → IsBundle b × IsSayableBundle b
only_those_bundles b e =
    let is : IsBundle (on_printed_bundle_lines b) = bundle_sound (bundle_text b) (on_printed_bundle_lines b) e in
    let said : IsSayableBundle (on_printed_bundle_lines b) = bundle_told (bundle_text b) (on_printed_bundle_lines b) e in (
      record {
        some = is.some;
        few = is.few;
        scripts = is.scripts;
        no_steps = is.no_steps;
        alike = is.alike;
        names_differ = is.names_differ;
        dealt = is.dealt;
        turns = is.turns;
        few_calls = is.few_calls;
        few_steps = subst (λ (n : ℕ). n ≤ MOST_STEPS) (as_many (first_bundle_step_line b) b.steps) is.few_steps;
        steps = same_steps (IsStepIn b.spaces) (λ n s h. h) (first_bundle_step_line b) b.steps is.steps;
      },
      record {
        bounds = said.bounds;
        calls = said.calls;
        steps = same_steps (λ (s : BundleStep). PostIsSayable s.step) (λ n s h. h) (first_bundle_step_line b) b.steps said.steps;
      },
    )
