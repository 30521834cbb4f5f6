-- Nothing is read back but what is within the limits and can be said.
use Rattle.hx_law_texts.proofs.Vocabulary.{[], All, All-cons, All-head, All-nil, All-tail, ap, first_step_line, IsSayableScript, IsScript, length, List}
use Rattle.hx_law_texts.proofs.Vocabulary.{MOST_STEPS, Ok, on_lines_from, on_printed_lines, refl, Script, script_of, Step, StepIsSayable, subst, suc}
use Rattle.hx_law_texts.proofs.Vocabulary.{text_sound, ℕ, ◌+◌, ◌∷◌, ◌≡◌, ◌≤◌}
use Rattle.hx_print.specs.Printing.{script_text}
use Rattle.hx_law_texts.proofs.ToldTexts.{text_told}

same_length : (n : ℕ) (steps : List (ℕ × Step)) → length (on_lines_from n steps) ≡ length steps
same_length n [] = refl
same_length n (x ∷ rest) = ap suc (same_length (n + 1) rest)

same_steps : (P : Step → Type 0) (n : ℕ) (steps : List (ℕ × Step)) → All (λ (x : ℕ × Step). P x.1) (on_lines_from n steps) → All (λ (x : ℕ × Step). P x.1) steps
same_steps P n [] all = All-nil (λ (x : ℕ × Step). P x.1)
same_steps P n (x ∷ rest) all =
    All-cons (λ (y : ℕ × Step). P y.1) x rest (All-head (λ (y : ℕ × Step). P y.1) (n, x.1) (on_lines_from (n + 1) rest) all)
    (same_steps P (n + 1) rest (All-tail (λ (y : ℕ × Step). P y.1) (n, x.1) (on_lines_from (n + 1) rest) all))

pub only_those : (s : Script) → script_of (script_text s) ≡ Ok (on_printed_lines s) → IsScript s × IsSayableScript s
only_those s e =
    let is : IsScript (on_printed_lines s) = text_sound (script_text s) (on_printed_lines s) e in
    let said : IsSayableScript (on_printed_lines s) = text_told (script_text s) (on_printed_lines s) e in (
      record {
        space = is.space;
        sessions = is.sessions;
        calls = is.calls;
        few_calls = is.few_calls;
        few_steps = subst (λ (n : ℕ). n ≤ MOST_STEPS) (same_length (first_step_line s) s.steps) is.few_steps;
      },
      record {
        bounds = said.bounds;
        calls = said.calls;
        steps = same_steps (StepIsSayable s.space.servers (length s.sessions)) (first_step_line s) s.steps said.steps;
      },
    )
