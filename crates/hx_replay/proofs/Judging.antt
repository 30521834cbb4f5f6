-- A script that has an answer has no step that is refused.
use Rattle.std.proofs.Common.{◌≡◌, inl, inr, ℕ, List, Option, Some, subst}
use Rattle.std.specs.Prelude.{Ok, IfSome}
use Rattle.hx_model.specs.Types.{Entry}
use Rattle.hx_script.specs.declared.errors.Reason.{Reason}
use Rattle.hx_script.specs.declared.errors.Reason.TheVariants as a_reason
use Rattle.hx_script.specs.declared.errors.ScriptError.TheVariants as a_script_error
use Rattle.hx_replay.specs.Causes.{IsJudgedResult, IsRefusedStep, IsRefusedUnder, IsSteppable, IsTaken, Replays}
use Rattle.hx_replay.specs.Texts.{scripted_of}
use Rattle.hx_replay.specs.declared.outcomes.Ended.{Ended}
use Rattle.hx_replay.specs.declared.outcomes.Ended.TheVariants.{Refused}
use Rattle.hx_replay.specs.declared.texts.Scripted.{Scripted}
use Rattle.hx_words.specs.declared.commands.Command.{Command}
use Rattle.hx_words.specs.declared.commands.Command.TheVariants.{Replay, Plan}
use Rattle.hx_replay.proofs.Reading.{refused_scripted}

pub one_script : (text : List ℕ) (a b : Scripted) → scripted_of text ≡ Ok a → scripted_of text ≡ Ok b → a ≡ b
one_script text a b e f = cc

none-refused : (command : Command) (scripted : Scripted) → Replays command → IsSteppable command scripted
    → (line : ℕ) (traces : List (List Entry)) → IsRefusedStep scripted line traces → ⊥
none-refused (Replay with_trace) scripted replays steppable = steppable
none-refused Plan scripted replays steppable = absurd replays

module _ (command : Command) (text : List ℕ) (line : ℕ) (reason : Reason) where
  taken_refused : IsTaken command text → IsRefusedUnder command text line reason → ⊥
  taken_refused taken (inl refused) =
      let a = taken.text_is in
      let b = refused_scripted text (a_script_error.Refused line reason) refused in
      absurd (cc)
  taken_refused taken (inr by) =
      let same = one_script text taken.scripted by.scripted taken.text_is by.text_is in
      none-refused command by.scripted by.replays (subst (λ (s : Scripted). IsSteppable command s) same taken.steppable) line by.traces by.refused

-- a script with an answer has no step that is refused
pub refused_is_not_taken : (command : Command) (text : List ℕ) (before : Option (List ℕ)) (made : Ended) (line : ℕ)
    (traces : List (List Entry)) → before ≡ Some text
    → IfSome before (λ t. IsJudgedResult command t (Ok made)) → made ≡ Refused line traces → IsTaken command text → ⊥
refused_is_not_taken command text before made line traces left judged is taken =
    let at : IfSome (Some text) (λ t. IsJudgedResult command t (Ok made)) =
    subst (λ (o : Option (List ℕ)). IfSome o (λ t. IsJudgedResult command t (Ok made))) left judged in
    let told : IsJudgedResult command text (Ok (Refused line traces)) = subst (λ (m : Ended). IsJudgedResult command text (Ok m)) is at in
    taken_refused command text line a_reason.Step taken told.1
