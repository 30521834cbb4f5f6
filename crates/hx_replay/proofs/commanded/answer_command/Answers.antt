-- With a command usage is never told; and what a worn actor's outcome tells.
use Rattle.std.proofs.Common.{◌≡◌, ◌⊎◌, ℕ, List, Option, refl, subst, inl, inr, sym, ◌∙◌}
use Rattle.hx_model.specs.Types.{Actor}
use Rattle.hx_replay.specs.Causes.{IsCause}
use Rattle.hx_replay.specs.declared.outcomes.Outcome.{Outcome}
use Rattle.hx_replay.specs.declared.outcomes.Outcome.TheVariants.{Fine, Usage, Refused, Worn, WriteFault}
use Rattle.hx_script.specs.declared.errors.Reason.{Reason}
use Rattle.hx_words.specs.declared.commands.Command.{Command}
use Rattle.hx_replay.proofs.Judging.{refused_is_not_taken}
use Rattle.hx_replay.proofs.Making.{told_refused, told_worn}
use Rattle.hx_replay.proofs.Wearing.{err_wears, made_wears}
use Rattle.hx_replay.proofs.commanded.answer_command.Goals as goal

written_is_not_usage : (outcome : Outcome) → (outcome ≡ Fine) ⊎ (outcome ≡ WriteFault) → outcome ≡ Usage → ⊥
written_is_not_usage outcome (inl fine) usage = absurd (cc)
written_is_not_usage outcome (inr fault) usage = absurd (cc)

worn_is_not_usage : (outcome : Outcome) (a : Actor) → outcome ≡ Worn a → outcome ≡ Usage → ⊥
worn_is_not_usage outcome a worn usage = absurd (cc)

refused_is_not_usage : (outcome : Outcome) (line : ℕ) (reason : Reason) → outcome ≡ Refused line reason → outcome ≡ Usage → ⊥
refused_is_not_usage outcome line reason refused usage = absurd (cc)

cause_is_not_usage :
    (command : Command) (before after : Option (List ℕ)) (m n : ℕ) (outcome : Outcome)
    → IsCause command before after m n outcome
    → outcome ≡ Usage
    → ⊥
cause_is_not_usage command before after m n outcome cause usage = subst (λ (o : Outcome). IsCause command before after m n o) usage cause

pub returns-in-Ok-Whole-clause-usage : goal.returns-in-Ok-Whole-clause-usage
returns-in-Ok-Whole-clause-usage g c usage = written_is_not_usage c.write.result.outcome c.write.ensures.ends usage

pub returns-in-Ok-Refused-clause-usage : goal.returns-in-Ok-Refused-clause-usage
returns-in-Ok-Refused-clause-usage g c usage = refused_is_not_usage c.refused.result.outcome _ _ c.refused.ensures.outcome usage

pub returns-in-Ok-Refused-clause-refused : goal.returns-in-Ok-Refused-clause-refused
returns-in-Ok-Refused-clause-refused g c words says line reason told =
    told_refused _ _ _ c.args.command c.in-Ok-Refused.field-0 _ _ c.refused.result.outcome _ line reason
    says c.in-Ok-Refused.ensures.answer c.in-Ok-Refused.field-0-is
    (rw c.in-Ok-Refused.field-0-is at c.refused.ensures.traces)
    (rw c.in-Ok-Refused.field-0-is at c.refused.ensures.outcome) told

pub returns-in-Ok-Refused-clause-complete : goal.returns-in-Ok-Refused-clause-complete
returns-in-Ok-Refused-clause-complete g c text left short taken source sink =
    absurd (refused_is_not_taken c.args.command text _ c.in-Ok-Refused.field-0 _ _ left c.in-Ok-Refused.ensures.judged c.in-Ok-Refused.field-0-is taken)

pub returns-in-Ok-Worn-clause-usage : goal.returns-in-Ok-Worn-clause-usage
returns-in-Ok-Worn-clause-usage g c usage = worn_is_not_usage c.worn.result.outcome _ c.worn.ensures.outcome usage

pub returns-in-Ok-Worn-clause-worn : goal.returns-in-Ok-Worn-clause-worn
returns-in-Ok-Worn-clause-worn g c words says a told =
    told_worn _ _ _ c.args.command c.in-Ok-Worn.field-0 _ _ c.worn.result.outcome _ a
    says c.in-Ok-Worn.ensures.answer c.in-Ok-Worn.field-0-is (rw c.in-Ok-Worn.field-0-is at c.worn.ensures.traces)
    (rw c.in-Ok-Worn.field-0-is at c.worn.ensures.outcome) told

pub returns-in-Err-clause-usage : goal.returns-in-Err-clause-usage
returns-in-Err-clause-usage g c usage = cause_is_not_usage c.args.command _ _ _ _ c.in-Err.outcome c.in-Err.ensures.cause (sym c.silent.ensures.outcome ∙ usage)

pub returns-in-Ok-Whole-clause-wears : goal.returns-in-Ok-Whole-clause-wears
returns-in-Ok-Whole-clause-wears g c text traces a replays left short worn still =
    let never : Fine ≡ Worn a = made_wears c.args.command text _ c.in-Ok-Whole.field-0 _ traces a left
    c.in-Ok-Whole.ensures.made c.in-Ok-Whole.field-0-is replays worn in absurd (cc)

pub returns-in-Ok-Refused-clause-wears : goal.returns-in-Ok-Refused-clause-wears
returns-in-Ok-Refused-clause-wears g c text traces a replays left short worn still =
    let never : Refused _ _ ≡ Worn a = made_wears c.args.command text _ c.in-Ok-Refused.field-0 _ traces a left
    c.in-Ok-Refused.ensures.made c.in-Ok-Refused.field-0-is replays worn in absurd (cc)

pub returns-in-Ok-Worn-clause-wears : goal.returns-in-Ok-Worn-clause-wears
returns-in-Ok-Worn-clause-wears g c text traces a replays left short worn still =
    inl
    ((rw c.in-Ok-Worn.field-0-is at c.worn.ensures.outcome)
    ∙ made_wears c.args.command text _ c.in-Ok-Worn.field-0 _ traces a left c.in-Ok-Worn.ensures.made c.in-Ok-Worn.field-0-is replays worn)

pub returns-in-Err-clause-wears : goal.returns-in-Err-clause-wears
returns-in-Err-clause-wears g c text traces a replays left short worn still =
    inr
    (c.silent.ensures.outcome
    ∙ err_wears c.args.command text _ _ _ _ c.in-Err.outcome traces a left c.in-Err.ensures.judged c.in-Err.ensures.cause replays short worn still)
