-- One space, or several.
use Rattle.std.proofs.Common.{subst, sym}
use Rattle.hx_fate.specs.States.{tuned}
use Rattle.hx_run.specs.Ran.{HasRisen}
use Rattle.hx_command.specs.Threads.{tuning_of}
use Rattle.hx_command.proofs.Scripts.{AreRisen, ends_in, one_risen}
use Rattle.hx_command.proofs.commands.answer_scripted.Goals as goal

pub returns-in-One-clause-ends : goal.returns-in-One-clause-ends
returns-in-One-clause-ends g c =
    ends_in c.args.command _ _ c.answer_run.result.done.outcome _ _ c.in-One.is c.answer_run.ensures.ends

pub returns-in-Several-clause-ends : goal.returns-in-Several-clause-ends
returns-in-Several-clause-ends g c =
    ends_in c.args.command _ _ c.answer_spaces.result.done.outcome _ _ c.in-Several.is c.answer_spaces.ensures.ends

pub returns-in-One-clause-risen : goal.returns-in-One-clause-risen
returns-in-One-clause-risen g c =
    subst (AreRisen (λ n s trace j t f b. HasRisen s n trace j t
    (tuned (tuning_of c.args.command) ((goal.Fate-dyn g (f.vtable, f.value)).state f.value))
    ((goal.Fate-dyn g (b.vtable, b.value)).state b.value)) c.args.command.workers c.args.fates.items _ _ _) (sym c.in-One.is)
    (one_risen (λ n s trace j t f b. HasRisen s n trace j t
    (tuned (tuning_of c.args.command) ((goal.Fate-dyn g (f.vtable, f.value)).state f.value))
    ((goal.Fate-dyn g (b.vtable, b.value)).state b.value)) c.args.command.workers c.args.fates.items _ _ _ _
    c.answer_run.ensures.risen)

pub returns-in-Several-clause-risen : goal.returns-in-Several-clause-risen
returns-in-Several-clause-risen g c =
    subst (AreRisen (λ n s trace j t f b. HasRisen s n trace j t
    (tuned (tuning_of c.args.command) ((goal.Fate-dyn g (f.vtable, f.value)).state f.value))
    ((goal.Fate-dyn g (b.vtable, b.value)).state b.value)) c.args.command.workers c.args.fates.items _ _ _)
    (sym c.in-Several.is) c.answer_spaces.ensures.risen
