use Rattle.hx_fate.specs.States.{tuned}
use Rattle.hx_command.proofs.Tuning.{set_changes, set_stays}
use Rattle.hx_command.proofs.threads.tune_at.Goals as goal

pub returns-clause-tuned : goal.returns-clause-tuned
returns-clause-tuned g c f h p q =
    set_changes (λ b. (goal.Fate-dyn g (b.vtable, b.value)).state b.value)
    (tuned c.args.tuning) _ c.args.at c.index_mut.result.now _ c.index_mut.ensures.value c.tune.ensures f h p q

pub returns-clause-others : goal.returns-clause-others
returns-clause-others g c i f h other p q = set_stays (λ b. (goal.Fate-dyn g (b.vtable, b.value)).state b.value)
    (tuned c.args.tuning) _ c.args.at _ i f h other p q
