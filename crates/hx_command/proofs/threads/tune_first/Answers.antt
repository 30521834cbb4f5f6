use Rattle.std.proofs.Common.{◌∙◌, arith, refl}
use Rattle.hx_fate.specs.States.{tuned}
use Rattle.hx_command.proofs.Tuning.{one_fewer_stays, one_more_changes, stays_itself}
use Rattle.hx_command.proofs.threads.tune_first.Goals as goal

pub loop-at-init : goal.loop-at-init
loop-at-init g c = (
  refl,
  λ i f h lt p q. absurd (omega (arith, lt)),
  stays_itself (λ b. (goal.Fate-dyn g (b.vtable, b.value)).state b.value) (tuned c.args.tuning) 0 _,
)

pub loop-at-preserved : goal.loop-at-preserved
loop-at-preserved g c =
    let i = c.loop-at.invariant in
    let e = c.tune_at.ensures in (
      e.count ∙ i.0,
      one_more_changes (λ b. (goal.Fate-dyn g (b.vtable, b.value)).state b.value)
          (tuned c.args.tuning) c.loop-at.at _ c.loop-at.fates.items _ i.0 i.1 i.2 e.tuned e.others,
      one_fewer_stays (λ b. (goal.Fate-dyn g (b.vtable, b.value)).state b.value)
          (tuned c.args.tuning) c.loop-at.at _ c.loop-at.fates.items _ i.0 i.1 i.2 e.tuned e.others,
    )
